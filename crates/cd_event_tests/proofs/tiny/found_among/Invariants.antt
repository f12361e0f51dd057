use Rattle.cd_event_tests.proofs.States.{FoundSoFar}
use Rattle.cd_event_tests.proofs.tiny.found_among.Given as goal

abbrev pub invariant-loop-hash : goal.invariant-loop-hash
invariant-loop-hash g l = FoundSoFar g.H.Hash32.digest_of l.hashes l.hash-index l.found.items

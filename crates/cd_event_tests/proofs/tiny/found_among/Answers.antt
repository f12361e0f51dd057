use Rattle.std.proofs.Common.{◌≡◌, ◌+◌, ◌∷◌, ◌++◌, [], sym, subst}
use Rattle.cd_event_tests.proofs.States.{FoundSoFar, found_more, found_all}
use Rattle.cd_event_tests.proofs.tiny.found_among.Goals as goal

pub loop-hash-preserved : goal.loop-hash-preserved
loop-hash-preserved g c =
    let grown : c.push.new.self.items ≡ c.loop-hash.found.items ++ c.answer.result ∷ [] = rw c.if-is_err.ensures.negation at c.push.ensures.items in
    subst (FoundSoFar g.H.Hash32.digest_of c.args.hashes.now (c.loop-hash.hash-index + 1)) (sym grown)
    (found_more g.H.Hash32.digest_of c.args.hashes.now c.loop-hash.hash-index c.loop-hash.found.items c.answer.result (record { 0 = [] }) c.loop-hash.invariant c.answer.ensures.good c.answer.ensures.found)

pub returns-clause-faces : goal.returns-clause-faces
returns-clause-faces g c = found_all g.H.Hash32.digest_of c.args.hashes.now c.loop-hash.hash-index c.loop-hash.found.items c.loop-hash-test.false c.loop-hash.invariant

-- The hashes of the visits so far, each once.
use Rattle.std.proofs.Common.{◌≡◌, take, flat_map}
use Rattle.cd_cell.specs.Equality.{same_hash}
use Rattle.cd_update.specs.EachOnce.{each_once}
use Rattle.cd_update.specs.Visits.{visited}
use Rattle.cd_update.specs.Pairing.{wanted_at}
use Rattle.cd_update.proofs.wanted.hashes_of.Given as goal

abbrev pub invariant-loop-visit : goal.invariant-loop-visit
invariant-loop-visit g l = l.hashes.all.items ≡ each_once same_hash (flat_map (wanted_at g.H.Hash32.digest_of) (visited l.bag (take l.visit-index l.visits)))

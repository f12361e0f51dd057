-- The visits so far agree.
use Rattle.std.proofs.Common.{◌≡◌, take, flat_map, None}
use Rattle.cd_cell.specs.Equality.{same_hash}
use Rattle.cd_update.specs.EachOnce.{each_once, first_of}
use Rattle.cd_update.specs.Visits.{visited}
use Rattle.cd_update.specs.Pairing.{beside, wanted_at, misfit_at}
use Rattle.cd_update.proofs.pairing.check_visits.Given as goal

abbrev pub invariant-loop-visit : goal.invariant-loop-visit
invariant-loop-visit g l = record {
  all : l.hashes.all.items ≡ each_once same_hash (flat_map (wanted_at g.H.Hash32.digest_of) (visited l.bag (take l.visit-index l.visits)));
  agree : first_of (misfit_at g.H.Hash32.digest_of (beside (each_once same_hash (flat_map (wanted_at g.H.Hash32.digest_of) (visited l.bag l.visits))) l.faces)) (visited l.bag (take l.visit-index l.visits)) ≡ None;
}

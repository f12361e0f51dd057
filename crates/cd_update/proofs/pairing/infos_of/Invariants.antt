-- The infos of the visits so far, each once.
use Rattle.std.proofs.Common.{◌≡◌, take, flat_map, All}
use Rattle.cd_cell.specs.Equality.{same_info}
use Rattle.cd_update.specs.EachOnce.{each_once}
use Rattle.cd_update.specs.Visits.{visited}
use Rattle.cd_update.specs.Pairing.{known_at, IsOldInfo}
use Rattle.cd_update.proofs.pairing.infos_of.Given as goal

abbrev pub invariant-loop-visit : goal.invariant-loop-visit
invariant-loop-visit g l = record {
  all : l.infos.all.items ≡ each_once same_info (flat_map (known_at g.H.Hash32.digest_of) (visited l.bag (take l.visit-index l.visits)));
  old : All IsOldInfo l.infos.all.items;
}

-- The own cells of the visits so far.
use Rattle.std.proofs.Common.{◌≡◌, take, map}
use Rattle.cd_cell.specs.Levels.{info_of_face}
use Rattle.cd_cell.specs.Equality.{same_face}
use Rattle.cd_update.specs.EachOnce.{each_once}
use Rattle.cd_update.specs.Visits.{visited}
use Rattle.cd_update.specs.Grafts.{own_faces_at}
use Rattle.cd_update.specs.GraftWalks.{visits_of}
use Rattle.cd_update.proofs.grafting.HalfGraft.own.Given as goal

abbrev pub invariant-loop-number : goal.invariant-loop-number
invariant-loop-number g l = record {
  cells : l.own.cells.items ≡ each_once same_face (own_faces_at g.H.Hash32.digest_of l.self.known.now.infos (visited l.self.half.bag.now (take l.number (visits_of l.self))));
  infos : l.own.infos.items ≡ map (info_of_face g.H.Hash32.digest_of) l.own.cells.items;
}

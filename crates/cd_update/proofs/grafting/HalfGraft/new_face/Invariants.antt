-- The kids so far are what the grafts of the children show.
use Rattle.std.proofs.Common.{◌≡◌, take, map}
use Rattle.cd_update.specs.Nodes.{node}
use Rattle.cd_update.specs.GraftWalks.{face_in, new_info_at}
use Rattle.cd_update.proofs.grafting.HalfGraft.new_face.Given as goal

abbrev pub invariant-loop-child : goal.invariant-loop-child
invariant-loop-child g l = l.face ≡ record {
  exotic = (face_in l.self l.visit.node).exotic;
  bits = (face_in l.self l.visit.node).bits;
  kids = map (λ r. new_info_at g.H.Hash32.digest_of l.self (node l.depth r)) (take l.child-index l.child-items);
}

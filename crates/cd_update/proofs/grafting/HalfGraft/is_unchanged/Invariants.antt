-- The children so far show what the kids do.
use Rattle.std.proofs.Common.{◌≡◌, take, map}
use Rattle.cd_update.specs.Nodes.{node}
use Rattle.cd_update.specs.GraftWalks.{face_in, new_info_at}
use Rattle.cd_update.proofs.grafting.HalfGraft.is_unchanged.Given as goal

abbrev pub invariant-loop-place : goal.invariant-loop-place
invariant-loop-place g l = map (λ r. new_info_at g.H.Hash32.digest_of l.self (node l.depth r)) (take l.place l.children) ≡ take l.place (face_in l.self l.visit.node).kids

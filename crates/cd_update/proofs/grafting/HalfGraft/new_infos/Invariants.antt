-- The visits from a spot on have been worked out.
use Rattle.std.proofs.Common.{◌≤◌, length}
use Rattle.cd_update.specs.GraftWalks.{AreDone}
use Rattle.cd_update.proofs.grafting.HalfGraft.new_infos.Given as goal

abbrev pub invariant-loop-left : goal.invariant-loop-left
invariant-loop-left g l = record {
  done : AreDone g.H.Hash32.digest_of l.self l.left l.infos.items;
  low : l.left ≤ length l.self.half.walk.numbers.items;
}

abbrev pub decreases-loop-left : goal.decreases-loop-left
decreases-loop-left g l = l.left

use Rattle.std.proofs.Common.{◌≡◌, ◌++◌, map, take, drop}
use Rattle.cd_world.specs.Changes.{marked}
use Rattle.cd_world.proofs.expiring.mark_expired.Given as goal

abbrev pub invariant-loop-block : goal.invariant-loop-block
invariant-loop-block l = l.blocks ≡ map (marked l.master) (take l.block-index l.initial.blocks) ++ drop l.block-index l.initial.blocks

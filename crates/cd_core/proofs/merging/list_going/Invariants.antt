use Rattle.std.proofs.Common.{take}
use Rattle.cd_core.specs.Merging.{AreGoing, rows_of_ends}
use Rattle.cd_core.proofs.merging.list_going.Given as goal

abbrev pub invariant-loop-block : goal.invariant-loop-block
invariant-loop-block l = AreGoing l.world (rows_of_ends l.ends) l.going.roots.items l.going.ids.items (take l.block-index l.world.blocks)

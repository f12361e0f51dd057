use Rattle.std.proofs.Common.{take, All}
use Rattle.cd_block.specs.Block.{IsBlockId}
use Rattle.cd_core.proofs.placing.know_all.Given as goal

abbrev pub invariant-loop-id : goal.invariant-loop-id
invariant-loop-id l = All IsBlockId (take l.id-index l.ids)

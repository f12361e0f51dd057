use Rattle.std.proofs.Common.{take, All}
use Rattle.cd_block.specs.Description.{IsDescr}
use Rattle.cd_core.proofs.knowing.know_blocks.Given as goal

abbrev pub invariant-loop-block : goal.invariant-loop-block
invariant-loop-block l = All IsDescr (take l.block-index l.blocks)

use Rattle.std.proofs.Common.{◌∙◌, arith}
use Rattle.cd_block.proofs.Halves.{is_parent}
use Rattle.cd_block.proofs.shard.is_half.Goals as goal

pub returns : goal.returns
returns c =
    c.eq.ensures ∙ is_parent c.args.shard c.args.parent c.parent_number.result c.parent_number.ensures.child c.parent_number.ensures.only (omega arith)

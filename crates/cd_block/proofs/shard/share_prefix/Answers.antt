use Rattle.std.proofs.Common.{sym, arith, inl, inr}
use Rattle.cd_block.proofs.Prefixes.{is_either_prefix-shifted, is_either_prefix-zero}
use Rattle.cd_block.proofs.shard.share_prefix.Goals as goal
use Rattle.cd_block.proofs.shard.share_prefix.Goals.{then-a-eq0-via-then-a-eq0, then-a-eq0-via-else-a-eq0+then-b-eq0}

pub returns-then-a-eq0 : goal.returns-then-a-eq0
returns-then-a-eq0 c =
    sym (is_either_prefix-zero c.args.a c.args.b (elim c.then-a-eq0.branch [
      | then-a-eq0-via-then-a-eq0 w ↦ inl w.if-a-eq0.true
      | then-a-eq0-via-else-a-eq0+then-b-eq0 w ↦ inr w.if-b-eq0.true
    ]))

pub returns : goal.returns
returns c =
    is_either_prefix-shifted c.args.a c.args.b c.max-tag.result (omega arith) (omega arith) (omega arith) (omega arith) c.max-tag.ensures

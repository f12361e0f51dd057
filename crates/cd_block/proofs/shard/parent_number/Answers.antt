use Rattle.std.proofs.Common.{ap, sym, arith, inl, inr, Some}
use Rattle.cd_block.proofs.Halves.{IsHalf-code, IsHalf-child, IsHalf-only, tag-below_top, no_parent}
use Rattle.cd_block.proofs.shard.parent_number.Goals as goal
use Rattle.cd_block.proofs.shard.parent_number.Goals.{then-shard-eq0-via-then-shard-eq0, then-shard-eq0-via-else-shard-eq0+then-shard-eq9223372036854775808}

pub overflow_shl-result : goal.overflow_shl-result
overflow_shl-result c =
    let h = IsHalf-code c.args.shard (omega arith) (omega arith) c.if-shard-eq9223372036854775808.false in
    tag-below_top _ _ _ _ h.1

pub returns-then-shard-eq0-clause-only : goal.returns-then-shard-eq0-clause-only
returns-then-shard-eq0-clause-only c = λ parent small child.
    absurd (no_parent c.args.shard parent (elim c.then-shard-eq0.branch [
      | then-shard-eq0-via-then-shard-eq0 w ↦ inl w.if-shard-eq0.true
      | then-shard-eq0-via-else-shard-eq0+then-shard-eq9223372036854775808 w ↦ inr w.if-shard-eq9223372036854775808.true
    ]) child)

pub returns-clause-child : goal.returns-clause-child
returns-clause-child c =
    let h = IsHalf-code c.args.shard (omega arith) (omega arith) c.if-shard-eq9223372036854775808.false in
    IsHalf-child _ _ _ _ h.1

pub returns-clause-only : goal.returns-clause-only
returns-clause-only c = λ parent small child.
    let h = IsHalf-code c.args.shard (omega arith) (omega arith) c.if-shard-eq9223372036854775808.false in
    ap Some (sym (IsHalf-only _ _ _ _ parent h.1 small child))

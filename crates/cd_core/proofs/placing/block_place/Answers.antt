use Rattle.std.proofs.Common.{◌<◌, length, sym, ap, ◌∙◌, arith}
use Rattle.std.specs.Ordering.{is_lt}
use Rattle.cd_block.specs.declared.block.BlockId.{BlockId}
use Rattle.cd_block.specs.Block.{id_cmp}
use Rattle.cd_core.proofs.Places.{place-here, place-on}
use Rattle.cd_core.proofs.placing.block_place.Goals as goal

pub returns-then-is_lt-clause-place : goal.returns-then-is_lt-clause-place
returns-then-is_lt-clause-place c = λ d same.
    let low : c.loop-place.place < length c.args.blocks.now = omega arith in
    place-here d c.args.blocks.now c.loop-place.place c.index-blocks-place.result low c.index-blocks-place.is (c.loop-place.invariant d same)
    (ap (λ (id : BlockId). is_lt (id_cmp id c.index-blocks-place.result.id)) same ∙ sym (c.is_lt.ensures ∙ ap is_lt c.cmp.ensures) ∙ c.if-is_lt.true)

pub loop-place-preserved : goal.loop-place-preserved
loop-place-preserved c = λ d same.
    let low : c.loop-place.place < length c.args.blocks.now = omega arith in
    place-on d c.args.blocks.now c.loop-place.place c.index-blocks-place.result low c.index-blocks-place.is (c.loop-place.invariant d same)
    (ap (λ (id : BlockId). is_lt (id_cmp id c.index-blocks-place.result.id)) same ∙ sym (c.is_lt.ensures ∙ ap is_lt c.cmp.ensures) ∙ c.if-is_lt.false)

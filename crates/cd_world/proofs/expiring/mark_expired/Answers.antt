use Rattle.std.proofs.Common.{◌<◌, length, slice_set, sym, ap, ◌∙◌, arith}
use Rattle.std.proofs.lemmas.List.Edits.{map_over_more}
use Rattle.cd_world.specs.Changes.{marked}
use Rattle.cd_world.proofs.expiring.mark_expired.Goals as goal

pub loop-block-preserved : goal.loop-block-preserved
loop-block-preserved c =
    let low : c.loop-block.block-index < length c.args.blocks.now = omega arith in
    ap (slice_set c.loop-block.blocks c.loop-block.block-index) (c.mark.ensures ∙ ap (marked c.args.master.now) (sym c.block-item.is))
    ∙ map_over_more (marked c.args.master.now) c.args.blocks.now c.loop-block.blocks c.loop-block.block-index c.block-item.result low c.loop-block.invariant c.block-item.is

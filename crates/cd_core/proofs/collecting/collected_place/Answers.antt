use Rattle.std.proofs.Common.{◌≡◌, get_or, length, Some, sym, ap, ◌∙◌, true}
use Rattle.std.specs.Prelude.{slice_get, ◌&&◌}
use Rattle.std.proofs.lemmas.Option.{slice_get_read}
use Rattle.cd_world.specs.Standing.{same_id}
use Rattle.cd_core.proofs.Unpinned.{shared-stays, goes-is}
use Rattle.cd_core.proofs.collecting.collected_place.Goals as goal

pub returns-then-is_shared-clause-none : goal.returns-then-is_shared-clause-none
returns-then-is_shared-clause-none c = λ _. shared-stays c.args.world.now c.args.row.now (sym c.is_shared.ensures ∙ c.if-is_shared.true)

pub returns-then-block-clause-some : goal.returns-then-block-clause-some
returns-then-block-clause-some c =
    let w = c.args.world.now in
    let row = c.args.row.now in
    let b = c.index-blocks-place.result in
    let there : slice_get w.blocks c.loop-place.place ≡ Some b =
    slice_get_read w.blocks (length c.as_slice-blocks.result.now) c.loop-place.place b (ap length c.as_slice-blocks.ensures) c.loop-place-test.true
    (c.index-blocks-place.is ∙ ap (λ ys. get_or ys c.loop-place.place b) c.as_slice-blocks.ensures) in
    let named : same_id b.id row.block ≡ true = sym c.is_same_id.ensures.test ∙ c.if-is_same_id.true in
    (b, there, goes-is w row (sym c.is_shared.ensures ∙ c.if-is_shared.false) b ∙ ap (λ x. x && b.leaving) named ∙ c.if-block.true)

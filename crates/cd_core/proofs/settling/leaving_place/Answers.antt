use Rattle.std.proofs.Common.{◌≡◌, ◌≤◌, List, get_or, length, Some, ap, ◌∙◌, subst, take_all, arith}
use Rattle.std.specs.Prelude.{None, find, slice_get}
use Rattle.std.proofs.lemmas.Option.{slice_get_read}
use Rattle.cd_block.specs.declared.description.Descr.{Descr}
use Rattle.cd_core.specs.Settling.{is_leaving}
use Rattle.cd_core.proofs.Settled.{first-at, none-later}
use Rattle.cd_core.proofs.settling.leaving_place.Goals as goal

pub returns-then-block-clause-some : goal.returns-then-block-clause-some
returns-then-block-clause-some c =
    let w = c.args.world.now in
    let b = c.index-blocks-place.result in
    let there : slice_get w.blocks c.loop-place.place ≡ Some b =
    slice_get_read w.blocks (length c.as_slice-blocks.result.now) c.loop-place.place b (ap length c.as_slice-blocks.ensures) c.loop-place-test.true
    (c.index-blocks-place.is ∙ ap (λ ys. get_or ys c.loop-place.place b) c.as_slice-blocks.ensures) in
    let first = first-at is_leaving w.blocks c.loop-place.place b c.loop-place.invariant there c.if-block.true in
    (b, there, first.0, first.1)

pub loop-place-preserved : goal.loop-place-preserved
loop-place-preserved c =
    let w = c.args.world.now in
    let b = c.index-blocks-place.result in
    let there : slice_get w.blocks c.loop-place.place ≡ Some b =
    slice_get_read w.blocks (length c.as_slice-blocks.result.now) c.loop-place.place b (ap length c.as_slice-blocks.ensures) c.loop-place-test.true
    (c.index-blocks-place.is ∙ ap (λ ys. get_or ys c.loop-place.place b) c.as_slice-blocks.ensures) in
    none-later is_leaving w.blocks c.loop-place.place b c.loop-place.invariant there c.if-block.false

pub returns-clause-none : goal.returns-clause-none
returns-clause-none c = λ _.
    let w = c.args.world.now in
    let past : length w.blocks ≤ c.loop-place.place = omega (arith, ap length c.as_slice-blocks.ensures) in
    subst (λ (ds : List Descr). find is_leaving ds ≡ None) (take_all c.loop-place.place w.blocks past) c.loop-place.invariant

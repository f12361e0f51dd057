use Rattle.std.proofs.Common.{◌≡◌, get_or, true, sym, ◌∙◌, subst}
use Rattle.std.specs.Prelude.{Result, Ok, Err, OnOk}
use Rattle.cd_block.specs.declared.description.Descr.{Descr}
use Rattle.cd_world.specs.Changes.{goes_with}
use Rattle.cd_world.proofs.Searches.{find-passes}
use Rattle.cd_core.specs.Settling.{is_leaving}
use Rattle.cd_core.specs.Steps.{Batches, told_without}
use Rattle.cd_core.proofs.Settled.{block-is, ended-goes, batches-left}
use Rattle.cd_core.proofs.settling.drop_leaving.Goals as goal

on-ok : {A E : Type 0} (r : Result A E) (P Q : Type 0) → (P → Q) → OnOk r P → OnOk r Q
on-ok (Ok x) P Q f p = f p
on-ok (Err e) P Q f p = tt

pub drop_block-requires-clause-goes : goal.drop_block-requires-clause-goes
drop_block-requires-clause-goes g c =
    let w = c.args.world.now in
    let first = c.requires.first in
    let d = first.0 in
    let same = block-is w.blocks c.as_slice.result.now c.args.place c.index-as_slice-place.result d c.as_slice.ensures c.index-as_slice-place.is first.1 in
    let read : get_or c.as_slice.result.now c.args.place c.index-as_slice-place.result ≡ d = sym c.index-as_slice-place.is ∙ same in
    let leaving = find-passes is_leaving w.blocks d first.2 in (
      d,
      first.1,
      subst (λ (x : Descr). goes_with w (record { pin = 0; worker = 0; block = x.id }) d ≡ true) (sym read)
          (ended-goes w c.requires.kept c.requires.bare c.args.place d first.1 leaving),
    )

pub returns-clause-done : goal.returns-clause-done
returns-clause-done g c =
    let k = g.K.Keeper in
    let w = c.args.world.now in
    let first = c.requires.first in
    let d = first.0 in
    let same = block-is w.blocks c.as_slice.result.now c.args.place c.index-as_slice-place.result d c.as_slice.ensures c.index-as_slice-place.is first.1 in
    let read : get_or c.as_slice.result.now c.args.place c.index-as_slice-place.result ≡ d = sym c.index-as_slice-place.is ∙ same in
    let leaving = find-passes is_leaving w.blocks d first.2 in
    on-ok c.drop_block.result _ _ (λ made.
    batches-left w c.requires.kept c.requires.bare c.args.place d first.1 leaving first.3 k.held g.H.Hash32.digest_of k.trail k.batches c.args.keeper.now c.drop_block.new.keeper
    (subst (λ (x : Descr). Batches k.held g.H.Hash32.digest_of k.trail k.batches w (told_without (record { pin = 0; worker = 0; block = x.id })) c.args.keeper.now c.drop_block.new.keeper) read made))
    c.drop_block.ensures.done

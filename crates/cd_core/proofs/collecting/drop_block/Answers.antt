use Rattle.std.proofs.Common.{◌≡◌, ℕ, ◌+◌, ◌*◌, ◌≤◌, List, length, get_or, Some, refl, sym, ap, ◌∙◌, subst}
use Rattle.std.specs.Prelude.{slice_get, Result, Ok, Err, OnOk}
use Rattle.std.proofs.lemmas.Option.{same_Some, slice_get_read, slice_get_within}
use Rattle.std.proofs.lemmas.List.Elements.{All-contains}
use Rattle.cd_block.specs.declared.description.Descr.{Descr}
use Rattle.cd_block.specs.Block.{IsBlockId}
use Rattle.cd_block.specs.Description.{IsDescr}
use Rattle.cd_world.specs.Changes.{goes_with}
use Rattle.cd_core.proofs.Apart.{there}
use Rattle.cd_core.proofs.Dropped.{drop-leads, drop-reads}
use Rattle.cd_core.proofs.collecting.drop_block.Goals as goal

-- the block that the code reads
block-is : (xs ys : List Descr) (place : ℕ) (b d : Descr) → ys ≡ xs → b ≡ get_or ys place b → slice_get xs place ≡ Some d → b ≡ d
block-is xs ys place b d same is at =
    let read : slice_get xs place ≡ Some b = slice_get_read xs (length xs) place b refl (slice_get_within xs place d at) (is ∙ ap (λ zs. get_or zs place b) same) in
    same_Some b d (sym read ∙ at)

on-ok : {A E : Type 0} (r : Result A E) (P Q : Type 0) → (P → Q) → OnOk r P → OnOk r Q
on-ok (Ok x) P Q f p = f p
on-ok (Err e) P Q f p = tt

pub returns-in_err-plan-clause-reads : goal.returns-in_err-plan-clause-reads
returns-in_err-plan-clause-reads g c =
    let k = g.K.Keeper in
    let w = c.args.world.now in
    let goes = c.requires.goes in
    let same = block-is w.blocks c.as_slice.result.now c.args.place c.index-as_slice-place.result goes.0 c.as_slice.ensures c.index-as_slice-place.is goes.1 in
    drop-reads k.held g.H.Hash32.digest_of k.trail k.batches k.reads w c.args.row.now c.args.place goes.0 c.requires.kept goes.1 goes.2
    c.args.keeper.now c.plan_without.new.keeper c.index-as_slice-place.result.root (ap (λ (d : Descr). d.root) same) c.plan_without.ensures.reads

pub apply_without-requires : goal.apply_without-requires
apply_without-requires g c =
    let w = c.args.world.now in
    let goes = c.requires.goes in
    let same = block-is w.blocks c.as_slice.result.now c.args.place c.index-as_slice-place.result goes.0 c.as_slice.ensures c.index-as_slice-place.is goes.1 in
    let is = All-contains IsDescr w.blocks goes.0 c.requires.kept.are (there (goes_with w c.args.row.now) w.blocks c.args.place goes.0 goes.1) in
    subst (λ (d : Descr). IsBlockId d.id) (sym same) is.id

pub returns-clause-done : goal.returns-clause-done
returns-clause-done g c =
    let k = g.K.Keeper in
    let w = c.args.world.now in
    let goes = c.requires.goes in
    let same = block-is w.blocks c.as_slice.result.now c.args.place c.index-as_slice-place.result goes.0 c.as_slice.ensures c.index-as_slice-place.is goes.1 in
    on-ok c.apply_without.result _ _ (λ made.
    drop-leads k.held g.H.Hash32.digest_of k.trail k.batches k.reads w c.args.row.now c.args.place goes.0 c.requires.kept goes.1 goes.2
    c.args.keeper.now c.plan_without.new.keeper c.apply_without.new.keeper c.in_ok-plan.plan c.index-as_slice-place.result.root c.index-as_slice-place.result.id
    (ap (λ (d : Descr). d.root) same) (ap (λ (d : Descr). d.id) same) c.plan_without.ensures.keeps c.in_ok-plan.ensures.dropped made.0 made.1 made.2)
    c.apply_without.ensures.done

pub returns-clause-reads : goal.returns-clause-reads
returns-clause-reads g c =
    let k = g.K.Keeper in
    let w = c.args.world.now in
    let goes = c.requires.goes in
    let same = block-is w.blocks c.as_slice.result.now c.args.place c.index-as_slice-place.result goes.0 c.as_slice.ensures c.index-as_slice-place.is goes.1 in
    drop-reads k.held g.H.Hash32.digest_of k.trail k.batches k.reads w c.args.row.now c.args.place goes.0 c.requires.kept goes.1 goes.2
    c.args.keeper.now c.apply_without.new.keeper c.index-as_slice-place.result.root (ap (λ (d : Descr). d.root) same)
    (λ t left block dead h together named ended.
    subst (λ n. n ≤ k.reads c.args.keeper.now + (4 * length dead + 1)) (sym c.apply_without.ensures.reads)
    (c.plan_without.ensures.reads t left block dead h together named ended))

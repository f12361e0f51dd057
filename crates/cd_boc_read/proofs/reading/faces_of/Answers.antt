use Rattle.std.proofs.Common.{◌≡◌, ℕ, List, length, map, Option, None, inr, sym, ap, ◌∙◌, arith}
use Rattle.std.specs.Option.{option_or, option_map}
use Rattle.std.specs.List.{zip}
use Rattle.std.proofs.lemmas.List.{length-map}
use Rattle.cd_base.specs.declared.hash.Hash256.{Hash256}
use Rattle.cd_cell.specs.declared.info.ChildInfo.{ChildInfo}
use Rattle.cd_cell.specs.FaceView.{FaceView}
use Rattle.cd_cell.specs.Infos.{rep_of_info}
use Rattle.cd_cell.specs.Levels.{info_of_face}
use Rattle.cd_cell.specs.Clashes.{clash_among, clash_of}
use Rattle.cd_cell.proofs.ClashLaws.{clash_of-found}
use Rattle.cd_cell.proofs.Unfoldings.{infos_from-faces, length-faces_from}
use Rattle.cd_boc_write.specs.CellTexts.{Text, entries_of_texts}
use Rattle.cd_boc_read.specs.declared.bag_fault.BagFault.TheVariants.{Clash}
use Rattle.cd_boc_read.specs.Views.{text_views}
use Rattle.cd_boc_read.specs.CellFaults.{faces_of_texts, infos_of_texts, cells_fault, fault_of_texts}
use Rattle.cd_boc_read.proofs.CellLoop.{length-entries, length-text_views}
use Rattle.cd_boc_read.proofs.reading.faces_of.Goals as goal

-- what the cells show is what their faces do
infos-shown : (H : List ℕ → Hash256) (ts : List Text) (faces : List FaceView) (infos : List ChildInfo) → faces ≡ faces_of_texts H ts → infos ≡ infos_of_texts H ts → infos ≡ map (info_of_face H) faces
infos-shown H ts faces infos filled found = found ∙ infos_from-faces H 0 (entries_of_texts ts) ∙ ap (map (info_of_face H)) (sym filled)

counted-by : (H : List ℕ → Hash256) (ts : List Text) (faces : List FaceView) (infos : List ChildInfo) → faces ≡ faces_of_texts H ts → infos ≡ infos_of_texts H ts → length infos ≡ length faces
counted-by H ts faces infos filled found = ap length (infos-shown H ts faces infos filled found) ∙ length-map faces (info_of_face H)

length-filled : (H : List ℕ → Hash256) (ts : List Text) (faces : List FaceView) → faces ≡ faces_of_texts H ts → length faces ≡ length ts
length-filled H ts faces filled = ap length filled ∙ length-faces_from H 0 (entries_of_texts ts) ∙ length-entries ts

-- where no cell has a fault, the fault is their clash
clash-by : (H : List ℕ → Hash256) (ts : List Text) (faces : List FaceView) (infos : List ChildInfo) (found : Option Hash256) → faces ≡ faces_of_texts H ts → infos ≡ infos_of_texts H ts
    → cells_fault H 0 ts (faces_of_texts H ts) ≡ None → found ≡ clash_among (zip (map rep_of_info infos) faces) → fault_of_texts H ts ≡ option_map Clash found
clash-by H ts faces infos found filled shown none least =
    ap (λ o. option_or o (option_map Clash (clash_of H (faces_of_texts H ts)))) none
    ∙ ap (λ fs. option_map Clash (clash_of H fs)) (sym filled)
    ∙ ap (option_map Clash) (clash_of-found H faces infos found (infos-shown H ts faces infos filled shown) least)

pub least_clash-requires-clause-counted : goal.least_clash-requires-clause-counted
least_clash-requires-clause-counted g c =
    counted-by g.H.Hash32.digest_of (text_views c.args.texts.now) c.deref.result.now c.deref-2.result.now (c.deref.ensures.value ∙ c.in_ok-cells.ensures.faces) (c.deref-2.ensures.value ∙ c.in_ok-cells.ensures.infos)

pub least_clash-requires-clause-few : goal.least_clash-requires-clause-few
least_clash-requires-clause-few g c =
    omega (arith, c.requires.few, length-text_views c.args.texts.now, length-filled g.H.Hash32.digest_of (text_views c.args.texts.now) c.deref.result.now (c.deref.ensures.value ∙ c.in_ok-cells.ensures.faces))

pub returns-in-Ok-None-clause-exact : goal.returns-in-Ok-None-clause-exact
returns-in-Ok-None-clause-exact g c =
    clash-by g.H.Hash32.digest_of (text_views c.args.texts.now) c.deref.result.now c.deref-2.result.now c.in-Ok-None.field-0 (c.deref.ensures.value ∙ c.in_ok-cells.ensures.faces) (c.deref-2.ensures.value ∙ c.in_ok-cells.ensures.infos)
    c.in_ok-cells.ensures.exact c.in-Ok-None.ensures ∙ ap (option_map Clash) c.in-Ok-None.field-0-is

pub returns-in-Ok-Some-clause-exact : goal.returns-in-Ok-Some-clause-exact
returns-in-Ok-Some-clause-exact g c =
    inr (clash-by g.H.Hash32.digest_of (text_views c.args.texts.now) c.deref.result.now c.deref-2.result.now c.in-Ok-Some.field-0 (c.deref.ensures.value ∙ c.in_ok-cells.ensures.faces) (c.deref-2.ensures.value ∙ c.in_ok-cells.ensures.infos)
    c.in_ok-cells.ensures.exact c.in-Ok-Some.ensures ∙ ap (option_map Clash) c.in-Ok-Some.field-0-is)

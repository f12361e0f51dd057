use Rattle.std.proofs.Common.{◌<◌, ◌-◌, ap, ◌∙◌, subst, arith, length, take}
use Rattle.std.specs.Prelude.{slice_index}
use Rattle.cd_boc_write.specs.CellTexts.{cell_text}
use Rattle.cd_boc_write.specs.Exports.{text_of_face}
use Rattle.cd_looks.specs.Answers.{IsFaceAt}
use Rattle.cd_slices.specs.declared.export.PlannedCell.{PlannedCell}
use Rattle.cd_slices.specs.Windows.{filled}
use Rattle.cd_slices.proofs.WindowLaws.{length-filled}
use Rattle.cd_slices.proofs.PlanLaws.{planned_text_is, face_is}
use Rattle.cd_slices.proofs.export.Export.text_of.Goals as goal

pub returns-clause-bytes : goal.returns-clause-bytes
returns-clause-bytes g c = ap length c.in_ok-text.ensures ∙ (length-filled _ _ ∙ (λ i. slice_index (c.as_slice.ensures i) c.args.number - c.start_of.ensures i))

pub returns-clause-text : goal.returns-clause-text
returns-clause-text g c = λ t told cells cells_are plan.
    let H = g.L.Hash.Hash32.digest_of in
    let export = c.args.self.now in
    let number = c.args.number in
    let cell = c.index-cell.result.now in
    let face = c.in_ok-face.face in
    let there : number < length export.cells.items = omega (arith, export.counted, c.requires.there) in
    let is_face = subst (λ (p : PlannedCell). IsFaceAt H (g.L.LookUp.tree c.args.look.now) p.hash face) c.index-cell.ensures c.in_ok-face.ensures.face in
    let same = face_is cells export plan H (g.L.LookUp.tree c.args.look.now) t number cell face told cells_are there c.requires.there is_face in
    c.in_ok-text.ensures
    ∙ ((λ i. filled (slice_index (c.as_slice.ensures i) number - c.start_of.ensures i) (cell_text export.layout.size (text_of_face face (take (length face.kids) (c.index-cell.ensures i).refs))))
    ∙ planned_text_is cells export plan number cell face c.requires.there same)

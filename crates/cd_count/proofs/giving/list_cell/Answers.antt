use Rattle.std.proofs.Common.{◌≡◌, List, false, Option, Some, None, IfSome, refl, sym, ap, ◌∙◌, subst}
use Rattle.std.specs.Prelude.{not}
use Rattle.std.specs.Option.{option_map, unwrap_or}
use Rattle.cd_base.specs.declared.hash.Hash256.{Hash256}
use Rattle.cd_cell.specs.FaceView.{FaceView}
use Rattle.cd_cell.specs.Equality.{same_face, same_face-Decides}
use Rattle.cd_cell.specs.Fit.{IsFaceFit}
use Rattle.cd_keeper.specs.Contents.{Contents}
use Rattle.cd_record.specs.declared.record.Record.{Record}
use Rattle.cd_count.specs.declared.rows.Row.{Row}
use Rattle.cd_count.specs.Reading.{stored_in}
use Rattle.cd_count.specs.PlanSteps.{first_row}
use Rattle.cd_count.specs.PlanRows.{rows_of, row_of}
use Rattle.cd_count.specs.PlanGiving.{new_row, listed_row, is_another, IsRowGood, AreRowsGood}
use Rattle.cd_count.proofs.Steps.{if_some-map}
use Rattle.cd_count.proofs.GoodRows.{good-insert}
use Rattle.cd_count.proofs.giving.list_cell.Goals as goal

same-itself : (face : FaceView) → not (same_face face face) ≡ false
same-itself face = ap not ((same_face-Decides face face).1 refl)

another : (found : Option Record) (face : FaceView) → not (same_face (listed_row found face).face face) ≡ is_another found face
another None face = same-itself face
another (Some r) face = refl

good-listed : (found : Option Row) (face : FaceView) → IsFaceFit face → IfSome found (λ r. IsRowGood (row_of r)) → IsRowGood (row_of (unwrap_or found (new_row face)))
good-listed None face fit read = record { face = fit; few = tt }
good-listed (Some r) face fit read = read

listed : (found : Option Record) (face : FaceView) → unwrap_or (option_map first_row found) (new_row face) ≡ listed_row found face
listed None face = refl
listed (Some r) face = refl

pub returns-clause-clashes : goal.returns-clause-clashes
returns-clause-clashes g c =
    let face = c.args.cell.now.face in
    if_some-map (λ (contents : Contents). c.in_ok-found.found ≡ option_map first_row (stored_in contents c.args.cell.now.hash.0))
    (λ (contents : Contents). c.ne-clashes.result ≡ is_another (stored_in contents c.args.cell.now.hash.0) face)
    (g.K.Keeper.held c.args.keeper.now) c.in_ok-found.ensures.value
    (λ contents found.
    let stored = stored_in contents c.args.cell.now.hash.0 in
    let row : c.listed_row-row.result ≡ listed_row stored face =
    c.listed_row-row.ensures ∙ ap (λ (o : Option Row). unwrap_or o (new_row face)) found ∙ listed stored face in
    c.ne-clashes.ensures ∙ ap (λ (f : FaceView). not (same_face f face)) c.get.ensures ∙ ap (λ (r : Row). not (same_face r.face face)) row ∙ another stored face)

pub returns-clause-good : goal.returns-clause-good
returns-clause-good g c = λ good.
    subst (λ (es : List (Hash256 × Row)). AreRowsGood (rows_of es)) (sym c.in_ok-insert.ensures.entries)
    (good-insert c.args.rows.now.entries c.args.cell.now.hash c.listed_row-row.result
    (subst (λ (r : Row). IsRowGood (row_of r)) (sym c.listed_row-row.ensures) (good-listed c.in_ok-found.found c.args.cell.now.face c.requires c.in_ok-found.ensures.good)) good)

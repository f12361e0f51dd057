use Rattle.std.proofs.Common.{◌<◌, length, map, All, ap, sym, subst, ◌∙◌}
use Rattle.std.proofs.lemmas.Result.{IfOk-weaker}
use Rattle.cd_cell.specs.declared.new_cell.NewCell.{NewCell}
use Rattle.cd_cell.specs.GoodFace.{IsGoodFace}
use Rattle.cd_cell.specs.declared.export_key.ExportKey.{ExportKey}
use Rattle.cd_gen.specs.Keys.{cell_at}
use Rattle.cd_gen.proofs.OrderLaws.{keys-there, good-listed, distinct-listed}
use Rattle.cd_gen.proofs.export.in_order.Goals as goal

pub cells_of-requires : goal.cells_of-requires
cells_of-requires c =
    subst (All (λ (key : ExportKey). key.number < length c.args.cells.now)) (sym c.deref.ensures.value)
    (keys-there c.args.cells.now c.in_ok-keys.keys.items c.sort_keys.new.keys.items c.in_ok-keys.ensures c.sort_keys.ensures)

pub returns-clause-good : goal.returns-clause-good
returns-clause-good c =
    IfOk-weaker c.cells_of.result _ _
    (λ listed is.
    subst (All (λ (x : NewCell). IsGoodFace x.face)) (sym (is ∙ ap (map (cell_at c.args.cells.now)) c.deref.ensures.value))
    (good-listed c.args.cells.now c.in_ok-keys.keys.items c.sort_keys.new.keys.items c.in_ok-keys.ensures c.sort_keys.ensures))
    c.cells_of.ensures

pub returns-clause-tree : goal.returns-clause-tree
returns-clause-tree c = λ t tree.
    IfOk-weaker c.cells_of.result _ _
    (λ listed is.
    is ∙ ap (map (cell_at c.args.cells.now)) c.deref.ensures.value
    ∙ distinct-listed c.args.cells.now c.in_ok-keys.keys.items c.sort_keys.new.keys.items c.in_ok-keys.ensures c.sort_keys.ensures t tree)
    c.cells_of.ensures

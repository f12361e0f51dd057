use Rattle.std.proofs.Common.{◌<◌, length, map, All, ap, ap₂, sym, subst, ◌∙◌, arith}
use Rattle.std.proofs.lemmas.List.{length-map}
use Rattle.std.proofs.lemmas.Result.{IfOk-weaker}
use Rattle.cd_cell.specs.declared.new_cell.NewCell.{NewCell}
use Rattle.cd_cell.specs.GoodFace.{IsGoodFace}
use Rattle.cd_cell.specs.declared.export_key.ExportKey.{ExportKey}
use Rattle.cd_prepare.specs.Keys.{cell_of_key}
use Rattle.cd_prepare.proofs.ListLaws.{all-there, listed_cells, few-listed, good-listed}
use Rattle.cd_prepare.proofs.zero.cells_below.Goals as goal

pub cells_of-requires : goal.cells_of-requires
cells_of-requires g c =
    let bag = c.args.root.now.bag.now in
    subst (λ fs. All (λ (key : ExportKey). key.number < length fs) c.deref.result.now) (sym c.cells.ensures.value)
    (subst (All (λ (key : ExportKey). key.number < length bag.cells)) (sym c.deref.ensures.value)
    (all-there g.H.Hash32.digest_of bag.cells bag.refs bag.roots c.args.root.now.is_bag c.args.root.now.number c.args.root.now.there c.in_ok-keys.keys.items c.sort_keys.new.keys.items c.in_ok-keys.ensures c.sort_keys.ensures))

pub returns-clause-cells : goal.returns-clause-cells
returns-clause-cells g c =
    let bag = c.args.root.now.bag.now in
    IfOk-weaker c.cells_of.result _ _
    (λ cells is.
    is ∙ ap₂ (λ fs ks. map (cell_of_key fs) ks) c.cells.ensures.value c.deref.ensures.value
    ∙ listed_cells g.H.Hash32.digest_of bag.cells bag.refs bag.roots c.args.root.now.is_bag c.args.root.now.number c.args.root.now.there c.in_ok-keys.keys.items c.sort_keys.new.keys.items c.in_ok-keys.ensures c.sort_keys.ensures)
    c.cells_of.ensures

pub returns-clause-few : goal.returns-clause-few
returns-clause-few g c =
    let bag = c.args.root.now.bag.now in
    let few = few-listed g.H.Hash32.digest_of bag.cells bag.refs bag.roots c.args.root.now.is_bag c.args.root.now.number c.args.root.now.there c.in_ok-keys.keys.items c.sort_keys.new.keys.items c.in_ok-keys.ensures c.sort_keys.ensures in
    IfOk-weaker c.cells_of.result _ _
    (λ cells is. omega (arith, few, ap length is, length-map c.deref.result.now (cell_of_key c.cells.result.now), ap length c.deref.ensures.value))
    c.cells_of.ensures

pub returns-clause-good : goal.returns-clause-good
returns-clause-good g c =
    let bag = c.args.root.now.bag.now in
    IfOk-weaker c.cells_of.result _ _
    (λ cells is.
    subst (All (λ (x : NewCell). IsGoodFace x.face)) (sym (is ∙ ap₂ (λ fs ks. map (cell_of_key fs) ks) c.cells.ensures.value c.deref.ensures.value))
    (good-listed g.H.Hash32.digest_of bag.cells bag.refs bag.roots c.args.root.now.is_bag c.args.root.now.number c.args.root.now.there c.in_ok-keys.keys.items c.sort_keys.new.keys.items c.in_ok-keys.ensures c.sort_keys.ensures))
    c.cells_of.ensures

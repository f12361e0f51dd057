use Rattle.std.proofs.Common.{◌<◌, length, map, All, ap, sym, subst, ◌∙◌}
use Rattle.std.proofs.lemmas.Result.{IfOk-weaker}
use Rattle.cd_cell.specs.declared.export_key.ExportKey.{ExportKey}
use Rattle.cd_prepare.specs.Keys.{cell_of_key}
use Rattle.cd_prepare.specs.NewCells.{AreListed}
use Rattle.cd_prepare.proofs.NewLists.{keys-there, AreListed-sorted}
use Rattle.cd_prepare.proofs.OwnFaces.{clear-faces}
use Rattle.cd_prepare.proofs.update.listing_of.Goals as goal

pub cells_of-requires : goal.cells_of-requires
cells_of-requires g c =
    let faces = c.args.faces.now in
    subst (All (λ (key : ExportKey). key.number < length faces)) (sym c.deref.ensures.value)
    (keys-there g.H.Hash32.digest_of faces c.requires.good c.args.infos.now c.requires.shown c.in_ok-keys.keys.items c.sort_keys.new.keys.items c.in_ok-keys.ensures c.sort_keys.ensures)

pub returns : goal.returns
returns g c =
    let H = g.H.Hash32.digest_of in
    let faces = c.args.faces.now in
    IfOk-weaker c.cells_of.result _ _
    (λ cells is.
    subst (AreListed H faces) (sym (is ∙ ap (map (cell_of_key faces)) c.deref.ensures.value))
    (AreListed-sorted H faces c.requires.good c.args.infos.now c.requires.shown c.in_ok-keys.keys.items c.sort_keys.new.keys.items c.in_ok-keys.ensures c.sort_keys.ensures (clear-faces H faces c.requires.clear)))
    c.cells_of.ensures

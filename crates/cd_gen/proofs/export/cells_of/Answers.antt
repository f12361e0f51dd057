use Rattle.std.proofs.Common.{◌∷◌, [], ◌++◌, map, take, get_or, ap, ap₂, sym, ◌∙◌}
use Rattle.std.proofs.lemmas.List.{get_or-map, take_more, map-append}
use Rattle.cd_cell.specs.Listings.{no_cell}
use Rattle.cd_gen.specs.Keys.{listed_cell, cell_at}
use Rattle.cd_cell.specs.declared.export_key.ExportKey.{ExportKey}
use Rattle.cd_gen.proofs.export.cells_of.Goals as goal

abbrev blank : ExportKey
blank = record { rank = record { lowness = 0; hash = record { 0 = [] } }; number = 0 }

pub loop-key-preserved : goal.loop-key-preserved
loop-key-preserved c =
    let cells = c.args.cells.now in
    let keys = c.args.keys.now in
    let k = c.loop-key.key-index in
    let key = get_or keys k blank in
    let at = c.new_cell.ensures ∙ ap listed_cell c.index-cells-key.is ∙ sym (get_or-map listed_cell cells key.number c.index-cells-key.result no_cell (c.requires k blank c.loop-key-test.true)) in
    c.in_ok-push.ensures.items
    ∙ ap₂ (λ xs x. xs ++ x ∷ []) c.loop-key.invariant at
    ∙ sym (ap (map (cell_at cells)) (take_more keys k blank c.loop-key-test.true) ∙ map-append (cell_at cells) (take k keys) (key ∷ []))

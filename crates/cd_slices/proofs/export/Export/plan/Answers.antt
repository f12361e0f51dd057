use Rattle.std.proofs.Common.{length, ap, ◌∙◌, arith}
use Rattle.std.proofs.lemmas.List.{length-map}
use Rattle.cd_cell.specs.Export.{distinct_cells}
use Rattle.cd_cell.specs.Listings.{new_cell_of}
use Rattle.cd_slices.proofs.export.Export.plan.Goals as goal

pub returns-clause-few : goal.returns-clause-few
returns-clause-few g c = λ t told.
    let H = g.L.Hash.Hash32.digest_of in
    let whole = c.in_ok-gathered.ensures.cells in
    let cells = c.in_ok-cells.ensures.tree H (g.L.LookUp.tree c.args.look.now) c.args.root.now t whole told (c.requires.root t told) in
    let count = ap length cells ∙ length-map (distinct_cells H t) (new_cell_of H) in
    omega (arith, count, c.in_ok-cells.ensures.count, whole.done, c.in_ok-gathered.ensures.whole.few)

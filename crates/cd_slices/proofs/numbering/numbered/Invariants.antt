use Rattle.cd_slices.specs.Numbering.{AreNumbered}
use Rattle.cd_slices.proofs.numbering.numbered.Given as goal

abbrev pub invariant-loop-cell : goal.invariant-loop-cell
invariant-loop-cell l = AreNumbered l.cells l.layout.size l.cell-index l.planned.items

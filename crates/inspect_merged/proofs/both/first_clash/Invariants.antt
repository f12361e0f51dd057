-- None of the cells so far clashes, so the first clash is one of the others.
use Rattle.std.proofs.Common.{◌≡◌, drop}
use Rattle.inspect_merged.specs.BothStates.{clash_between}
use Rattle.inspect_merged.proofs.both.first_clash.Given as goal

abbrev pub invariant-loop-cell : goal.invariant-loop-cell
invariant-loop-cell g l = clash_between l.left.whole.cells (drop l.cell-index l.right.whole.cells) ≡ clash_between l.left.whole.cells l.right.whole.cells

use Rattle.std.proofs.Common.{◌∙◌, sym}
use Rattle.cd_boc_read.proofs.Loops.{cells_more, cells_stop, cells_done}
use Rattle.cd_boc_read.proofs.frame.are_cells.Goals as goal

pub returns-then-number-cells : goal.returns-then-number-cells
returns-then-number-cells c = sym c.loop-place.invariant ∙ cells_stop c.args.cells c.loop-place.place c.args.numbers.now c.loop-place-test.true c.if-number-cells.true

pub loop-place-preserved : goal.loop-place-preserved
loop-place-preserved c = sym (cells_more c.args.cells c.loop-place.place c.args.numbers.now c.loop-place-test.true c.if-number-cells.false) ∙ c.loop-place.invariant

pub returns : goal.returns
returns c = sym c.loop-place.invariant ∙ cells_done c.args.cells c.loop-place.place c.args.numbers.now c.loop-place-test.false

use Rattle.std.proofs.Common.{sym}
use Rattle.cd_prepare.proofs.zero.all_cells.Goals as goal

pub returns-clause-cells : goal.returns-clause-cells
returns-clause-cells g c = rw (sym c.of.ensures.bag) (rw (sym c.of.ensures.number) c.cells_below.ensures.cells)

pub returns-clause-few : goal.returns-clause-few
returns-clause-few g c = rw (sym c.of.ensures.bag) c.cells_below.ensures.few

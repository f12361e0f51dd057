use Rattle.std.proofs.Common.{◌≡◌, drop}
use Rattle.cd_boc_read.specs.Reading.{are_cells}
use Rattle.cd_boc_read.proofs.frame.are_cells.Given as goal

abbrev pub invariant-loop-place : goal.invariant-loop-place
invariant-loop-place l = are_cells l.cells l.place (drop l.place l.numbers) ≡ are_cells l.cells 0 l.numbers

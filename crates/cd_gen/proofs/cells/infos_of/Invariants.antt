use Rattle.std.proofs.Common.{◌≡◌, map, take}
use Rattle.cd_gen.specs.declared.cell.Cell.{Cell}
use Rattle.cd_gen.proofs.cells.infos_of.Given as goal

abbrev pub invariant-loop-cell : goal.invariant-loop-cell
invariant-loop-cell l = l.infos.items ≡ map (λ (c : Cell). c.info) (take l.cell-index l.cells)

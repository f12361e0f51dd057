use Rattle.std.proofs.Common.{◌≡◌, ◌++◌, map, take}
use Rattle.cd_boc_write.specs.CellTexts.{texts_text}
use Rattle.cd_boc_write.specs.Exports.{text_of_cell}
use Rattle.cd_boc_write.proofs.export.put_cells.Given as goal

abbrev pub invariant-loop-cell : goal.invariant-loop-cell
invariant-loop-cell l = l.text.items ≡ l.initial.text.items ++ texts_text l.size (map (text_of_cell l.cells) (take l.cell-index l.cells))

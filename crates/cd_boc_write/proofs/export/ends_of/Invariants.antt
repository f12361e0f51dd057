use Rattle.std.proofs.Common.{◌≡◌, ◌≤◌, ◌*◌, ℕ, List, length, map, take}
use Rattle.cd_cell.specs.declared.new_cell.NewCell.{NewCell}
use Rattle.cd_boc_write.specs.CellTexts.{texts_text, ends_from}
use Rattle.cd_boc_write.specs.Exports.{text_of_cell}
use Rattle.cd_boc_write.proofs.export.ends_of.Given as goal

pub record AreEnds (cells : List NewCell) (size : ℕ) (ends : List ℕ) (end count : ℕ) : Type 0 where
  pub ends_are : ends ≡ ends_from size 0 (map (text_of_cell cells) (take count cells))
  pub end_is : end ≡ length (texts_text size (map (text_of_cell cells) (take count cells)))
  pub low : end ≤ 146 * count

abbrev pub invariant-loop-cell : goal.invariant-loop-cell
invariant-loop-cell l = AreEnds l.cells l.size l.ends.items l.end l.cell-index

use Rattle.std.proofs.Common.{◌≡◌, ◌+◌, ◌++◌, List, map, take, length, Some}
use Rattle.std.specs.Prelude.{count_by}
use Rattle.std.specs.List.{range_with_len}
use Rattle.cd_cell.specs.Tree.{Tree}
use Rattle.cd_cell.specs.Export.{distinct_cells}
use Rattle.cd_cell.specs.Listings.{new_cell_of}
use Rattle.cd_cell.specs.declared.new_cell.NewCell.{NewCell}
use Rattle.cd_boc_write.specs.CellTexts.{texts_text}
use Rattle.cd_boc_write.specs.Exports.{export_texts}
use Rattle.cd_boc_write.specs.Layouts.{start_of}
use Rattle.cd_looks.specs.Answers.{AskedAtMost}
use Rattle.cd_slices.specs.Planned.{IsPlanOf, is_met}
use Rattle.cd_slices.specs.Windows.{window, window_len}
use Rattle.cd_slices.proofs.export.Export.put_cells.Given as goal

abbrev pub invariant-loop-number : goal.invariant-loop-number
invariant-loop-number g l =
    let look = g.L.LookUp in
    let H = g.L.Hash.Hash32.digest_of in
    let layout = l.self.layout in
    let head = layout.header_len in
    record {
      ready : look.ready l.look;
      told : look.tree l.look ≡ look.tree l.fn.look;
      part : (t : Tree) → look.tree l.fn.look ≡ Some t → (cells : List NewCell) → cells ≡ map (new_cell_of H) (distinct_cells H t) → IsPlanOf cells l.self
          → l.part.items ≡ l.fn.part.items ++ window head l.from l.until (texts_text layout.size (take l.number (export_texts cells)));
      bytes : length l.part.items ≡ length l.fn.part.items + window_len head l.from l.until (start_of layout.ends l.number);
      asked : AskedAtMost (count_by (is_met layout l.from l.until) (range_with_len 0 l.number)) (look.asked l.fn.look) (look.asked l.look);
      went : look.goes l.fn.look l.look;
      faults : look.faults l.look ≡ look.faults l.fn.look;
    }

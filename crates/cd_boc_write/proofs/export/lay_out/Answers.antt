use Rattle.std.proofs.Common.{◌≡◌, ◌≤◌, ◌+◌, ◌*◌, ℕ, List, length, ap, ap₂, sym, subst, ◌∙◌, arith}
use Rattle.cd_cell.specs.declared.new_cell.NewCell.{NewCell}
use Rattle.cd_boc_write.specs.CellTexts.{ends_from}
use Rattle.cd_boc_write.specs.Exports.{width_of, export_texts}
use Rattle.cd_boc_write.specs.Layouts.{data_len}
use Rattle.cd_boc_write.proofs.WidthLaws.{width_of-few}
use Rattle.cd_boc_write.proofs.LayingLaws.{IsLaid, is_layout, is_layout_of}
use Rattle.cd_boc_write.proofs.export.lay_out.Goals as goal

pub ends_of-requires-clause-size : goal.ends_of-requires-clause-size
ends_of-requires-clause-size c = omega (arith, width_of-few (length c.args.cells.now) c.requires.few, c.width_of-size.ensures.value)

laid : (cells : List NewCell) (size off_bytes size' off_bytes' total : ℕ) (made seen ends : List ℕ) → length cells ≤ 1048576 → size ≡ width_of (length cells) → made ≡ ends_from size 0 (export_texts cells) → data_len made ≤ 146 * length cells → seen ≡ made → total ≡ data_len seen → off_bytes ≡ width_of total → ends ≡ made → size' ≡ size → off_bytes' ≡ off_bytes → IsLaid cells size off_bytes (6 + (4 * size' + off_bytes' * (1 + length cells))) ends
laid cells size off_bytes size' off_bytes' total made seen ends few size_is made_is low seen_is total_is off_is ends_is same_size same_off = record {
  few_cells = few;
  size_is = size_is;
  ends_are = ends_is ∙ made_is;
  low = subst (λ es. data_len es ≤ 146 * length cells) (sym ends_is) low;
  off_bytes_is = off_is ∙ ap width_of (total_is ∙ ap data_len (seen_is ∙ sym ends_is));
  header_is = ap₂ (λ s o. 6 + (4 * s + o * (1 + length cells))) same_size same_off;
}

pub invariant_of-result : goal.invariant_of-result
invariant_of-result c = record {
  laid_out =
      is_layout c.args.cells.now _ _ _ _
      (laid c.args.cells.now _ _ _ _ _ _ _ _ c.requires.few c.width_of-size.ensures.value c.in_ok-ends.ensures.ends c.in_ok-ends.ensures.low c.deref.ensures.value c.last_end-total.ensures
      c.width_of-off_bytes.ensures.value c.from-3.ensures c.from.ensures c.from-2.ensures);
}

pub returns : goal.returns
returns c =
    is_layout_of c.args.cells.now _ _ _ _
    (laid c.args.cells.now _ _ _ _ _ _ _ _ c.requires.few c.width_of-size.ensures.value c.in_ok-ends.ensures.ends c.in_ok-ends.ensures.low c.deref.ensures.value c.last_end-total.ensures
    c.width_of-off_bytes.ensures.value c.from-3.ensures c.from.ensures c.from-2.ensures)
    _

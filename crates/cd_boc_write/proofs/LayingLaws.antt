-- Laws of the layout of an export text.
use Rattle.std.proofs.Common.{◌≡◌, ℕ, ◌+◌, ◌*◌, ◌-◌, ◌<◌, ◌≤◌, List, [], ◌∷◌, ◌++◌, length, slice_index, ap, ap₂, sym, ◌∙◌, subst, ⊎_elim, arith}
use Rattle.std.proofs.lemmas.Bool.{cases_lt}
use Rattle.std.proofs.lemmas.List.{length-map}
use Rattle.std.proofs.Math.Nat.{mul-le-mul_left}
use Rattle.std.specs.Int.{bytes_low_first}
use Rattle.cd_base.specs.Numbers.{little}
use Rattle.cd_base.specs.Checksum.{crc32c}
use Rattle.cd_base.proofs.NumberLaws.{bytes_low_first-little}
use Rattle.cd_cell.specs.declared.new_cell.NewCell.{NewCell}
use Rattle.cd_boc_write.specs.declared.layout.Layout.{Layout}
use Rattle.cd_boc_write.specs.Frames.{body_text}
use Rattle.cd_boc_write.specs.CellTexts.{texts_text, ends_from}
use Rattle.cd_boc_write.specs.Exports.{width_of, text_of_cell, export_texts, export_shape, export_frame, export_text, header_text, header_of}
use Rattle.cd_boc_write.specs.Layouts.{data_len, IsLayout}
use Rattle.cd_boc_write.specs.LayoutOf.{IsLayoutOf}
use Rattle.cd_boc_write.proofs.WidthLaws.{width_of-few, width_of-some, width_of-most}
use Rattle.cd_boc_write.proofs.TextLaws.{length-ends_from, ends_from-rising, data_len-ends_from}
use Rattle.cd_boc_write.proofs.HeaderLaws.{length-header_text, body_text-export, export_text-parts, data_len-export}

-- what was worked out for some cells
pub record IsLaid (cells : List NewCell) (size off_bytes header_len : ℕ) (ends : List ℕ) : Type 0 where
  pub few_cells : length cells ≤ 1048576
  pub size_is : size ≡ width_of (length cells)
  pub ends_are : ends ≡ ends_from size 0 (export_texts cells)
  pub low : data_len ends ≤ 146 * length cells
  pub off_bytes_is : off_bytes ≡ width_of (data_len ends)
  pub header_is : header_len ≡ 6 + (4 * size + off_bytes * (1 + length cells))

module _ (cells : List NewCell) (size off_bytes header_len : ℕ) (ends : List ℕ) (laid : IsLaid cells size off_bytes header_len ends) where
  count : length ends ≡ length cells
  count = ap length laid.ends_are ∙ length-ends_from size 0 (export_texts cells) ∙ length-map cells (text_of_cell cells)

  texts_count : length (export_texts cells) ≡ length cells
  texts_count = length-map cells (text_of_cell cells)

  rising : (j k : ℕ) → j < k → k < length ends → slice_index ends j < slice_index ends k
  rising j k below in' =
      let inside : k < length (export_texts cells) = omega (arith, count, texts_count) in
      subst (λ es. slice_index es j < slice_index es k) (sym laid.ends_are) (ends_from-rising size 0 (export_texts cells) j k below inside)

  upto_last : (k : ℕ) → k < length ends → slice_index ends k ≤ data_len ends
  upto_last k in' =
      ⊎_elim
      (λ below. omega (arith, rising k (length ends - 1) below (omega arith)))
      (λ past. last k (omega arith))
      (cases_lt k (length ends - 1))
    where
      last : (k : ℕ) → k ≡ length ends - 1 → slice_index ends k ≤ data_len ends
      last k e = omega (arith, ap (λ n. slice_index ends n) e)

  offsets : off_bytes * (1 + length cells) ≤ 8388616
  offsets =
      let most : off_bytes ≤ 8 = omega (arith, laid.off_bytes_is, width_of-most (data_len ends)) in
      omega (arith, laid.few_cells, mul-le-mul_left (1 + length cells) most)

  pub is_layout : IsLayout size off_bytes header_len ends
  is_layout = record {
    some_size = omega (arith, laid.size_is, width_of-some (length cells));
    most_size = omega (arith, laid.size_is, width_of-few (length cells) laid.few_cells);
    some_off_bytes = omega (arith, laid.off_bytes_is, width_of-some (data_len ends));
    most_off_bytes = omega (arith, laid.off_bytes_is, width_of-most (data_len ends));
    few = omega (arith, count, laid.few_cells);
    header = omega (arith, laid.header_is, offsets, laid.size_is, width_of-few (length cells) laid.few_cells);
    rising = rising;
    within = λ k in'. omega (arith, upto_last k in', laid.low, laid.few_cells);
  }

  -- and it is the layout of the export text
  bytes : length (texts_text size (export_texts cells)) ≡ data_len ends
  bytes = sym (data_len-ends_from size (export_texts cells)) ∙ ap data_len (sym laid.ends_are)

  width : width_of (length (texts_text (width_of (length cells)) (export_texts cells))) ≡ off_bytes
  width = ap (λ s. width_of (length (texts_text s (export_texts cells)))) (sym laid.size_is) ∙ ap width_of bytes ∙ sym laid.off_bytes_is

  pub is_layout_of : (kept : IsLayout size off_bytes header_len ends) → IsLayoutOf cells (record { size = size; off_bytes = off_bytes; header_len = header_len; ends = ends; laid_out = kept })
  unfolding export_frame
  is_layout_of kept =
      let frame = export_frame cells in
      record {
        size = sym laid.size_is;
        off_bytes = width;
        header =
            length-header_text frame.shape frame.cells frame.roots frame.index (length frame.cell_data)
            ∙ ap₂ (λ s o. 6 + 3 * s + o + s * 1 + o * length (ends_from (width_of (length cells)) 0 (export_texts cells))) (sym laid.size_is) width
            ∙ ap (λ n. 6 + 3 * size + off_bytes + size * 1 + off_bytes * n) (length-ends_from (width_of (length cells)) 0 (export_texts cells) ∙ texts_count)
            ∙ omega (arith, laid.header_is);
        index = ap (λ s. ends_from s 0 (export_texts cells)) (sym laid.size_is) ∙ sym laid.ends_are;
      }

-- ---- the text by its layout

module _ (cells : List NewCell) (layout : Layout) (is : IsLayoutOf cells layout) where
  ends_count : length cells ≡ length layout.ends
  unfolding export_frame
  ends_count =
      sym (length-ends_from (width_of (length cells)) 0 (export_texts cells) ∙ length-map cells (text_of_cell cells)) ∙ ap length is.index

  bytes_count : length (export_frame cells).cell_data ≡ data_len layout.ends
  bytes_count = sym (data_len-export cells) ∙ ap data_len is.index

  pub size_of-layout : layout.size ≡ width_of (length cells)
  unfolding export_frame
  size_of-layout = sym is.size

  header_by_layout : header_of (export_frame cells) ≡ header_text (export_shape layout.size layout.off_bytes) (length layout.ends) (0 ∷ []) layout.ends (data_len layout.ends)
  unfolding export_frame
  header_by_layout =
      let frame = export_frame cells in
      ap₂ (λ s o. header_text (export_shape s o) (length cells) (0 ∷ []) frame.index (length frame.cell_data)) is.size is.off_bytes
      ∙ ap₂ (λ n es. header_text (export_shape layout.size layout.off_bytes) n (0 ∷ []) es (length frame.cell_data)) ends_count is.index
      ∙ ap (header_text (export_shape layout.size layout.off_bytes) (length layout.ends) (0 ∷ []) layout.ends) bytes_count

  data_by_layout : (export_frame cells).cell_data ≡ texts_text layout.size (export_texts cells)
  unfolding export_frame
  data_by_layout = ap (λ s. texts_text s (export_texts cells)) is.size

  -- the header, the texts, and the checksum of both, put one after another
  pub export_text-put : (none head body seen whole end : List ℕ) (crc : ℕ) → none ≡ [] → head ≡ none ++ header_text (export_shape layout.size layout.off_bytes) (length layout.ends) (0 ∷ []) layout.ends (data_len layout.ends) → body ≡ head ++ texts_text layout.size (export_texts cells) → seen ≡ body → crc ≡ crc32c seen → end ≡ bytes_low_first 0 4 crc → whole ≡ body ++ end → whole ≡ export_text cells
  export_text-put none head body seen whole end crc none_is head_is body_is seen_is crc_is end_is whole_is =
      let body_same : body ≡ body_text (export_frame cells) =
      body_is ∙ ap (λ h. h ++ texts_text layout.size (export_texts cells)) (head_is ∙ ap (λ n. n ++ header_text (export_shape layout.size layout.off_bytes) (length layout.ends) (0 ∷ []) layout.ends (data_len layout.ends)) none_is)
      ∙ ap₂ (λ h d. h ++ d) (sym header_by_layout) (sym data_by_layout) ∙ sym (body_text-export cells)
      in
      let crc_same : crc ≡ crc32c (body_text (export_frame cells)) = crc_is ∙ ap crc32c (seen_is ∙ body_same) in
      let end_same : end ≡ little 4 (crc32c (body_text (export_frame cells))) =
      end_is ∙ bytes_low_first-little 0 4 crc ∙ ap (little 4) (omega arith ∙ crc_same)
      in
      whole_is ∙ ap₂ (λ b e. b ++ e) body_same end_same ∙ sym (export_text-parts cells)

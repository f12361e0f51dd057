-- Trusted: the grammar of bags of cells (TL-B, `serialized_boc`): whole texts, joined from the values of the header and
-- the texts of the cells.
use Rattle.std.specs.Prelude.{◌≡◌, ℕ, ◌+◌, ◌*◌, ◌/◌, ◌^◌, ◌<◌, ◌≤◌, true, false, List, [], length, map, slice_index, slice_index_or, IfSome, if◌then◌else◌}
use Rattle.cd_base.specs.declared.hash.Hash256.{Hash256}
use Rattle.cd_cell.specs.declared.limits.TheConstants.{MOST_BITS, MOST_CELLS}
use Rattle.cd_cell.specs.Masks.{bit_count}
use Rattle.cd_cell.specs.Levels.{is_pruned}
use Rattle.cd_cell.specs.StoredText.{stored_text}
use Rattle.cd_cell.specs.Tree.{Tree, IsWellFormed, kind_of, mask_of, info_of}
use Rattle.cd_cell.specs.Unfolding.{unfold_from, unfolding_of}
use Rattle.cd_cell.specs.Export.{AreClashFree}
use Rattle.cd_boc_write.specs.declared.shape.Shape.{Shape}
use Rattle.cd_boc_write.specs.Frames.{Frame, frame_text}
use Rattle.cd_boc_write.specs.CellTexts.{Text, entries_of_texts, texts_text, ends_from}

-- numbers of 1 to 4 bytes, offsets of 1 to 8, and cache bits in an index alone
pub record IsShape (s : Shape) : Type 0 where
  pub some_size : 1 ≤ s.size
  pub most_size : s.size ≤ 4
  pub some_off_bytes : 1 ≤ s.off_bytes
  pub most_off_bytes : s.off_bytes ≤ 8
  pub cache : s.has_cache_bits ≡ true → s.has_index ≡ true

-- the end that an entry of the index states: with cache bits it is doubled, and the lowest bit is free
abbrev pub end_of_entry : Shape → ℕ → ℕ
end_of_entry s entry = if s.has_cache_bits then entry / 2 else entry

-- the bytes of the stored part: a hash of 32 and a depth of 2 for each significant level
abbrev pub stored_len : ℕ → ℕ
stored_len mask = 34 * (bit_count mask + 1)

-- the text of the cell with this number, of so many
pub record IsText (cells number : ℕ) (t : Text) : Type 0 where
  pub few_bits : length t.entry.bits ≤ MOST_BITS
  pub few_refs : length t.entry.refs ≤ 4
  pub mask : t.mask ≤ 7
  pub stored : IfSome t.stored (λ bytes. length bytes ≡ stored_len t.mask)
  -- the children stand behind the cell
  pub later : (p : ℕ) → p < length t.entry.refs → number < slice_index t.entry.refs p
  pub there : (p : ℕ) → p < length t.entry.refs → slice_index t.entry.refs p < cells

-- a frame round the texts of some cells, each number of it in its range
pub record IsBagOf (f : Frame) (ts : List Text) : Type 0 where
  pub shape : IsShape f.shape
  pub counted : f.cells ≡ length ts
  pub few_cells : length ts ≤ MOST_CELLS
  pub cells_fit : length ts < 256 ^ f.shape.size
  pub some_roots : 1 ≤ length f.roots
  pub few_roots : length f.roots ≤ length ts
  pub rooted : (p : ℕ) → p < length f.roots → slice_index f.roots p < length ts
  pub texts : (k : ℕ) (d : Text) → k < length ts → IsText (length ts) k (slice_index_or ts k d)
  pub cell_data : f.cell_data ≡ texts_text f.shape.size ts
  pub data_fits : length f.cell_data < 256 ^ f.shape.off_bytes
  pub index : f.shape.has_index ≡ true → map (end_of_entry f.shape) f.index ≡ ends_from f.shape.size 0 ts
  pub index_fits : (p : ℕ) → p < length f.index → slice_index f.index p < 256 ^ f.shape.off_bytes
  pub no_index : f.shape.has_index ≡ false → f.index ≡ []

module _ (H : List ℕ → Hash256) where
  -- what the text states of its cell is so: the mask, and hashes and depths where they are stored, which those of a
  -- pruned branch may not be
  pub record IsStated (t : Text) (tree : Tree) : Type 0 where
    pub mask : mask_of H tree ≡ t.mask
    pub stored : IfSome t.stored
        (λ bytes. (is_pruned (kind_of H tree) ≡ false) × (bytes ≡ stored_text (info_of H tree)))

  -- bytes are a bag of these trees: all its cells are well-formed, and together free of clashes
  pub record Spells (bytes : List ℕ) (trees : List Tree) : Type 0 where
    pub frame : Frame
    pub texts : List Text
    pub bag : IsBagOf frame texts
    pub text : bytes ≡ frame_text frame
    pub good : (k : ℕ) → k < length texts → IsWellFormed H (unfolding_of (entries_of_texts texts) k)
    pub stated : (k : ℕ) (d : Text) → k < length texts
        → IsStated (slice_index_or texts k d) (unfolding_of (entries_of_texts texts) k)
    pub clear : AreClashFree H (unfold_from 0 (entries_of_texts texts))
    pub are : trees ≡ map (unfolding_of (entries_of_texts texts)) frame.roots

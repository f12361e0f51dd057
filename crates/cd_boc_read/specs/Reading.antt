-- Trusted: reading a bag from left to right, with the first fault that is met: the frame, and then the texts of the
-- cells.
use Rattle.std.specs.Prelude.{ℕ, zero, suc, ◌+◌, ◌-◌, ◌*◌, ◌/◌, ◌%◌, Bool, true, not, ◌&&◌, ◌||◌, ◌==◌, nat_lt, nat_le, List, [], ◌∷◌, length, take, drop, slice_index, Some, None, Result, Ok, Err, if◌then◌else◌}
use Rattle.std.specs.List.{list_all}
use Rattle.cd_base.specs.Numbers.{from_big, from_little}
use Rattle.cd_base.specs.Reading.{◌>>=◌, require, part_at, byte_at, number_at}
use Rattle.cd_base.specs.Checksum.{crc32c}
use Rattle.cd_cell.specs.declared.limits.TheConstants.{MOST_CELLS}
use Rattle.cd_cell.specs.BitText.{data_bits}
use Rattle.cd_boc_write.specs.declared.shape.Shape.{Shape}
use Rattle.cd_boc_write.specs.Frames.{Frame}
use Rattle.cd_boc_write.specs.CellTexts.{Text}
use Rattle.cd_boc_read.specs.declared.bag_fault.BagFault.{BagFault}
use Rattle.cd_boc_read.specs.declared.bag_fault.BagFault.TheVariants.{Magic, Flags, Sizes, Cut, Roots, Absent, Limit, RootIndex, Extra, Crc, Descriptor, Length, Completion, Order, Index}
use Rattle.cd_boc_read.specs.declared.counts.Counts.{Counts}
use Rattle.cd_boc_read.specs.Grammar.{end_of_entry, stored_len}

-- so many numbers, each of `len` bytes
unfoldable pub numbers_in : ℕ → ℕ → List ℕ → List ℕ
numbers_in len zero bytes = []
numbers_in len (suc count) bytes = from_big (take len bytes) ∷ numbers_in len count (drop len bytes)

unfoldable pub numbers_at : BagFault → ℕ → ℕ → List ℕ → Result (List ℕ × List ℕ) BagFault
numbers_at fault len count bytes = do
  part ← part_at fault (count * len) bytes
  Ok (numbers_in len count part.0, part.1)

-- ---- the frame

-- what the flag byte says: has_idx 80, has_crc32c 40, has_cache_bits 20, and the size of a number 07
unfoldable pub shape_of : ℕ → ℕ → Shape
shape_of flags off_bytes = record {
  size = flags % 8;
  off_bytes = off_bytes;
  has_index = flags / 128 % 2 == 1;
  has_crc = flags / 64 % 2 == 1;
  has_cache_bits = flags / 32 % 2 == 1;
}

-- the two zero bits are zero, and cache bits come with an index alone
unfoldable pub are_flags : ℕ → Bool
are_flags flags = (flags / 8 % 4 == 0) && (not (flags / 32 % 2 == 1) || (flags / 128 % 2 == 1))

-- numbers of 1 to 4 bytes, offsets of 1 to 8
unfoldable pub are_sizes : ℕ → ℕ → Bool
are_sizes size off_bytes = ((nat_le 1 size && nat_le size 4) && nat_le 1 off_bytes) && nat_le off_bytes 8

-- the magic number, the flag byte, and the size of an offset
unfoldable pub shape_at : BagFault → List ℕ → Result (Shape × List ℕ) BagFault
shape_at cut bytes = do
  magic ← number_at cut 4 bytes
  _ ← require (magic.0 == 0xb5ee9c72) (Magic magic.0)
  flags ← byte_at cut magic.1
  off_bytes ← byte_at cut flags.1
  _ ← require (are_flags flags.0) (Flags flags.0)
  _ ← require (are_sizes (flags.0 % 8) off_bytes.0) (Sizes (flags.0 % 8) off_bytes.0)
  Ok (shape_of flags.0 off_bytes.0, off_bytes.1)

-- the numbers of cells, of roots and of absent cells, and of the bytes of the cell data
unfoldable pub counts_at : BagFault → Shape → List ℕ → Result (Counts × List ℕ) BagFault
counts_at cut shape bytes = do
  cells ← number_at cut shape.size bytes
  roots ← number_at cut shape.size cells.1
  absent ← number_at cut shape.size roots.1
  total ← number_at cut shape.off_bytes absent.1
  _ ← require (nat_le 1 roots.0 && nat_le roots.0 cells.0) (Roots roots.0 cells.0)
  _ ← require (absent.0 == 0) (Absent absent.0)
  _ ← require (nat_le cells.0 MOST_CELLS) (Limit cells.0)
  Ok (record { cells = cells.0; roots = roots.0; total = total.0 }, total.1)

-- each of the numbers, of which the first stands in this place, names a cell
unfoldable pub are_cells : ℕ → ℕ → List ℕ → Result (Unit {0}) BagFault
are_cells cells place [] = Ok tt
are_cells cells place (number ∷ numbers) =
    if nat_lt number cells then are_cells cells (place + 1) numbers else Err (RootIndex place)

-- the root list
unfoldable pub roots_at : BagFault → ℕ → Counts → List ℕ → Result (List ℕ × List ℕ) BagFault
roots_at cut size counts bytes = do
  roots ← numbers_at cut size counts.roots bytes
  _ ← are_cells counts.cells 0 roots.0
  Ok roots

-- the bytes of the index
abbrev pub index_len : Shape → ℕ → ℕ
index_len shape cells = if shape.has_index then cells * shape.off_bytes else 0

-- behind the front stand its checksum, if there is to be one, and nothing else
unfoldable pub end_at : BagFault → Bool → List ℕ → List ℕ → Result (Unit {0}) BagFault
end_at cut has_crc front bytes =
    if has_crc
    then (do
      crc ← part_at cut 4 bytes
      _ ← require (length crc.1 == 0) (Extra (length front + 4))
      require (from_little crc.0 == crc32c front) (Crc (from_little crc.0) (crc32c front)))
    else require (length bytes == 0) (Extra (length front))

-- the frame, with the index as bytes
pub record FrameParts : Type 0 where
  pub shape : Shape
  pub cells : ℕ
  pub roots : List ℕ
  pub index : List ℕ
  pub cell_data : List ℕ

unfoldable pub frame_at : List ℕ → Result FrameParts BagFault
frame_at bytes = do
  shape ← shape_at (Cut (length bytes)) bytes
  counts ← counts_at (Cut (length bytes)) shape.0 shape.1
  roots ← roots_at (Cut (length bytes)) shape.0.size counts.0 counts.1
  index ← part_at (Cut (length bytes)) (index_len shape.0 counts.0.cells) roots.1
  cell_data ← part_at (Cut (length bytes)) counts.0.total index.1
  _ ← end_at (Cut (length bytes)) shape.0.has_crc (take (length bytes - length cell_data.1) bytes) cell_data.1
  Ok (record { shape = shape.0; cells = counts.0.cells; roots = roots.0; index = index.0; cell_data = cell_data.0 })

-- ---- the texts of the cells

-- the bytes of stored hashes and depths
abbrev pub stored_bytes : ℕ → ℕ
stored_bytes first = if first / 16 % 2 == 1 then stored_len (first / 32) else 0

-- whole bytes, or a last byte with a completion that isn't all of it
unfoldable pub is_completed : ℕ → List ℕ → Bool
is_completed second held = (second % 2 == 0) || not (slice_index held (length held - 1) % 128 == 0)

-- a reference from a cell to one behind it
unfoldable pub is_later : ℕ → ℕ → ℕ → Bool
is_later cells number reference = nat_lt number reference && nat_lt reference cells

-- the cell of these descriptors and parts
unfoldable pub text_of : ℕ → ℕ → List ℕ → List ℕ → List ℕ → Text
text_of first second stored held refs = record {
  entry = record { exotic = first / 8 % 2 == 1; bits = data_bits (second % 2 == 0) held; refs = refs };
  mask = first / 32;
  stored = if first / 16 % 2 == 1 then Some stored else None;
}

-- the parts of a text behind its descriptors
unfoldable pub parts_at : BagFault → ℕ → ℕ → ℕ → ℕ → ℕ → List ℕ → Result (Text × List ℕ) BagFault
parts_at fault size cells number first second bytes = do
  stored ← part_at fault (stored_bytes first) bytes
  held ← part_at fault ((second + 1) / 2) stored.1
  refs ← numbers_at fault size (first % 8) held.1
  _ ← require (is_completed second held.0) (Completion number)
  _ ← require (list_all (is_later cells number) refs.0) (Order number)
  Ok (text_of first second stored.0 held.0 refs.0, refs.1)

-- the text of the cell with this number, of so many; the fault is that of a text that passes the end
unfoldable pub text_at : BagFault → ℕ → ℕ → ℕ → List ℕ → Result (Text × List ℕ) BagFault
text_at fault size cells number [] = Err fault
text_at fault size cells number (first ∷ []) = Err fault
text_at fault size cells number (first ∷ second ∷ bytes) =
    require (nat_le (first % 8) 4) (Descriptor number) >>= λ _. parts_at fault size cells number first second bytes

-- what the index states first, if there is an index, is this end
unfoldable pub is_end : Shape → List ℕ → ℕ → Bool
is_end shape index end =
    if shape.has_index then end_of_entry shape (from_big (take shape.off_bytes index)) == end else true

-- the texts of the cells that are left, which take all that is left of so many bytes
unfoldable pub texts_at : Shape → ℕ → ℕ → ℕ → ℕ → List ℕ → List ℕ → Result (List Text) BagFault
texts_at shape cells total zero number index bytes = do
  _ ← require (length bytes == 0) (Length total (total - length bytes) number)
  Ok []
texts_at shape cells total (suc left) number index bytes = do
  text ← text_at (Length total (total - length bytes) number) shape.size cells number bytes
  _ ← require (is_end shape index (total - length text.1)) (Index number)
  others ← texts_at shape cells total left (number + 1) (drop shape.off_bytes index) text.1
  Ok (text.0 ∷ others)

-- the texts of all cells of a frame
abbrev pub all_texts_at : FrameParts → Result (List Text) BagFault
all_texts_at parts = texts_at parts.shape parts.cells (length parts.cell_data) parts.cells 0 parts.index parts.cell_data

-- ---- the bag

-- the frame, with its index as numbers
abbrev pub frame_of : FrameParts → Frame
frame_of parts = record {
  shape = parts.shape;
  cells = parts.cells;
  roots = parts.roots;
  index = if parts.shape.has_index then numbers_in parts.shape.off_bytes parts.cells parts.index else [];
  cell_data = parts.cell_data;
}

-- the frame and the texts of all cells
unfoldable pub bag_at : List ℕ → Result (Frame × List Text) BagFault
bag_at bytes = do
  parts ← frame_at bytes
  texts ← all_texts_at parts
  Ok (frame_of parts, texts)

-- Trusted: the fields of a bag of cells by their places in its bytes (TL-B, `serialized_boc`), as its own header states
-- them. Bytes that aren't there are read as none.
use Rattle.std.specs.Prelude.{ℕ, zero, suc, ◌+◌, ◌-◌, ◌*◌, ◌/◌, ◌%◌, List, take, drop, slice_index, if◌then◌else◌}
use Rattle.cd_base.specs.Numbers.{from_big}
use Rattle.cd_boc_write.specs.declared.shape.Shape.{Shape}
use Rattle.cd_boc_read.specs.Reading.{shape_of, index_len, stored_bytes}

-- the number in so many bytes from a place on, the highest byte first
unfoldable pub number_in : ℕ → ℕ → List ℕ → ℕ
number_in place len bytes = from_big (take len (drop place bytes))

-- what the flag byte says, and the byte behind it
unfoldable pub stated_shape : List ℕ → Shape
stated_shape bytes = shape_of (slice_index bytes 4) (slice_index bytes 5)

-- the numbers of cells, of roots and of absent cells, and of the bytes of the cell data
abbrev pub stated_cells : List ℕ → ℕ
stated_cells bytes = let s = stated_shape bytes in number_in 6 s.size bytes

abbrev pub stated_roots : List ℕ → ℕ
stated_roots bytes = let s = stated_shape bytes in number_in (6 + s.size) s.size bytes

abbrev pub stated_absent : List ℕ → ℕ
stated_absent bytes = let s = stated_shape bytes in number_in (6 + 2 * s.size) s.size bytes

abbrev pub stated_total : List ℕ → ℕ
stated_total bytes = let s = stated_shape bytes in number_in (6 + 3 * s.size) s.off_bytes bytes

-- the root list
abbrev pub roots_start : List ℕ → ℕ
roots_start bytes = let s = stated_shape bytes in 6 + 3 * s.size + s.off_bytes

abbrev pub stated_root : List ℕ → ℕ → ℕ
stated_root bytes root = let s = stated_shape bytes in number_in (roots_start bytes + root * s.size) s.size bytes

-- the index, if there is one
abbrev pub index_start : List ℕ → ℕ
index_start bytes = let s = stated_shape bytes in roots_start bytes + stated_roots bytes * s.size

abbrev pub stated_entry : List ℕ → ℕ → ℕ
stated_entry bytes cell =
    let s = stated_shape bytes in number_in (index_start bytes + cell * s.off_bytes) s.off_bytes bytes

-- the cell data, and behind them the checksum, if there is one
abbrev pub data_start : List ℕ → ℕ
data_start bytes = index_start bytes + index_len (stated_shape bytes) (stated_cells bytes)

abbrev pub data_end : List ℕ → ℕ
data_end bytes = data_start bytes + stated_total bytes

abbrev pub bag_end : List ℕ → ℕ
bag_end bytes = let s = stated_shape bytes in data_end bytes + (if s.has_crc then 4 else 0)

-- ---- the cell data

abbrev pub stated_data : List ℕ → List ℕ
stated_data bytes = take (stated_total bytes) (drop (data_start bytes) bytes)

-- the bytes of the text of a cell: both descriptors, the stored hashes and depths, the data, and the references
abbrev pub text_len : ℕ → List ℕ → ℕ
text_len size text =
    let first = slice_index text 0 in
    let second = slice_index text 1 in
    2 + stored_bytes first + (second + 1) / 2 + first % 8 * size

-- where the text of a cell begins in the cell data: where that of the one before it ends
unfoldable pub text_start : ℕ → List ℕ → ℕ → ℕ
text_start size cell_data zero = 0
text_start size cell_data (suc cell) =
    let start = text_start size cell_data cell in start + text_len size (drop start cell_data)

abbrev pub stated_start : List ℕ → ℕ → ℕ
stated_start bytes cell = text_start (stated_shape bytes).size (stated_data bytes) cell

-- the cell data from the text of a cell on
abbrev pub text_from : List ℕ → ℕ → List ℕ
text_from bytes cell = drop (stated_start bytes cell) (stated_data bytes)

-- the descriptors of a cell, the last byte of its data, and its references
abbrev pub stated_first : List ℕ → ℕ → ℕ
stated_first bytes cell = slice_index (text_from bytes cell) 0

abbrev pub stated_second : List ℕ → ℕ → ℕ
stated_second bytes cell = slice_index (text_from bytes cell) 1

-- where the data of a cell end
abbrev pub held_end : List ℕ → ℕ → ℕ
held_end bytes cell = 2 + stored_bytes (stated_first bytes cell) + (stated_second bytes cell + 1) / 2

abbrev pub stated_last : List ℕ → ℕ → ℕ
stated_last bytes cell = slice_index (text_from bytes cell) (held_end bytes cell - 1)

abbrev pub stated_ref : List ℕ → ℕ → ℕ → ℕ
stated_ref bytes cell place =
    let s = stated_shape bytes in number_in (held_end bytes cell + place * s.size) s.size (text_from bytes cell)

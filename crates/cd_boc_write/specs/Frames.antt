-- Trusted: the frame of a bag of cells: all of its text but what the cell data say (TL-B, `serialized_boc`).
use Rattle.std.specs.Prelude.{ℕ, ◌+◌, List, [], ◌++◌, length, if◌then◌else◌}
use Rattle.std.specs.List.{flat_map}
use Rattle.cd_base.specs.Numbers.{big, little}
use Rattle.cd_base.specs.Checksum.{crc32c}
use Rattle.cd_boc_write.specs.declared.shape.Shape.{Shape}

-- the shape, the number of cells, the numbers of the roots, the index as it stands, and the cell data
pub record Frame : Type 0 where
  pub shape : Shape
  pub cells : ℕ
  pub roots : List ℕ
  pub index : List ℕ
  pub cell_data : List ℕ

-- the flag byte: has_idx, has_crc32c, has_cache_bits, two zero bits, and the size of a number
abbrev pub flags_of : Shape → ℕ
flags_of s = s.size + (if s.has_cache_bits then 32 else 0) + (if s.has_crc then 64 else 0) + (if s.has_index then 128 else 0)

-- numbers of n bytes each, the highest byte first
abbrev pub numbers_text : ℕ → List ℕ → List ℕ
numbers_text n numbers = flat_map (big n) numbers

-- the magic number, the flag byte, and the size of an offset
abbrev pub shape_text : Shape → List ℕ
shape_text s = big 4 0xb5ee9c72 ++ big 1 (flags_of s) ++ big 1 s.off_bytes

-- the numbers of cells, of roots and of absent cells, and of the bytes of the cell data
abbrev pub counts_text : Shape → ℕ → ℕ → ℕ → List ℕ
counts_text s cells roots total = big s.size cells ++ big s.size roots ++ big s.size 0 ++ big s.off_bytes total

-- all but the checksum
abbrev pub body_text : Frame → List ℕ
body_text f =
    shape_text f.shape ++ counts_text f.shape f.cells (length f.roots) (length f.cell_data)
    ++ numbers_text f.shape.size f.roots ++ numbers_text f.shape.off_bytes f.index ++ f.cell_data

-- the checksum of all bytes before it stands with its lowest byte first
abbrev pub frame_text : Frame → List ℕ
frame_text f = body_text f ++ (if f.shape.has_crc then little 4 (crc32c (body_text f)) else [])

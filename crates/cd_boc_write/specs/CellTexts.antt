-- Trusted: the texts of cells in a bag (TL-B, `serialized_boc`; TVM documentation, "Cell serialization").
use Rattle.std.specs.Prelude.{ℕ, ◌+◌, ◌*◌, List, [], ◌∷◌, ◌++◌, length, map, Option, is_some, if◌then◌else◌}
use Rattle.std.specs.List.{flat_map}
use Rattle.std.specs.Option.{unwrap_or}
use Rattle.cd_cell.specs.BitText.{data_of}
use Rattle.cd_cell.specs.Levels.{descriptor2}
use Rattle.cd_cell.specs.Unfolding.{Entry}
use Rattle.cd_boc_write.specs.Frames.{numbers_text}

-- a cell as its text has it: the entry, the mask of the first descriptor, and the stored hashes and depths, if any
pub record Text : Type 0 where
  pub entry : Entry
  pub mask : ℕ
  pub stored : Option (List ℕ)

abbrev pub entries_of_texts : List Text → List Entry
entries_of_texts ts = map (λ t. t.entry) ts

-- the number of references, 8 for an exotic cell, 16 where hashes are stored, and 32 times the mask
abbrev pub first_descriptor : Text → ℕ
first_descriptor t = length t.entry.refs + (if t.entry.exotic then 8 else 0) + (if is_some t.stored then 16 else 0) + 32 * t.mask

-- both descriptors, the stored hashes and depths, the data, and the references in `size` bytes each
unfoldable pub cell_text : ℕ → Text → List ℕ
cell_text size t =
    first_descriptor t ∷ descriptor2 t.entry.bits ∷ unwrap_or t.stored [] ++ data_of t.entry.bits ++ numbers_text size t.entry.refs

abbrev pub texts_text : ℕ → List Text → List ℕ
texts_text size ts = flat_map (cell_text size) ts

-- where each text ends, where the first begins at `start`
unfoldable pub ends_from : ℕ → ℕ → List Text → List ℕ
ends_from size start [] = []
ends_from size start (t ∷ ts) = let end = start + length (cell_text size t) in end ∷ ends_from size end ts

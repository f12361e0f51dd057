-- Trusted: the keys of a change: no key is changed twice.
use Rattle.std.specs.Prelude.{◌≡◌, ℕ, Bool, false, List, ◌++◌}
use Rattle.std.specs.Ordering.{nat_cmp, eq_by_cmp}
use Rattle.std.specs.Cmp.Lexicographic.{slice_cmp}
use Rattle.std.specs.List.{IsDistinct, list_any}
use Rattle.std.specs.Map.{keys_of}
use Rattle.std.specs.Prelude.{Vec, map}
use Rattle.std.specs.Global.{Global}
use Rattle.cd_base.specs.declared.hash.Hash256.{Hash256}
use Rattle.cd_keeper.specs.Contents.{Change}
use Rattle.cd_keeper.specs.Shown.{entries_of, hash_bytes, desc_bytes}

-- whether two keys have the same bytes
abbrev pub same_key : List ℕ → List ℕ → Bool
same_key = eq_by_cmp (slice_cmp nat_cmp)

-- all keys among the cells that a change names, and all among the descriptions
abbrev pub cell_keys : Change → List (List ℕ)
cell_keys change = change.drop_cells ++ keys_of change.put_cells

abbrev pub desc_keys : Change → List (List ℕ)
desc_keys change = change.drop_descs ++ keys_of change.put_descs

-- no key stands twice among the cells, and none among the descriptions
pub record HasNoKeyTwice (change : Change) : Type 0 where
  pub cells : IsDistinct same_key (cell_keys change)
  pub descs : IsDistinct same_key (desc_keys change)

-- a key that stands in no list
abbrev pub IsNew : List ℕ → List (List ℕ) → Type 0
IsNew key keys = list_any (same_key key) keys ≡ false

-- the change that four lists make: puts and drops of cells, then of descriptions
abbrev pub change_of_lists : List (Hash256 × Vec ℕ Global) → List Hash256 → List (List ℕ × Vec ℕ Global) → List (List ℕ) → Change
change_of_lists put_cells drop_cells put_descs drop_descs = record {
  put_cells = entries_of hash_bytes put_cells;
  drop_cells = map hash_bytes drop_cells;
  put_descs = entries_of desc_bytes put_descs;
  drop_descs = map desc_bytes drop_descs;
}

-- Inner: what a root of a bag leads to: its entries by their keys.
use Rattle.std.specs.Prelude.{◌≡◌, ℕ, ◌<◌, Bool, false, List, [], ◌∷◌, ◌++◌, length, slice_index_or, if◌then◌else◌, Contains}
use Rattle.cd_base.specs.declared.hash.Hash256.{Hash256}
use Rattle.cd_cell.specs.FaceView.{FaceView}
use Rattle.cd_cell.specs.Tree.{Tree, subtrees, info_of}
use Rattle.cd_cell.specs.Bags.{bag_cell}
use Rattle.cd_cell.specs.declared.export_key.ExportKey.{ExportKey}
use Rattle.cd_cell.specs.Keys.{export_key}

-- whether an entry is marked as reached
abbrev pub is_marked : List Bool → ℕ → Bool
is_marked marks number = slice_index_or marks number false

-- keys with one more, for an entry that isn't marked yet
abbrev pub keys_with : List Bool → List ExportKey → ExportKey → List ExportKey
keys_with marks keys key = if is_marked marks key.number then keys else keys ++ key ∷ []

module _ (H : List ℕ → Hash256) (cells : List FaceView) (refs : List (List ℕ)) where
  -- the key of an entry
  abbrev pub entry_key_at : ℕ → ExportKey
  entry_key_at number = export_key (info_of H (bag_cell cells refs number)) number

  -- keys of entries whose cells are those below the root, and of enough of them for each such cell
  pub record AreReached (root : ℕ) (keys : List ExportKey) : Type 0 where
    pub there : (key : ExportKey) → Contains keys key → key.number < length cells
    pub keyed : (key : ExportKey) → Contains keys key → key ≡ entry_key_at key.number
    pub below : (key : ExportKey) → Contains keys key → Contains (subtrees (bag_cell cells refs root)) (bag_cell cells refs key.number)
    pub whole : (s : Tree) → Contains (subtrees (bag_cell cells refs root)) s → (number : ℕ) × Contains keys (entry_key_at number) × (bag_cell cells refs number ≡ s)

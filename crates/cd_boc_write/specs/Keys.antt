-- Inner: listed cells sorted by their hashes.
use Rattle.std.specs.Prelude.{◌≡◌, ℕ, ◌<◌, List, length, Contains}
use Rattle.std.specs.Ordering.{nat_cmp, ordering_then}
use Rattle.std.specs.List.Sorted.{IsSorted}
use Rattle.std.specs.declared.cmp.Ordering.{Ordering}
use Rattle.cd_cell.specs.declared.new_cell.NewCell.{NewCell}
use Rattle.cd_cell.specs.Export.{hash_cmp}
use Rattle.cd_cell.specs.Listings.{listed_at}
use Rattle.cd_boc_write.specs.declared.placed_hash.PlacedHash.{PlacedHash}

-- by hash, and those of one hash by place
abbrev pub placed_cmp : PlacedHash → PlacedHash → Ordering
placed_cmp a b = ordering_then (hash_cmp a.hash b.hash) (nat_cmp a.place b.place)

abbrev pub placed_at : List NewCell → ℕ → PlacedHash
placed_at cells place = record { hash = (listed_at cells place).hash; place = place }

-- the keys of all listed cells, in order
pub record AreKeysOf (cells : List NewCell) (keys : List PlacedHash) : Type 0 where
  pub sorted : IsSorted placed_cmp keys
  pub whole : (place : ℕ) → place < length cells → Contains keys (placed_at cells place)
  pub within : (key : PlacedHash) → Contains keys key → (key.place < length cells) × ((listed_at cells key.place).hash ≡ key.hash)

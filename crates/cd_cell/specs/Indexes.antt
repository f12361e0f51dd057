-- Trusted: where hashes stand in a list.
use Rattle.std.specs.Prelude.{◌≡◌, ℕ, ◌<◌, false, List, length, slice_index_or, Some, None}
use Rattle.std.specs.List.{list_any}
use Rattle.std.specs.BTreeMap.{get}
use Rattle.cd_base.specs.declared.hash.Hash256.{Hash256}
use Rattle.cd_cell.specs.Infos.{no_hash}
use Rattle.cd_cell.specs.Equality.{same_hash}
use Rattle.cd_cell.specs.Export.{hash_cmp}
use Rattle.cd_cell.specs.declared.index.Index.{Index}

pub record IsIndex (index : Index) (keys : List Hash256) : Type 0 where
  pub found : (hash : Hash256) (place : ℕ) → get hash_cmp index.places hash ≡ Some place → (place < length keys) × (slice_index_or keys place no_hash ≡ hash)
  pub absent : (hash : Hash256) → get hash_cmp index.places hash ≡ None → list_any (same_hash hash) keys ≡ false

-- Trusted: the text of a stored block's description, under the block's key.
use Rattle.std.specs.Prelude.{ℕ, ◌<◌, ◌≤◌, List, [], ◌∷◌, ◌++◌, length, IsTrue}
use Rattle.std.specs.List.{flat_map, AllByRecursion}
use Rattle.std.specs.Int.{w16, to_be_bytes, from_bool}
use Rattle.cd_block.specs.declared.block.BlockId.{BlockId}
use Rattle.cd_block.specs.declared.description.Descr.{Descr}
use Rattle.cd_block.specs.Shard.{is_master}
use Rattle.cd_block.specs.Block.{IsHash, IsBlockId, key_of}

-- a number of ids in one byte, and their keys
unfoldable pub ids_text : List BlockId → List ℕ
ids_text ids = length ids ∷ flat_map key_of ids

-- the version, leaving, the parents, the root hash, two bytes of depth, and the tops
unfoldable pub descr_text : Descr → List ℕ
descr_text d =
    1 ∷ from_bool d.leaving ∷ [] ++ ids_text d.parents ++ d.root.0 ++ to_be_bytes w16 d.depth ++ ids_text d.tops

-- what has a text
pub record IsDescrFit (d : Descr) : Type 0 where
  pub parents : length d.parents ≤ 2
  pub depth : d.depth ≤ 1024
  pub tops : length d.tops ≤ 64
  -- shard tops stand on a masterchain block alone
  pub tops_on_master : 0 < length d.tops → IsTrue (is_master d.id.shard_id)

-- what each description of the program is; a clause that ranges over all of them has this as its premise
pub record IsDescr (d : Descr) : Type 0 where
  pub id : IsBlockId d.id
  pub parents : AllByRecursion IsBlockId d.parents
  pub root : IsHash d.root
  pub tops : AllByRecursion IsBlockId d.tops

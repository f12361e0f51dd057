-- Trusted: hashes and depths of a cell at its significant levels as bytes, as a record has them for a child and a bag of cells for
-- a cell that is stored with them (TL-B, `serialized_boc`).
use Rattle.std.specs.Prelude.{ℕ, List, [], ◌∷◌, ◌++◌}
use Rattle.std.specs.List.{filter, flat_map}
use Rattle.std.specs.Int.{w16, to_be_bytes}
use Rattle.cd_cell.specs.declared.info.ChildInfo.{ChildInfo}
use Rattle.cd_cell.specs.Masks.{is_significant}
use Rattle.cd_cell.specs.Infos.{info_hash, info_depth}

-- the levels at which a mask has a hash and a depth of its own
abbrev pub levels_of : ℕ → List ℕ
levels_of mask = filter (is_significant mask) (0 ∷ 1 ∷ 2 ∷ 3 ∷ [])

-- the hash at a level, and the depth in two bytes
abbrev pub hash_text : ChildInfo → ℕ → List ℕ
hash_text k l = let hash = info_hash k l in hash.0

abbrev pub depth_text : ChildInfo → ℕ → List ℕ
depth_text k l = to_be_bytes w16 (info_depth k l)

-- the hashes at the significant levels, from level 0 upwards, and the depths
unfoldable pub stored_hashes : ChildInfo → List ℕ
stored_hashes k = flat_map (hash_text k) (levels_of k.mask)

unfoldable pub stored_depths : ChildInfo → List ℕ
stored_depths k = flat_map (depth_text k) (levels_of k.mask)

abbrev pub stored_text : ChildInfo → List ℕ
stored_text k = stored_hashes k ++ stored_depths k

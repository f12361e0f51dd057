-- Trusted: what a cell shows of itself to its parents, level by level.
use Rattle.std.specs.Prelude.{ℕ, ◌+◌, List, replicate, slice_index, slice_index_or, max, bit_or}
use Rattle.std.specs.List.{fold}
use Rattle.cd_base.specs.declared.hash.Hash256.{Hash256}
use Rattle.cd_cell.specs.declared.info.ChildInfo.{ChildInfo}

-- 32 zero bytes
abbrev pub no_hash : Hash256
no_hash = record { 0 = replicate 32 0 }

-- the hash at a level from 0 to 3
abbrev pub info_hash : ChildInfo → ℕ → Hash256
info_hash k l = slice_index_or k.hashes l no_hash

-- the depth at a level from 0 to 3
abbrev pub info_depth : ChildInfo → ℕ → ℕ
info_depth k l = slice_index k.depths l

-- the hash at level 3, which is the key of a stored cell
abbrev pub rep_of_info : ChildInfo → Hash256
rep_of_info k = info_hash k 3

-- the depth at level 3
abbrev pub height_of_info : ChildInfo → ℕ
height_of_info k = info_depth k 3

-- the masks of some cells, joined
abbrev pub all_masks : List ChildInfo → ℕ
all_masks ks = fold (λ m k. bit_or m k.mask) 0 ks

-- one more than the greatest depth at a level, or 0 for no cells
abbrev pub depth_above : ℕ → List ChildInfo → ℕ
depth_above l ks = fold (λ d k. max d (info_depth k l + 1)) 0 ks

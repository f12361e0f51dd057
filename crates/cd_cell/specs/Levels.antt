-- Trusted: kind, mask, depth and hash of a cell by what its children show (TVM documentation, "Cells", "Level mask",
-- "Representation hash"), over any function from bytes to hashes.
use Rattle.std.specs.Prelude.{ℕ, zero, suc, ◌+◌, ◌*◌, ◌/◌, Bool, true, false, List, [], ◌∷◌, ◌++◌, length, take, drop, slice_index, ◌==◌, nat_lt, min, if◌then◌else◌, Option, Some, None}
use Rattle.std.specs.List.{flat_map}
use Rattle.std.specs.Int.{w16, to_be_bytes}
use Rattle.cd_base.specs.declared.hash.Hash256.{Hash256}
use Rattle.cd_cell.specs.declared.info.ChildInfo.{ChildInfo}
use Rattle.cd_cell.specs.declared.kind.Kind.{Kind}
use Rattle.cd_cell.specs.declared.kind.Kind.TheVariants.{Ordinary, Pruned, Library, Proof, Update}
use Rattle.cd_cell.specs.Masks.{lowest_bits, is_significant, bit_count}
use Rattle.cd_cell.specs.BitText.{data_of}
use Rattle.cd_cell.specs.Infos.{info_hash, info_depth, all_masks, depth_above}
use Rattle.cd_cell.specs.FaceView.{FaceView}

-- the kind that an exotic cell's first byte names
abbrev pub exotic_kind : ℕ → Option Kind
exotic_kind byte =
    if byte == 1 then Some Pruned else if byte == 2 then Some Library else if byte == 3 then Some Proof else if byte == 4 then Some Update else None

-- the kind of a cell, if it has one
abbrev pub kind_of_face : FaceView → Option Kind
kind_of_face f =
    if f.exotic then (if nat_lt (length f.bits) 8 then None else exotic_kind (slice_index (data_of f.bits) 0)) else Some Ordinary

abbrev pub is_merkle : Option Kind → Bool
is_merkle (Some Proof) = true
is_merkle (Some Update) = true
is_merkle _ = false

abbrev pub is_pruned : Option Kind → Bool
is_pruned (Some Pruned) = true
is_pruned _ = false

-- the mask of a cell of a kind with these data and these children
abbrev pub mask_by_kind : Option Kind → List ℕ → List ChildInfo → ℕ
mask_by_kind (Some Ordinary) bytes kids = all_masks kids
mask_by_kind (Some Pruned) bytes kids = slice_index bytes 1
mask_by_kind (Some Library) bytes kids = 0
mask_by_kind (Some Proof) bytes kids = all_masks kids / 2
mask_by_kind (Some Update) bytes kids = all_masks kids / 2
mask_by_kind None bytes kids = 0

abbrev pub mask_of_face : FaceView → ℕ
mask_of_face f = mask_by_kind (kind_of_face f) (data_of f.bits) f.kids

-- below a Merkle cell levels and Merkle depths are one more, and not over 3
abbrev pub level_below : Bool → ℕ → ℕ
level_below merkle l = if merkle then min (l + 1) 3 else l

-- the level at which a cell takes its children for its own level l
abbrev pub kid_level : FaceView → ℕ → ℕ
kid_level f l = level_below (is_merkle (kind_of_face f)) l

-- a hash that stands in the data from a byte on
abbrev pub stated_hash : FaceView → ℕ → Hash256
stated_hash f at = record { 0 = take 32 (drop at (data_of f.bits)) }

-- a depth that stands in the data from a byte on
abbrev pub stated_depth : FaceView → ℕ → ℕ
stated_depth f at = 256 * slice_index (data_of f.bits) at + slice_index (data_of f.bits) (at + 1)

-- which of a pruned branch's stated hashes and depths is that of level l; none where it is their number
abbrev pub pruned_place : FaceView → ℕ → ℕ
pruned_place f l = bit_count (lowest_bits (mask_of_face f) l)

abbrev pub pruned_depth : FaceView → ℕ → ℕ
pruned_depth f l =
    let count = bit_count (mask_of_face f) in
    if nat_lt (pruned_place f l) count then stated_depth f (2 + 32 * count + 2 * pruned_place f l) else 0

-- the hash that a pruned branch states for a level, else its own
abbrev pub stated_or : FaceView → ℕ → Hash256 → Hash256
stated_or f l own =
    if nat_lt (pruned_place f l) (bit_count (mask_of_face f)) then stated_hash f (2 + 32 * pruned_place f l) else own

-- something at each of the four levels
abbrev pub by_level : {A : Type 0} → (ℕ → A) → List A
by_level at = at 0 ∷ at 1 ∷ at 2 ∷ at 3 ∷ []

-- the depth of a cell at a level, where it is no pruned branch; at a level that isn't significant it is that of the level below
abbrev pub next_depth : FaceView → ℕ → ℕ → ℕ
next_depth f l below = if is_significant (mask_of_face f) l then depth_above (kid_level f l) f.kids else below

unfoldable pub plain_depth : FaceView → ℕ → ℕ
plain_depth f zero = depth_above (kid_level f 0) f.kids
plain_depth f (suc l) = next_depth f (suc l) (plain_depth f l)

abbrev pub depth_of_face : FaceView → ℕ → ℕ
depth_of_face f l = if is_pruned (kind_of_face f) then pruned_depth f l else plain_depth f l

-- d1: the number of references, 8 for an exotic cell, and 32 times the mask
abbrev pub descriptor1 : FaceView → ℕ → ℕ
descriptor1 f mask = length f.kids + (if f.exotic then 8 else 0) + 32 * mask

-- d2: the full bytes of the bits, and the bytes that they take
abbrev pub descriptor2 : List Bool → ℕ
descriptor2 bs = length bs / 8 + (length bs + 7) / 8

-- the depths of some cells at a level, in two bytes each
abbrev pub depths_text : ℕ → List ChildInfo → List ℕ
depths_text level ks = flat_map (λ k. to_be_bytes w16 (info_depth k level)) ks

-- their hashes at a level
abbrev pub hashes_text : ℕ → List ChildInfo → List ℕ
hashes_text level ks = flat_map (λ k. let hash = info_hash k level in hash.0) ks

-- what is hashed: the descriptors, the contents, the children's depths and their hashes at a level
abbrev pub representation : FaceView → ℕ → List ℕ → ℕ → List ℕ
representation f mask contents level =
    descriptor1 f mask ∷ descriptor2 f.bits ∷ contents ++ depths_text level f.kids ++ hashes_text level f.kids

module _ (H : List ℕ → Hash256) where
  abbrev pub pruned_hash : FaceView → ℕ → Hash256
  pruned_hash f l = stated_or f l (H (representation f (mask_of_face f) (data_of f.bits) l))

  -- the hash of a cell at a level, where it is no pruned branch; above level 0 the hash below stands in the place of the data
  abbrev pub next_hash : FaceView → ℕ → Hash256 → Hash256
  next_hash f l below =
      if is_significant (mask_of_face f) l then H (representation f (lowest_bits (mask_of_face f) l) below.0 (kid_level f l)) else below

  unfoldable pub plain_hash : FaceView → ℕ → Hash256
  plain_hash f zero = H (representation f 0 (data_of f.bits) (kid_level f 0))
  plain_hash f (suc l) = next_hash f (suc l) (plain_hash f l)

  abbrev pub hash_of_face : FaceView → ℕ → Hash256
  hash_of_face f l = if is_pruned (kind_of_face f) then pruned_hash f l else plain_hash f l

  -- what a cell shows of itself, by what its children show
  abbrev pub info_of_face : FaceView → ChildInfo
  info_of_face f = record {
    mask = mask_of_face f;
    hashes = by_level (hash_of_face f);
    depths = by_level (depth_of_face f);
  }

  abbrev pub rep_of_face : FaceView → Hash256
  rep_of_face f = hash_of_face f 3

-- the depth at level 3
abbrev pub height_of_face : FaceView → ℕ
height_of_face f = depth_of_face f 3

-- Trusted: mask, depth and hash of a cell at a level by recursion over all cells below it (TVM documentation, "Cells",
-- "Level mask", "Representation hash"). `info_of` in `Tree` gives the same, cell by cell.
use Rattle.std.specs.Prelude.{ℕ, zero, suc, ◌+◌, ◌*◌, ◌/◌, Bool, List, [], ◌∷◌, ◌++◌, length, slice_index, bit_or, max, nat_lt, if◌then◌else◌, Option, Some, None}
use Rattle.std.specs.List.{fold, flat_map}
use Rattle.std.specs.Int.{w16, to_be_bytes}
use Rattle.cd_base.specs.declared.hash.Hash256.{Hash256}
use Rattle.cd_cell.specs.declared.kind.Kind.{Kind}
use Rattle.cd_cell.specs.declared.kind.Kind.TheVariants.{Ordinary, Pruned, Library, Proof, Update}
use Rattle.cd_cell.specs.Masks.{lowest_bits, is_significant, bit_count}
use Rattle.cd_cell.specs.BitText.{data_of}
use Rattle.cd_cell.specs.FaceView.{FaceView}
use Rattle.cd_cell.specs.Levels.{kind_of_face, is_pruned, is_merkle, level_below, stated_hash, stated_depth, descriptor2}
use Rattle.cd_cell.specs.Tree.{Tree, cell, Trees, no_trees, tree_and}

-- flag and bits alone
abbrev pub bare : Bool → List Bool → FaceView
bare exotic bits = record { exotic = exotic; bits = bits; kids = [] }

abbrev pub kind_by : Bool → List Bool → Option Kind
kind_by exotic bits = kind_of_face (bare exotic bits)

-- ---- masks

-- by the masks of the children
abbrev pub mask_over : Option Kind → List ℕ → List ℕ → ℕ
mask_over (Some Ordinary) bytes masks = fold bit_or 0 masks
mask_over (Some Pruned) bytes masks = slice_index bytes 1
mask_over (Some Library) bytes masks = 0
mask_over (Some Proof) bytes masks = fold bit_or 0 masks / 2
mask_over (Some Update) bytes masks = fold bit_or 0 masks / 2
mask_over None bytes masks = 0

abbrev mutual
  pub tree_mask : Tree → ℕ
  tree_mask (cell exotic bits ts) = mask_over (kind_by exotic bits) (data_of bits) (tree_masks ts)

  pub tree_masks : Trees → List ℕ
  tree_masks no_trees = []
  tree_masks (tree_and t ts) = tree_mask t ∷ tree_masks ts

-- ---- depths

-- one more than the greatest, or 0 for none
abbrev pub one_above : List ℕ → ℕ
one_above depths = fold (λ d k. max d (k + 1)) 0 depths

-- by the children's depths at the level that a cell takes them at for its own level
unfoldable pub depth_over : ℕ → (ℕ → List ℕ) → ℕ → ℕ
depth_over mask depths zero = one_above (depths 0)
depth_over mask depths (suc l) = if is_significant mask (suc l) then one_above (depths (suc l)) else depth_over mask depths l

-- a pruned branch's stated depth at a level, or 0 at its own level
abbrev pub depth_stated : FaceView → ℕ → ℕ → ℕ
depth_stated f mask l =
    let place = bit_count (lowest_bits mask l) in
    let count = bit_count mask in
    if nat_lt place count then stated_depth f (2 + 32 * count + 2 * place) else 0

abbrev pub cell_depth : Bool → List Bool → ℕ → (ℕ → List ℕ) → ℕ → ℕ
cell_depth exotic bits mask depths l =
    let kind = kind_by exotic bits in
    if is_pruned kind then depth_stated (bare exotic bits) mask l else depth_over mask (λ m. depths (level_below (is_merkle kind) m)) l

abbrev mutual
  pub tree_depth : Tree → ℕ → ℕ
  tree_depth (cell exotic bits ts) l = cell_depth exotic bits (tree_mask (cell exotic bits ts)) (tree_depths ts) l

  pub tree_depths : Trees → ℕ → List ℕ
  tree_depths no_trees l = []
  tree_depths (tree_and t ts) l = tree_depth t l ∷ tree_depths ts l

-- ---- hashes

-- the descriptors, the contents, the children's depths in two bytes each, and their hashes
abbrev pub representation_over : Bool → List Bool → ℕ → List ℕ → List ℕ → List Hash256 → List ℕ
representation_over exotic bits mask contents depths hashes =
    (length depths + (if exotic then 8 else 0) + 32 * mask) ∷ descriptor2 bits ∷ contents
    ++ flat_map (to_be_bytes w16) depths
    ++ flat_map (λ hash. hash.0) hashes

module _ (H : List ℕ → Hash256) where
  -- by the text of a level, given what stands in the place of the data
  unfoldable pub hash_over : ℕ → List ℕ → (ℕ → List ℕ → List ℕ) → ℕ → Hash256
  hash_over mask contents text zero = H (text 0 contents)
  hash_over mask contents text (suc l) =
      if is_significant mask (suc l) then H (text (suc l) (let below = hash_over mask contents text l in below.0)) else hash_over mask contents text l

  -- a pruned branch's stated hash at a level, or that of its own text
  abbrev pub hash_stated : FaceView → ℕ → List ℕ → ℕ → Hash256
  hash_stated f mask text l =
      let place = bit_count (lowest_bits mask l) in
      let count = bit_count mask in
      if nat_lt place count then stated_hash f (2 + 32 * place) else H text

  abbrev pub cell_hash : Bool → List Bool → ℕ → (ℕ → List ℕ) → (ℕ → List Hash256) → ℕ → Hash256
  cell_hash exotic bits mask depths hashes l =
      let kind = kind_by exotic bits in
      let below : ℕ → ℕ = level_below (is_merkle kind) in
      if is_pruned kind
      then hash_stated (bare exotic bits) mask (representation_over exotic bits mask (data_of bits) (depths l) (hashes l)) l
      else hash_over mask (data_of bits) (λ m contents. representation_over exotic bits (lowest_bits mask m) contents (depths (below m)) (hashes (below m))) l

  abbrev mutual
    pub tree_hash : Tree → ℕ → Hash256
    tree_hash (cell exotic bits ts) l = cell_hash exotic bits (tree_mask (cell exotic bits ts)) (tree_depths ts) (tree_hashes ts) l

    pub tree_hashes : Trees → ℕ → List Hash256
    tree_hashes no_trees l = []
    tree_hashes (tree_and t ts) l = tree_hash t l ∷ tree_hashes ts l

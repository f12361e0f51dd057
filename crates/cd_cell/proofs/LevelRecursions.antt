-- What a cell shows is what the recursion over all cells below it gives.
use Rattle.std.proofs.Common.{◌≡◌, ℕ, zero, suc, ◌+◌, ◌/◌, ◌≤◌, max, List, ◌∷◌, map, Bool, true, false, bit_or, if◌then◌else◌, Option, Some, None, refl, ap, ap₂, sym, ◌∙◌, arith}
use Rattle.std.specs.Int.{w16, to_be_bytes}
use Rattle.std.proofs.lemmas.List.{length-map}
use Rattle.std.proofs.lemmas.List.Folds.{fold-map, flat_map-map}
use Rattle.cd_base.specs.declared.hash.Hash256.{Hash256}
use Rattle.cd_cell.specs.declared.info.ChildInfo.{ChildInfo}
use Rattle.cd_cell.specs.declared.kind.Kind.{Kind}
use Rattle.cd_cell.specs.declared.kind.Kind.TheVariants.{Ordinary, Pruned, Library, Proof, Update}
use Rattle.cd_cell.specs.Masks.{lowest_bits, is_significant}
use Rattle.cd_cell.specs.BitText.{data_of}
use Rattle.cd_cell.specs.Infos.{info_hash, info_depth, depth_above}
use Rattle.cd_cell.specs.FaceView.{FaceView}
use Rattle.cd_cell.specs.Levels.{kind_of_face, mask_by_kind, mask_of_face, is_pruned, is_merkle, level_below, kid_level, representation, plain_depth, plain_hash, pruned_hash, depth_of_face, hash_of_face, info_of_face}
use Rattle.cd_cell.specs.Tree.{Tree, cell, Trees, no_trees, tree_and, infos_of, mask_of, hash_at, depth_at}
use Rattle.cd_cell.specs.LevelRecursion.{kind_by, mask_over, tree_mask, tree_masks, one_above, depth_over, depth_stated, cell_depth, tree_depth, tree_depths, representation_over, hash_over, hash_stated, cell_hash, tree_hash, tree_hashes}

-- ---- one cell, by lists of what its children show

mask_over-is : (kind : Option Kind) (bytes : List ℕ) (ks : List ChildInfo) → mask_by_kind kind bytes ks ≡ mask_over kind bytes (map (λ k. k.mask) ks)
mask_over-is None bytes ks = refl
mask_over-is (Some Ordinary) bytes ks = sym (fold-map bit_or (λ k. k.mask) 0 ks)
mask_over-is (Some Pruned) bytes ks = refl
mask_over-is (Some Library) bytes ks = refl
mask_over-is (Some Proof) bytes ks = ap (λ m. m / 2) (sym (fold-map bit_or (λ k. k.mask) 0 ks))
mask_over-is (Some Update) bytes ks = ap (λ m. m / 2) (sym (fold-map bit_or (λ k. k.mask) 0 ks))

one_above-is : (l : ℕ) (ks : List ChildInfo) → depth_above l ks ≡ one_above (map (λ k. info_depth k l) ks)
one_above-is l ks = sym (fold-map (λ d k. max d (k + 1)) (λ k. info_depth k l) 0 ks)

pub level_below-low : (merkle : Bool) (l : ℕ) → l ≤ 3 → level_below merkle l ≤ 3
level_below-low true l low = omega arith
level_below-low false l low = low

module _ (f : FaceView) (mask : ℕ) (same_mask : mask_of_face f ≡ mask) (depths : ℕ → List ℕ) (same_depths : (l : ℕ) → l ≤ 3 → map (λ k. info_depth k l) f.kids ≡ depths l) where
  abbrev level : ℕ → ℕ
  level l = level_below (is_merkle (kind_of_face f)) l

  kid_depths : (l : ℕ) → l ≤ 3 → depth_above (kid_level f l) f.kids ≡ one_above (depths (level l))
  kid_depths l low = one_above-is (level l) f.kids ∙ ap one_above (same_depths (level l) (level_below-low (is_merkle (kind_of_face f)) l low))

  plain_depth-over : (l : ℕ) → l ≤ 3 → plain_depth f l ≡ depth_over mask (λ m. depths (level m)) l
  unfolding plain_depth depth_over
  plain_depth-over zero low = kid_depths 0 low
  plain_depth-over (suc l) low =
      ap (λ m. if is_significant m (suc l) then depth_above (kid_level f (suc l)) f.kids else plain_depth f l) same_mask
      ∙ ap₂ (λ here below. if is_significant mask (suc l) then here else below) (kid_depths (suc l) low) (plain_depth-over l (omega arith))

  depth_of_face-over : (l : ℕ) → l ≤ 3 → depth_of_face f l ≡ cell_depth f.exotic f.bits mask depths l
  depth_of_face-over l low = ap₂ (λ stated plain. if is_pruned (kind_of_face f) then stated else plain) (ap (λ m. depth_stated f m l) same_mask) (plain_depth-over l low)

  module _ (H : List ℕ → Hash256) (hashes : ℕ → List Hash256) (same_hashes : (l : ℕ) → l ≤ 3 → map (λ k. info_hash k l) f.kids ≡ hashes l) where
    representation-over : (m : ℕ) (contents : List ℕ) (l : ℕ) → l ≤ 3 → representation f m contents l ≡ representation_over f.exotic f.bits m contents (depths l) (hashes l)
    representation-over m contents l low =
        let refs = length-map f.kids (λ k. info_depth k l) in
        let depth_bytes = flat_map-map (to_be_bytes w16) (λ k. info_depth k l) f.kids in
        let hash_bytes = flat_map-map (λ hash. hash.0) (λ k. info_hash k l) f.kids in
        let mapped : representation f m contents l ≡ representation_over f.exotic f.bits m contents (map (λ k. info_depth k l) f.kids) (map (λ k. info_hash k l) f.kids) = cc in
        mapped ∙ ap₂ (representation_over f.exotic f.bits m contents) (same_depths l low) (same_hashes l low)

    abbrev text : ℕ → List ℕ → List ℕ
    text m contents = representation_over f.exotic f.bits (lowest_bits mask m) contents (depths (level m)) (hashes (level m))

    text-is : (l : ℕ) (contents : List ℕ) → l ≤ 3 → representation f (lowest_bits (mask_of_face f) l) contents (level l) ≡ text l contents
    text-is l contents low =
        ap (λ m. representation f (lowest_bits m l) contents (level l)) same_mask
        ∙ representation-over (lowest_bits mask l) contents (level l) (level_below-low (is_merkle (kind_of_face f)) l low)

    plain_hash-over : (l : ℕ) → l ≤ 3 → plain_hash H f l ≡ hash_over H mask (data_of f.bits) text l
    unfolding plain_hash hash_over
    plain_hash-over zero low =
        let none : 0 ≡ lowest_bits (mask_of_face f) 0 = omega arith in
        ap (λ m. H (representation f m (data_of f.bits) (level 0))) none ∙ ap H (text-is 0 (data_of f.bits) low)
    plain_hash-over (suc l) low =
        let below = hash_over H mask (data_of f.bits) text l in
        ap (λ h. if is_significant (mask_of_face f) (suc l) then H (representation f (lowest_bits (mask_of_face f) (suc l)) h.0 (level (suc l))) else h) (plain_hash-over l (omega arith))
        ∙ ap (λ t. if is_significant (mask_of_face f) (suc l) then H t else below) (text-is (suc l) below.0 low)
        ∙ ap (λ m. if is_significant m (suc l) then H (text (suc l) below.0) else below) same_mask

    pruned_hash-over : (l : ℕ) → l ≤ 3 → pruned_hash H f l ≡ hash_stated H f mask (representation_over f.exotic f.bits mask (data_of f.bits) (depths l) (hashes l)) l
    pruned_hash-over l low =
        ap (λ m. hash_stated H f m (representation f m (data_of f.bits) l) l) same_mask
        ∙ ap (λ t. hash_stated H f mask t l) (representation-over mask (data_of f.bits) l low)

    hash_of_face-over : (l : ℕ) → l ≤ 3 → hash_of_face H f l ≡ cell_hash H f.exotic f.bits mask depths hashes l
    hash_of_face-over l low = ap₂ (λ stated plain. if is_pruned (kind_of_face f) then stated else plain) (pruned_hash-over l low) (plain_hash-over l low)

-- ---- whole trees

pub at_levels : (P : ℕ → Type 0) → P 0 → P 1 → P 2 → P 3 → (l : ℕ) → l ≤ 3 → P l
at_levels P p q r s zero low = p
at_levels P p q r s (suc zero) low = q
at_levels P p q r s (suc (suc zero)) low = r
at_levels P p q r s (suc (suc (suc zero))) low = s
at_levels P p q r s (suc (suc (suc (suc l)))) low = absurd (omega arith)

-- what a face shows at a level
pub depth_of_info : (H : List ℕ → Hash256) (f : FaceView) (l : ℕ) → l ≤ 3 → info_depth (info_of_face H f) l ≡ depth_of_face f l
depth_of_info H f = at_levels (λ l. info_depth (info_of_face H f) l ≡ depth_of_face f l) refl refl refl refl

pub hash_of_info : (H : List ℕ → Hash256) (f : FaceView) (l : ℕ) → l ≤ 3 → info_hash (info_of_face H f) l ≡ hash_of_face H f l
hash_of_info H f = at_levels (λ l. info_hash (info_of_face H f) l ≡ hash_of_face H f l) refl refl refl refl

module _ (H : List ℕ → Hash256) where
  mutual
    pub mask_of-is : (t : Tree) → mask_of H t ≡ tree_mask t
    mask_of-is (cell exotic bits ts) =
        mask_over-is (kind_by exotic bits) (data_of bits) (infos_of H ts)
        ∙ ap (mask_over (kind_by exotic bits) (data_of bits)) (masks_of-is ts)

    masks_of-is : (ts : Trees) → map (λ k. k.mask) (infos_of H ts) ≡ tree_masks ts
    masks_of-is no_trees = refl
    masks_of-is (tree_and t ts) = ap₂ (λ m ms. m ∷ ms) (mask_of-is t) (masks_of-is ts)

  abbrev over : Bool → List Bool → Trees → FaceView
  over exotic bits ts = record { exotic = exotic; bits = bits; kids = infos_of H ts }

  mutual
    pub depth_at-is : (t : Tree) (l : ℕ) → l ≤ 3 → depth_at H t l ≡ tree_depth t l
    depth_at-is (cell exotic bits ts) l low =
        depth_of_info H (over exotic bits ts) l low
        ∙ depth_of_face-over (over exotic bits ts) (tree_mask (cell exotic bits ts)) (mask_of-is (cell exotic bits ts)) (tree_depths ts) (depths_at-are ts) l low

    depths_at-are : (ts : Trees) (l : ℕ) → l ≤ 3 → map (λ k. info_depth k l) (infos_of H ts) ≡ tree_depths ts l
    depths_at-are no_trees l low = refl
    depths_at-are (tree_and t ts) l low = ap₂ (λ d ds. d ∷ ds) (depth_at-is t l low) (depths_at-are ts l low)

  mutual
    pub hash_at-is : (t : Tree) (l : ℕ) → l ≤ 3 → hash_at H t l ≡ tree_hash H t l
    hash_at-is (cell exotic bits ts) l low =
        hash_of_info H (over exotic bits ts) l low
        ∙ hash_of_face-over (over exotic bits ts) (tree_mask (cell exotic bits ts)) (mask_of-is (cell exotic bits ts)) (tree_depths ts) (depths_at-are ts) H (tree_hashes H ts) (hashes_at-are ts) l low

    hashes_at-are : (ts : Trees) (l : ℕ) → l ≤ 3 → map (λ k. info_hash k l) (infos_of H ts) ≡ tree_hashes H ts l
    hashes_at-are no_trees l low = refl
    hashes_at-are (tree_and t ts) l low = ap₂ (λ h hs. h ∷ hs) (hash_at-is t l low) (hashes_at-are ts l low)

-- Laws of depths: what a cell shows is steady above its level, and the height of a cell is one more than the
-- greatest height of a child.
use Rattle.std.proofs.Common.{length, get_or, ◌≡◌, ◌≢◌, ℕ, zero, suc, ◌+◌, ◌*◌, ◌/◌, ◌%◌, ◌^◌, ◌<◌, ◌≤◌, max, List, [], ◌∷◌, ◌++◌, flat_map, Option, Some, None, Bool, true, false, All, Contains, map, fold, refl, ap, sym, ◌∙◌, subst, ap₂, add-one, le_refl, le_of_eq, le_of_lt, lt_of_le_of_lt, inl, inr, ⊎_elim, ◌⊎◌, bit_or, arith, nat_lt, if◌then◌else◌}
use Rattle.std.specs.Int.{w16, to_be_bytes, bit_at}
use Rattle.std.proofs.lemmas.Nat.{or_lt}
use Rattle.std.proofs.lemmas.Nat.Bits.{bit_at_or, bit_at-suc}
use Rattle.std.proofs.lemmas.List.Elements.{All-contains, Contains-get_or, All-nil, All-cons, All-head, All-tail, Contains-append_cases}
use Rattle.std.proofs.lemmas.List.{nil_from_length}
use borrow.Author.Tests.{eqb-false, ne_eqb, le-ltb}
use Rattle.cd_base.specs.declared.hash.Hash256.{Hash256}
use Rattle.cd_cell.specs.declared.info.ChildInfo.{ChildInfo}
use Rattle.cd_cell.specs.declared.kind.Kind.{Kind}
use Rattle.cd_cell.specs.declared.kind.Kind.TheVariants.{Ordinary, Pruned, Library, Proof, Update}
use Rattle.cd_cell.specs.Masks.{lowest_bits, is_significant, bit_count}
use Rattle.cd_cell.specs.Infos.{info_hash, info_depth, height_of_info, all_masks, depth_above}
use Rattle.cd_cell.specs.BitText.{data_of}
use Rattle.cd_cell.specs.FaceView.{FaceView}
use Rattle.cd_cell.specs.Levels.{kind_of_face, mask_by_kind, mask_of_face, kid_level, stated_depth, stated_hash, descriptor1, descriptor2, representation, is_pruned, is_merkle, level_below, height_of_face, pruned_depth, plain_depth, depth_of_face, pruned_hash, plain_hash, hash_of_face, info_of_face}
use Rattle.cd_cell.specs.Fit.{IsFaceFit}
use Rattle.cd_cell.specs.Tree.{Tree, cell, Trees, no_trees, tree_and, list_of, children, subtrees, subtrees_of_all, info_of, infos_of, height_of, IsWellFormed, AreWellFormed}
use Rattle.cd_cell.specs.Steady.{IsFlat, IsSteady}
use Rattle.cd_cell.proofs.Subtrees.{infos_of-list_of, Contains-cases, Contains-nil}

-- ---- above a cell's level

-- a bit that isn't set isn't counted
lowest_count-whole : (mask : ℕ) → mask ≤ 7 → bit_count (lowest_bits mask 3) ≡ bit_count mask
lowest_count-whole mask small = omega arith

lowest_count-same : (mask l : ℕ) → l < 3 → is_significant mask (l + 1) ≡ false → bit_count (lowest_bits mask (l + 1)) ≡ bit_count (lowest_bits mask l)
lowest_count-same mask zero below off = let clear : mask / 1 % 2 ≢ 1 = eqb-false _ _ off in omega arith
lowest_count-same mask (suc zero) below off = let clear : mask / 2 % 2 ≢ 1 = eqb-false _ _ off in omega arith
lowest_count-same mask (suc (suc zero)) below off = let clear : mask / 4 % 2 ≢ 1 = eqb-false _ _ off in omega arith
lowest_count-same mask (suc (suc (suc l))) below off = absurd (omega arith)

-- what is hashed for a cell without children is of no level
representation-no_kids : (f : FaceView) (mask : ℕ) (contents : List ℕ) (l m : ℕ) → f.kids ≡ [] → representation f mask contents l ≡ representation f mask contents m
representation-no_kids f mask contents l m none =
    let with_kids : ℕ → List ChildInfo → List ℕ =
    λ level ks. descriptor1 f mask ∷ descriptor2 f.bits ∷ contents ++ flat_map (λ k. to_be_bytes w16 (info_depth k level)) ks ++ flat_map (λ k. (info_hash k level).0) ks in
    ap (with_kids l) none ∙ sym (ap (with_kids m) none)

-- a pruned branch, or none
pub pruned-cases : (kind : Option Kind) → (kind ≡ Some Pruned) ⊎ (is_pruned kind ≡ false)
pruned-cases None = inr refl
pruned-cases (Some Ordinary) = inr refl
pruned-cases (Some Pruned) = inl refl
pruned-cases (Some Library) = inr refl
pruned-cases (Some Proof) = inr refl
pruned-cases (Some Update) = inr refl

abbrev pub if_pruned : {A : Type 0} → FaceView → A → A → A
if_pruned f stated plain = if is_pruned (kind_of_face f) then stated else plain

pub if_pruned-yes : {A : Type 0} (f : FaceView) → kind_of_face f ≡ Some Pruned → (stated plain : A) → if_pruned f stated plain ≡ stated
if_pruned-yes f e stated plain = ap (λ kind. if is_pruned kind then stated else plain) e

pub if_pruned-no : {A : Type 0} (f : FaceView) → is_pruned (kind_of_face f) ≡ false → (stated plain : A) → if_pruned f stated plain ≡ plain
if_pruned-no f e stated plain = ap (λ pruned. if pruned then stated else plain) e

pub no_kids-pruned : (f : FaceView) → IsFaceFit f → kind_of_face f ≡ Some Pruned → f.kids ≡ []
no_kids-pruned f fit e = nil_from_length f.kids (fit.pruned e).refs

module _ (f : FaceView) where
  plain_depth-same : (l : ℕ) → is_significant (mask_of_face f) (suc l) ≡ false → plain_depth f (suc l) ≡ plain_depth f l
  unfolding plain_depth
  plain_depth-same l off = ap (λ b. if b then depth_above (kid_level f (suc l)) f.kids else plain_depth f l) off

  pruned_depth-same : (l : ℕ) → l < 3 → is_significant (mask_of_face f) (l + 1) ≡ false → pruned_depth f (l + 1) ≡ pruned_depth f l
  pruned_depth-same l below off =
      let count = bit_count (mask_of_face f) in
      ap (λ place. if nat_lt place count then stated_depth f (2 + 32 * count + 2 * place) else 0) (lowest_count-same (mask_of_face f) l below off)

  pub depth_of_face-same : (l : ℕ) → l < 3 → is_significant (mask_of_face f) (l + 1) ≡ false → depth_of_face f (l + 1) ≡ depth_of_face f l
  depth_of_face-same zero below off = ap₂ (if_pruned f) (pruned_depth-same 0 below off) (plain_depth-same 0 off)
  depth_of_face-same (suc zero) below off = ap₂ (if_pruned f) (pruned_depth-same 1 below off) (plain_depth-same 1 off)
  depth_of_face-same (suc (suc zero)) below off = ap₂ (if_pruned f) (pruned_depth-same 2 below off) (plain_depth-same 2 off)
  depth_of_face-same (suc (suc (suc l))) below off = absurd (omega arith)

  module _ (H : List ℕ → Hash256) where
    plain_hash-same : (l : ℕ) → is_significant (mask_of_face f) (suc l) ≡ false → plain_hash H f (suc l) ≡ plain_hash H f l
    unfolding plain_hash
    plain_hash-same l off =
        let here = H (representation f (lowest_bits (mask_of_face f) (suc l)) (plain_hash H f l).0 (kid_level f (suc l))) in
        ap (λ b. if b then here else plain_hash H f l) off

    -- a pruned branch has no kids, so its own hash is of no level
    pruned_hash-same : f.kids ≡ [] → (l : ℕ) → l < 3 → is_significant (mask_of_face f) (l + 1) ≡ false → pruned_hash H f (l + 1) ≡ pruned_hash H f l
    pruned_hash-same none l below off =
        let count = bit_count (mask_of_face f) in
        ap₂
        (λ place own. if nat_lt place count then stated_hash f (2 + 32 * place) else own)
        (lowest_count-same (mask_of_face f) l below off)
        (ap H (representation-no_kids f (mask_of_face f) (data_of f.bits) (l + 1) l none))

    plain_hash-below : (l : ℕ) → l < 3 → is_significant (mask_of_face f) (l + 1) ≡ false → plain_hash H f (l + 1) ≡ plain_hash H f l
    plain_hash-below zero below off = plain_hash-same 0 off
    plain_hash-below (suc zero) below off = plain_hash-same 1 off
    plain_hash-below (suc (suc zero)) below off = plain_hash-same 2 off
    plain_hash-below (suc (suc (suc l))) below off = absurd (omega arith)

    hash_of_face-same : IsFaceFit f → (l : ℕ) → l < 3 → is_significant (mask_of_face f) (l + 1) ≡ false → hash_of_face H f (l + 1) ≡ hash_of_face H f l
    hash_of_face-same fit l below off =
        ⊎_elim
        (λ e. if_pruned-yes f e _ _ ∙ pruned_hash-same (no_kids-pruned f fit e) l below off ∙ sym (if_pruned-yes f e _ _))
        (λ e. if_pruned-no f e _ _ ∙ plain_hash-below l below off ∙ sym (if_pruned-no f e _ _))
        (pruned-cases (kind_of_face f))

-- ---- the masks of children, joined

abbrev pub joined : ℕ → List ChildInfo → ℕ
joined mask ks = fold (λ m k. bit_or m k.mask) mask ks

-- a bit of no child isn't set
joined-clear : (mask i : ℕ) (ks : List ChildInfo) → bit_at (joined mask ks) i ≡ 0 → (bit_at mask i ≡ 0) × All (λ k. bit_at k.mask i ≡ 0) ks
joined-clear mask i [] clear = (clear, All-nil (λ k. bit_at k.mask i ≡ 0))
joined-clear mask i (k ∷ ks) clear =
    let rest = joined-clear (bit_or mask k.mask) i ks clear in
    let both : max (bit_at mask i) (bit_at k.mask i) ≡ 0 = sym (bit_at_or mask k.mask i) ∙ rest.0 in
    (omega arith, All-cons (λ k. bit_at k.mask i ≡ 0) k ks (omega arith) rest.1)

pub joined-small : (mask : ℕ) (ks : List ChildInfo) → mask ≤ 7 → All (λ k. k.mask ≤ 7) ks → joined mask ks ≤ 7
joined-small mask [] small all = small
joined-small mask (k ∷ ks) small all =
    let head : k.mask ≤ 7 = All-head (λ k. k.mask ≤ 7) k ks all in
    let or : bit_or mask k.mask < 2 ^ 3 = or_lt 3 mask k.mask (omega arith) (omega arith) in
    joined-small (bit_or mask k.mask) ks (omega arith) (All-tail (λ k. k.mask ≤ 7) k ks all)

bit-clear : (mask l : ℕ) → l < 3 → is_significant mask (l + 1) ≡ false → bit_at mask l ≡ 0
bit-clear mask zero below off = let clear : mask / 1 % 2 ≢ 1 = eqb-false _ _ off in omega arith
bit-clear mask (suc zero) below off = let clear : mask / 2 % 2 ≢ 1 = eqb-false _ _ off in omega arith
bit-clear mask (suc (suc zero)) below off = let clear : mask / 4 % 2 ≢ 1 = eqb-false _ _ off in omega arith
bit-clear mask (suc (suc (suc l))) below off = absurd (omega arith)

pub clear-bit : (mask l : ℕ) → l < 3 → bit_at mask l ≡ 0 → is_significant mask (l + 1) ≡ false
clear-bit mask zero below clear = ne_eqb (mask / 1 % 2) 1 (λ e. omega arith)
clear-bit mask (suc zero) below clear = ne_eqb (mask / 2 % 2) 1 (λ e. omega arith)
clear-bit mask (suc (suc zero)) below clear = ne_eqb (mask / 4 % 2) 1 (λ e. omega arith)
clear-bit mask (suc (suc (suc l))) below clear = absurd (omega arith)

-- the mask of a face is at most 7 where those of its kids are
pub mask_of_face-small : (f : FaceView) → IsFaceFit f → All (λ k. k.mask ≤ 7) f.kids → mask_of_face f ≤ 7
mask_of_face-small f fit all = go (kind_of_face f) refl
  where
    go : (kind : Option Kind) → kind_of_face f ≡ kind → mask_by_kind kind (data_of f.bits) f.kids ≤ 7
    go None e = omega arith
    go (Some Ordinary) e = joined-small 0 f.kids (omega arith) all
    go (Some Pruned) e = (fit.pruned e).three_levels
    go (Some Library) e = omega arith
    go (Some Proof) e = let all_small = joined-small 0 f.kids (omega arith) all in omega arith
    go (Some Update) e = let all_small = joined-small 0 f.kids (omega arith) all in omega arith

module _ (H : List ℕ → Hash256) (f : FaceView) (fit : IsFaceFit f) where
  info_hash-same : (l : ℕ) → l < 3 → is_significant (mask_of_face f) (l + 1) ≡ false → info_hash (info_of_face H f) (l + 1) ≡ info_hash (info_of_face H f) l
  info_hash-same zero below off = hash_of_face-same f H fit 0 below off
  info_hash-same (suc zero) below off = hash_of_face-same f H fit 1 below off
  info_hash-same (suc (suc zero)) below off = hash_of_face-same f H fit 2 below off
  info_hash-same (suc (suc (suc l))) below off = absurd (omega arith)

  info_depth-same : (l : ℕ) → l < 3 → is_significant (mask_of_face f) (l + 1) ≡ false → info_depth (info_of_face H f) (l + 1) ≡ info_depth (info_of_face H f) l
  info_depth-same zero below off = depth_of_face-same f 0 below off
  info_depth-same (suc zero) below off = depth_of_face-same f 1 below off
  info_depth-same (suc (suc zero)) below off = depth_of_face-same f 2 below off
  info_depth-same (suc (suc (suc l))) below off = absurd (omega arith)

  pub IsFlat-info_of_face : IsFlat (info_of_face H f)
  IsFlat-info_of_face = record { hashes = info_hash-same; depths = info_depth-same }

  -- what a cell shows is steady, whatever the masks of its children
  pub IsSteady-info_of_face : All (λ k. k.mask ≤ 7) f.kids → IsSteady (info_of_face H f)
  IsSteady-info_of_face small = record { small = mask_of_face-small f fit small; hashes = info_hash-same; depths = info_depth-same }

-- ---- depths by those of the children

-- two levels at which the children's depths are equal
depth_above-from : (l m depth : ℕ) (ks : List ChildInfo) → All (λ k. info_depth k l ≡ info_depth k m) ks → fold (λ d k. max d (info_depth k l + 1)) depth ks ≡ fold (λ d k. max d (info_depth k m + 1)) depth ks
depth_above-from l m depth [] same = refl
depth_above-from l m depth (k ∷ ks) same =
    ap (λ d. fold (λ d k. max d (info_depth k l + 1)) (max depth (d + 1)) ks) (All-head (λ k. info_depth k l ≡ info_depth k m) k ks same)
    ∙ depth_above-from l m (max depth (info_depth k m + 1)) ks (All-tail (λ k. info_depth k l ≡ info_depth k m) k ks same)

module _ (ks : List ChildInfo) (steady : All IsSteady ks) where
  -- a level that isn't significant for any child
  kid_depths-same : (l : ℕ) → l < 3 → bit_at (all_masks ks) l ≡ 0 → depth_above (l + 1) ks ≡ depth_above l ks
  kid_depths-same l below clear =
      let all = (joined-clear 0 l ks clear).1 in
      depth_above-from (l + 1) l 0 ks (λ k d in'. (steady k d in').depths l below (clear-bit _ l below (all k d in')))

  -- the same one level up, as a Merkle cell takes them
  merkle_depths-same : (l : ℕ) → l < 3 → bit_at (all_masks ks / 2) l ≡ 0 → depth_above (level_below true (l + 1)) ks ≡ depth_above (level_below true l) ks
  merkle_depths-same zero below clear = kid_depths-same 1 (omega arith) (bit_at-suc (all_masks ks) 0 ∙ clear)
  merkle_depths-same (suc zero) below clear = kid_depths-same 2 (omega arith) (bit_at-suc (all_masks ks) 1 ∙ clear)
  merkle_depths-same (suc (suc zero)) below clear = refl
  merkle_depths-same (suc (suc (suc l))) below clear = absurd (omega arith)

no_kids-same : (ks : List ChildInfo) → ks ≡ [] → (l m : ℕ) → depth_above l ks ≡ depth_above m ks
no_kids-same ks none l m = ap (depth_above l) none ∙ sym (ap (depth_above m) none)

whole_level : (merkle : Bool) → level_below merkle 3 ≡ 3
whole_level true = refl
whole_level false = refl

module _ (f : FaceView) (fit : IsFaceFit f) (steady : All IsSteady f.kids) where
  -- at a level that isn't significant for a cell its children's depths are those at the level below
  depth_above-same : (l : ℕ) → l < 3 → is_significant (mask_of_face f) (l + 1) ≡ false → depth_above (kid_level f (l + 1)) f.kids ≡ depth_above (kid_level f l) f.kids
  depth_above-same l below off = go (kind_of_face f) refl (bit-clear (mask_of_face f) l below off)
    where
      go : (kind : Option Kind) → kind_of_face f ≡ kind → bit_at (mask_by_kind kind (data_of f.bits) f.kids) l ≡ 0 → depth_above (level_below (is_merkle kind) (l + 1)) f.kids ≡ depth_above (level_below (is_merkle kind) l) f.kids
      go None e clear = absurd (fit.known e)
      go (Some Ordinary) e clear = kid_depths-same f.kids steady l below clear
      go (Some Pruned) e clear = no_kids-same f.kids (nil_from_length f.kids (fit.pruned e).refs) (l + 1) l
      go (Some Library) e clear = no_kids-same f.kids (nil_from_length f.kids (fit.library e).refs) (l + 1) l
      go (Some Proof) e clear = merkle_depths-same f.kids steady l below clear
      go (Some Update) e clear = merkle_depths-same f.kids steady l below clear

  plain_depth-more : (l : ℕ) → l < 3 → plain_depth f l ≡ depth_above (kid_level f l) f.kids → (b : Bool) → is_significant (mask_of_face f) (suc l) ≡ b → (if b then depth_above (kid_level f (suc l)) f.kids else plain_depth f l) ≡ depth_above (kid_level f (suc l)) f.kids
  plain_depth-more l below here true e = refl
  plain_depth-more l below here false e =
      let off = subst (λ m. is_significant (mask_of_face f) m ≡ false) (sym (add-one l)) e in
      here ∙ sym (depth_above-same l below off) ∙ ap (λ m. depth_above (kid_level f m) f.kids) (add-one l)

  -- the depth of a cell that is no pruned branch, at any level, is one more than the greatest of its children's there
  pub plain_depth-is : (l : ℕ) → l ≤ 3 → plain_depth f l ≡ depth_above (kid_level f l) f.kids
  unfolding plain_depth
  plain_depth-is zero below = refl
  plain_depth-is (suc l) below = plain_depth-more l (omega arith) (plain_depth-is l (omega arith)) (is_significant (mask_of_face f) (suc l)) refl

  pruned_height : kind_of_face f ≡ Some Pruned → pruned_depth f 3 ≡ 0
  pruned_height e =
      let count = bit_count (mask_of_face f) in
      let stated : ℕ → ℕ = λ place. if nat_lt place count then stated_depth f (2 + 32 * count + 2 * place) else 0 in
      let small = mask_of_face-small f fit (λ k d in'. (steady k d in').small) in
      ap stated (lowest_count-whole (mask_of_face f) small)
      ∙ ap (λ b. if b then stated_depth f (2 + 32 * count + 2 * count) else 0) (le-ltb count count (le_refl count))

  -- the height of a cell is one more than the greatest height of a child
  pub height_of_face-is : height_of_face f ≡ depth_above 3 f.kids
  height_of_face-is =
      ⊎_elim
      (λ e. if_pruned-yes f e _ _ ∙ pruned_height e ∙ sym (ap (depth_above 3) (no_kids-pruned f fit e)))
      (λ e. if_pruned-no f e _ _ ∙ plain_depth-is 3 (omega arith) ∙ ap (λ l. depth_above l f.kids) (whole_level (is_merkle (kind_of_face f))))
      (pruned-cases (kind_of_face f))

-- ---- heights

-- each child is lower than its cell
depth_above-bound : (l depth : ℕ) (ks : List ChildInfo) → depth ≤ fold (λ d k. max d (info_depth k l + 1)) depth ks
depth_above-bound l depth [] = omega arith
depth_above-bound l depth (k ∷ ks) = let rest = depth_above-bound l (max depth (info_depth k l + 1)) ks in omega arith

depth_above-each : (l depth : ℕ) (ks : List ChildInfo) → All (λ k. info_depth k l < fold (λ d k. max d (info_depth k l + 1)) depth ks) ks
depth_above-each l depth [] = All-nil _
depth_above-each l depth (k ∷ ks) =
    let below = depth_above-bound l (max depth (info_depth k l + 1)) ks in
    All-cons (λ x. info_depth x l < fold (λ d k. max d (info_depth k l + 1)) (max depth (info_depth k l + 1)) ks) k ks (omega arith) (depth_above-each l (max depth (info_depth k l + 1)) ks)

-- one kid that is steady, among any others
module _ (f : FaceView) (fit : IsFaceFit f) (k : ChildInfo) (in' : Contains f.kids k) (steady : IsSteady k) where
  one_kid : (l : ℕ) → l < 3 → bit_at (all_masks f.kids) l ≡ 0 → info_depth k (l + 1) ≡ info_depth k l
  one_kid l below clear =
      steady.depths l below (clear-bit k.mask l below (All-contains (λ k. bit_at k.mask l ≡ 0) f.kids k (joined-clear 0 l f.kids clear).1 in'))

  one_merkle_kid : (l : ℕ) → l < 3 → bit_at (all_masks f.kids / 2) l ≡ 0 → info_depth k (level_below true (l + 1)) ≡ info_depth k (level_below true l)
  one_merkle_kid zero below clear = one_kid 1 (omega arith) (bit_at-suc (all_masks f.kids) 0 ∙ clear)
  one_merkle_kid (suc zero) below clear = one_kid 2 (omega arith) (bit_at-suc (all_masks f.kids) 1 ∙ clear)
  one_merkle_kid (suc (suc zero)) below clear = refl
  one_merkle_kid (suc (suc (suc l))) below clear = absurd (omega arith)

  some_kid : length f.kids ≡ 0 → ⊥
  some_kid none = omega (arith, none, in'.1)

  kid_depth-same : (l : ℕ) → l < 3 → is_significant (mask_of_face f) (l + 1) ≡ false → info_depth k (kid_level f (l + 1)) ≡ info_depth k (kid_level f l)
  kid_depth-same l below off = go (kind_of_face f) refl (bit-clear (mask_of_face f) l below off)
    where
      go : (kind : Option Kind) → kind_of_face f ≡ kind → bit_at (mask_by_kind kind (data_of f.bits) f.kids) l ≡ 0 → info_depth k (level_below (is_merkle kind) (l + 1)) ≡ info_depth k (level_below (is_merkle kind) l)
      go None e clear = absurd (fit.known e)
      go (Some Ordinary) e clear = one_kid l below clear
      go (Some Pruned) e clear = absurd (some_kid (fit.pruned e).refs)
      go (Some Library) e clear = absurd (some_kid (fit.library e).refs)
      go (Some Proof) e clear = one_merkle_kid l below clear
      go (Some Update) e clear = one_merkle_kid l below clear

  kid_lower : (l : ℕ) → info_depth k l < depth_above l f.kids
  kid_lower l = All-contains (λ k. info_depth k l < depth_above l f.kids) f.kids k (depth_above-each l 0 f.kids) in'

  plain_depth-step : (l : ℕ) → l < 3 → info_depth k (kid_level f l) < plain_depth f l → (b : Bool) → is_significant (mask_of_face f) (suc l) ≡ b → info_depth k (kid_level f (suc l)) < (if b then depth_above (kid_level f (suc l)) f.kids else plain_depth f l)
  plain_depth-step l below lower true e = kid_lower (kid_level f (suc l))
  plain_depth-step l below lower false e =
      let off = subst (λ m. is_significant (mask_of_face f) m ≡ false) (sym (add-one l)) e in
      omega (arith, kid_depth-same l below off, ap (λ m. info_depth k (kid_level f m)) (add-one l))

  plain_depth-above : (l : ℕ) → l ≤ 3 → info_depth k (kid_level f l) < plain_depth f l
  unfolding plain_depth
  plain_depth-above zero low = kid_lower (kid_level f 0)
  plain_depth-above (suc l) low = plain_depth-step l (omega arith) (plain_depth-above l (omega arith)) (is_significant (mask_of_face f) (suc l)) refl

  -- it is lower than its parent
  pub height_of_face-kid : height_of_info k < height_of_face f
  height_of_face-kid =
      ⊎_elim
      (λ e. absurd (some_kid (fit.pruned e).refs))
      (λ e.
      let lower = plain_depth-above 3 (omega arith) in
      omega (arith, if_pruned-no f e (pruned_depth f 3) (plain_depth f 3), ap (info_depth k) (whole_level (is_merkle (kind_of_face f)))))
      (pruned-cases (kind_of_face f))

height_of_face-kids : (f : FaceView) → IsFaceFit f → All IsSteady f.kids → All (λ k. height_of_info k < height_of_face f) f.kids
height_of_face-kids f fit steady = λ i d in'. height_of_face-kid f fit (get_or f.kids i d) (Contains-get_or f.kids i d in') (steady i d in')

module _ (H : List ℕ → Hash256) where
  mutual
    pub IsSteady-info_of : (t : Tree) → IsWellFormed H t → IsSteady (info_of H t)
    IsSteady-info_of (cell exotic bits ts) good =
        IsSteady-info_of_face H (record { exotic = exotic; bits = bits; kids = infos_of H ts }) good.2 (λ k d in'. (IsSteady-infos_of ts good.3 k d in').small)

    pub IsSteady-infos_of : (ts : Trees) → AreWellFormed H ts → All IsSteady (infos_of H ts)
    IsSteady-infos_of no_trees good = All-nil IsSteady
    IsSteady-infos_of (tree_and t ts) good = All-cons IsSteady (info_of H t) (infos_of H ts) (IsSteady-info_of t good.0) (IsSteady-infos_of ts good.1)

  -- the height of a cell is one more than the greatest height of a child, or 0 for a cell without children
  pub height_of-is : (t : Tree) → IsWellFormed H t → height_of H t ≡ depth_above 3 (map (info_of H) (children t))
  height_of-is (cell exotic bits ts) good =
      height_of_face-is (record { exotic = exotic; bits = bits; kids = infos_of H ts }) good.2 (IsSteady-infos_of ts good.3)
      ∙ ap (depth_above 3) (infos_of-list_of H ts)

  child-below : (height : ℕ) (ts : Trees) (c : Tree) → All (λ k. height_of_info k < height) (infos_of H ts) → Contains (list_of ts) c → height_of H c < height
  child-below height no_trees c all in' = absurd (Contains-nil c in')
  child-below height (tree_and t ts) c all in' =
      ⊎_elim
      (λ same. subst (λ x. height_of H x < height) same (All-head (λ k. height_of_info k < height) (info_of H t) (infos_of H ts) all))
      (λ later. child-below height ts c (All-tail (λ k. height_of_info k < height) (info_of H t) (infos_of H ts) all) later)
      (Contains-cases t (list_of ts) c in')

  heights-below : (exotic : Bool) (bits : List Bool) (ts : Trees) → IsWellFormed H (cell exotic bits ts) → All (λ k. height_of_info k < height_of H (cell exotic bits ts)) (infos_of H ts)
  heights-below exotic bits ts good = height_of_face-kids (record { exotic = exotic; bits = bits; kids = infos_of H ts }) good.2 (IsSteady-infos_of ts good.3)

  -- so each child is lower
  pub height_of-child : (t c : Tree) → IsWellFormed H t → Contains (children t) c → height_of H c < height_of H t
  height_of-child (cell exotic bits ts) c good in' =
      child-below (height_of H (cell exotic bits ts)) ts c (heights-below exotic bits ts good) in'

  -- no subtree is higher, and none but the cell itself is as high
  mutual
    pub height_of-subtree : (t s : Tree) → IsWellFormed H t → Contains (subtrees t) s → height_of H s ≤ height_of H t
    height_of-subtree (cell exotic bits ts) s good in' =
        ⊎_elim
        (λ same. le_of_eq (ap (height_of H) (sym same)))
        (λ below. le_of_lt (height_of-subtree_of_all ts (height_of H (cell exotic bits ts)) s good.3 (heights-below exotic bits ts good) below))
        (Contains-cases (cell exotic bits ts) (subtrees_of_all ts) s in')

    height_of-subtree_of_all : (ts : Trees) (height : ℕ) (s : Tree) → AreWellFormed H ts → All (λ k. height_of_info k < height) (infos_of H ts) → Contains (subtrees_of_all ts) s → height_of H s < height
    height_of-subtree_of_all no_trees height s good all in' = absurd (Contains-nil s in')
    height_of-subtree_of_all (tree_and t ts) height s good all in' =
        ⊎_elim
        (λ here. lt_of_le_of_lt (height_of-subtree t s good.0 here) (All-head (λ k. height_of_info k < height) (info_of H t) (infos_of H ts) all))
        (λ later. height_of-subtree_of_all ts height s good.1 (All-tail (λ k. height_of_info k < height) (info_of H t) (infos_of H ts) all) later)
        (Contains-append_cases (subtrees t) (subtrees_of_all ts) s in')

  pub subtree-lower : (t s : Tree) → IsWellFormed H t → Contains (subtrees t) s → (t ≡ s) ⊎ (height_of H s < height_of H t)
  subtree-lower (cell exotic bits ts) s good in' =
      ⊎_elim
      inl
      (λ below. inr (height_of-subtree_of_all ts (height_of H (cell exotic bits ts)) s good.3 (heights-below exotic bits ts good) below))
      (Contains-cases (cell exotic bits ts) (subtrees_of_all ts) s in')

-- Where an old half shows a tree, each wanted hash is the rep of the cell that is shown: so faces are found by hash.
use Rattle.std.proofs.Common.{◌≡◌, ℕ, zero, suc, ◌/◌, ◌^◌, ◌≤◌, ◌<◌, ◌+◌, List, [], ◌∷◌, ◌++◌, get_or, map, All, Contains, Bool, true, false, IsTrue, if◌then◌else◌, Option, Some, None, refl, ap, ap₂, sym, ◌∙◌, subst, ⊎_elim, add-one, le_refl, eq-or-lt_of_le, lt_of_le_of_lt, arith}
use Rattle.std.specs.Bool.{beq}
use Rattle.std.specs.Cmp.Lexicographic.{pointwise}
use Rattle.std.proofs.lemmas.Bool.{and_parts}
use Rattle.std.proofs.lemmas.Nat.Bits.{bit_at_above}
use Rattle.std.proofs.lemmas.List.{map-append}
use Rattle.std.proofs.lemmas.List.Elements.{All-map, All-contains, Contains-get_or}
use Rattle.cd_base.specs.declared.hash.Hash256.{Hash256}
use Rattle.cd_cell.specs.declared.info.ChildInfo.{ChildInfo}
use Rattle.cd_cell.specs.declared.kind.Kind.{Kind}
use Rattle.cd_cell.specs.declared.kind.Kind.TheVariants.{Ordinary, Pruned, Library, Proof, Update}
use Rattle.cd_cell.specs.Masks.{is_significant}
use Rattle.cd_cell.specs.BitText.{data_of}
use Rattle.cd_cell.specs.Infos.{info_hash, info_depth, all_masks}
use Rattle.cd_cell.specs.FaceView.{FaceView}
use Rattle.cd_cell.specs.Levels.{kind_of_face, mask_by_kind, mask_of_face, is_merkle, level_below, kid_level}
use Rattle.cd_cell.specs.Fit.{IsFaceFit}
use Rattle.cd_cell.specs.Steady.{IsSteady}
use Rattle.cd_cell.specs.Tree.{Tree, cell, Trees, no_trees, tree_and, children, info_of, infos_of, face_of, mask_of, rep_of, hash_at, IsWellFormed}
use Rattle.cd_cell.specs.Equality.{same_bits-Decides}
use Rattle.cd_cell.specs.Updates.{matches, Matches, agrees, is_hidden, Unless, Shows, ShowAll, wanted, wanted_of_all, shown_cells, shown_of_all}
use Rattle.cd_cell.proofs.Subtrees.{Contains-mapped, Contains-first, Contains-later, kids-face_of, info_of-face_of, IsGoodFace-face_of, well_formed-child}
use Rattle.cd_cell.proofs.Heights.{clear-bit, joined-small, IsSteady-info_of}
use Rattle.cd_cell.proofs.LevelRecursions.{level_below-low}
use Rattle.cd_cell.proofs.Grafting.{joined-bound}
use Rattle.cd_cell.proofs.Showing.{matches-Decides}

-- what is that of the level below at each level that isn't significant is one from the level of the mask on
flat-from : {A : Type 0} (mask d l : ℕ) (at : ℕ → A) → ((n : ℕ) → n < 3 → is_significant mask (n + 1) ≡ false → at (n + 1) ≡ at n) → mask < 2 ^ d → d ≤ l → l ≤ 3 → at l ≡ at d
flat-from mask d zero at flat small from low = ap at (let same : 0 ≡ d = omega arith in same)
flat-from mask d (suc l) at flat small from low =
    ⊎_elim
    (λ same. ap at (sym same))
    (λ above.
    let more : d ≤ l = omega arith in
    let off = clear-bit mask l (omega arith) (bit_at_above mask d l small more) in
    ap at (sym (add-one l)) ∙ flat l (omega arith) off ∙ flat-from mask d l at flat small more (omega arith))
    (eq-or-lt_of_le from)

-- a cell without a level above d has one hash and one depth from there on
pub hash-flat : (k : ChildInfo) (d l : ℕ) → IsSteady k → k.mask < 2 ^ d → d ≤ l → l ≤ 3 → info_hash k l ≡ info_hash k d
hash-flat k d l steady small from low = flat-from k.mask d l (info_hash k) steady.hashes small from low

pub depth-flat : (k : ChildInfo) (d l : ℕ) → IsSteady k → k.mask < 2 ^ d → d ≤ l → l ≤ 3 → info_depth k l ≡ info_depth k d
depth-flat k d l steady small from low = flat-from k.mask d l (info_depth k) steady.depths small from low

-- the levels of children, by that of their cell
merkle_small : (m d : ℕ) → m ≤ 7 → d ≤ 3 → m / 2 < 2 ^ d → m < 2 ^ level_below true d
merkle_small m zero small top low = omega arith
merkle_small m (suc zero) small top low = omega arith
merkle_small m (suc (suc zero)) small top low = omega arith
merkle_small m (suc (suc (suc zero))) small top low = omega arith
merkle_small m (suc (suc (suc (suc d)))) small top low = absurd (omega arith)

kids-small : (f : FaceView) (d : ℕ) → d ≤ 3 → IsFaceFit f → All (λ k. k.mask ≤ 7) f.kids → mask_of_face f < 2 ^ d → All (λ k. k.mask < 2 ^ kid_level f d) f.kids
kids-small f d top fit small low = go (kind_of_face f) refl low
  where
    go : (kind : Option Kind) → kind_of_face f ≡ kind → mask_by_kind kind (data_of f.bits) f.kids < 2 ^ d → All (λ k. k.mask < 2 ^ level_below (is_merkle kind) d) f.kids
    go None e low = absurd (fit.known e)
    go (Some Ordinary) e low = λ k x in'. lt_of_le_of_lt (joined-bound 0 f.kids k x in') low
    go (Some Pruned) e low = λ k x in'. omega (arith, (fit.pruned e).refs, in')
    go (Some Library) e low = λ k x in'. omega (arith, (fit.library e).refs, in')
    go (Some Proof) e low = λ k x in'. lt_of_le_of_lt (joined-bound 0 f.kids k x in') (merkle_small (all_masks f.kids) d (joined-small 0 f.kids (omega arith) small) top low)
    go (Some Update) e low = λ k x in'. lt_of_le_of_lt (joined-bound 0 f.kids k x in') (merkle_small (all_masks f.kids) d (joined-small 0 f.kids (omega arith) small) top low)

same_flag : (a b : Bool) → beq a b ≡ true → a ≡ b
same_flag true true e = refl
same_flag true false e = cc
same_flag false true e = cc
same_flag false false e = refl

-- faces that agree are of one kind, so they take their children at one level
pub same_kind : (d : ℕ) (stored shown : FaceView) → agrees d stored shown ≡ true → kid_level stored d ≡ kid_level shown d
same_kind d stored shown agree =
    let both = and_parts _ _ (and_parts _ _ agree).0 in
    ap₂ (λ exotic bits. kid_level (record { exotic = exotic; bits = bits; kids = [] }) d) (same_flag stored.exotic shown.exotic both.0) ((same_bits-Decides stored.bits shown.bits).0 both.1)

module _ (H : List ℕ → Hash256) where
  -- an old cell at a Merkle depth: it has no level above
  pub record IsOld (d : ℕ) (t : Tree) : Type 0 where
    pub well : IsWellFormed H t
    pub small : mask_of H t < 2 ^ d

  pub rep-flat : (t : Tree) (d : ℕ) → d ≤ 3 → IsOld d t → hash_at H t d ≡ rep_of H t
  rep-flat t d top old = sym (hash-flat (info_of H t) d 3 (IsSteady-info_of H t old.well) old.small top (omega arith))

  pub old-children : (t : Tree) (d : ℕ) → d ≤ 3 → IsOld d t → (c : Tree) → Contains (children t) c → IsOld (kid_level (face_of H t) d) c
  old-children t d top old c in' =
      let f = face_of H t in
      let small : All (λ k. k.mask ≤ 7) f.kids =
      subst (All (λ k. k.mask ≤ 7)) (sym (kids-face_of H t))
      (All-map (λ k. k.mask ≤ 7) (info_of H) (children t)
      (λ p e in-children. (IsSteady-info_of H (get_or (children t) p e) (well_formed-child H t (get_or (children t) p e) old.well (Contains-get_or (children t) p e in-children))).small))
      in
      let low : mask_of_face f < 2 ^ d = subst (λ k. k.mask < 2 ^ d) (info_of-face_of H t) old.small in
      let kid = subst (λ ks. Contains ks (info_of H c)) (sym (kids-face_of H t)) (Contains-mapped (info_of H) (children t) c in') in
      record {
        well = well_formed-child H t c old.well in';
        small = All-contains (λ k. k.mask < 2 ^ kid_level f d) f.kids (info_of H c) (kids-small f d top (IsGoodFace-face_of H t old.well).fit small low) kid;
      }

  wanted-step : (hidden agree : Bool) (o t : Hash256) (shown : Tree) (hashes : List Hash256) (trees : List Tree) (P : Type 0) → Unless hidden (IsTrue agree × P) → o ≡ rep_of H shown → (agree ≡ true → P → hashes ≡ map (rep_of H) trees) → (if hidden then [] else o ∷ hashes) ≡ map (rep_of H) (if hidden then [] else shown ∷ trees)
  wanted-step true agree o t shown hashes trees P shows e f = refl
  wanted-step false agree o t shown hashes trees P shows e f = ap₂ (λ h hs. h ∷ hs) e (f shows.0 shows.1)

  mutual
    -- the wanted hashes are the reps of the shown cells
    pub wanted-are : (o t : Tree) (d : ℕ) → d ≤ 3 → IsOld d t → Matches d (info_of H t) (info_of H o) → Shows H o t d → wanted H o d ≡ map (rep_of H) (shown_cells H o t d)
    wanted-are (cell exotic bits os) t d top old same shows =
        let o = cell exotic bits os in
        let shown = face_of H o in
        let kd = kid_level shown d in
        wanted-step (is_hidden d shown) (agrees d (face_of H t) shown) (hash_at H o d) (rep_of H t) t (wanted_of_all H os kd) (shown_of_all H os (children t) kd) (ShowAll H os (children t) kd) shows
        (sym (same.hashes d (le_refl d)) ∙ rep-flat t d top old)
        (λ agree all.
        let parts = and_parts _ _ agree in
        let kind = same_kind d (face_of H t) shown agree in
        let pairs = subst (λ ks. pointwise (matches kd) ks shown.kids ≡ true) (kids-face_of H t) parts.1 in
        wanted-of_all os (children t) kd (level_below-low (is_merkle (kind_of_face shown)) d top)
        (λ c in'. subst (λ l. IsOld l c) kind (old-children t d top old c in'))
        pairs all)

    wanted-of_all : (os : Trees) (ts : List Tree) (d : ℕ) → d ≤ 3 → ((c : Tree) → Contains ts c → IsOld d c) → pointwise (matches d) (map (info_of H) ts) (infos_of H os) ≡ true → ShowAll H os ts d → wanted_of_all H os d ≡ map (rep_of H) (shown_of_all H os ts d)
    wanted-of_all no_trees ts d top old pairs all = refl
    wanted-of_all (tree_and o os) [] d top old pairs all = absurd all
    wanted-of_all (tree_and o os) (t ∷ ts) d top old pairs all =
        let both = and_parts (matches d (info_of H t) (info_of H o)) (pointwise (matches d) (map (info_of H) ts) (infos_of H os)) pairs in
        let first = wanted-are o t d top (old t (Contains-first t ts)) ((matches-Decides d (info_of H t) (info_of H o)).0 both.0) all.0 in
        let rest = wanted-of_all os ts d top (λ c in'. old c (Contains-later t ts c in')) both.1 all.1 in
        ap₂ (λ hs later. hs ++ later) first rest ∙ sym (map-append (rep_of H) (shown_cells H o t d) (shown_of_all H os ts d))

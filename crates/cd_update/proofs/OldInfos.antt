-- What a cell shows up to a level, as a cell without levels above shows it.
use Rattle.std.proofs.Common.{◌≡◌, ℕ, ◌+◌, ◌<◌, ◌≤◌, ◌/◌, ◌^◌, min, List, [], ◌∷◌, All, nat_eq, ◌||◌, Bool, true, false, Some, None, refl, ap, sym, ◌∙◌, subst, ⊎_elim, mod-eq_of_lt, le_refl, eqb-true, eq-eqb, arith}
use Rattle.std.specs.Prelude.{if◌then◌else◌}
use Rattle.std.specs.List.{list_any}
use Rattle.std.proofs.lemmas.List.Elements.{All-head, All-tail}
use Rattle.std.proofs.lemmas.Bool.{cases_lt, and_parts, and_from}
use Rattle.cd_base.specs.declared.hash.Hash256.{Hash256}
use Rattle.cd_cell.specs.declared.info.ChildInfo.{ChildInfo}
use Rattle.cd_cell.specs.Masks.{lowest_bits, is_significant}
use Rattle.cd_cell.specs.Infos.{info_hash, info_depth}
use Rattle.cd_cell.specs.Steady.{IsSteady}
use Rattle.cd_cell.specs.Tree.{Tree, info_of, face_of, IsWellFormed}
use Rattle.cd_cell.specs.FaceView.{FaceView}
use Rattle.cd_cell.specs.Levels.{mask_of_face, info_of_face}
use Rattle.cd_cell.specs.Equality.{same_info, same_info-Decides}
use Rattle.cd_cell.specs.Updates.{matches, Matches, stands_for}
use Rattle.cd_cell.proofs.Showing.{matches-Decides}
use Rattle.cd_cell.proofs.Heights.{IsSteady-info_of}
use Rattle.cd_cell.proofs.Wanted.{hash-flat, depth-flat}
use Rattle.cd_cell.proofs.Subtrees.{IsGoodFace-face_of, info_of-face_of}
use Rattle.cd_cell.proofs.LevelRecursions.{at_levels, depth_of_info}
use Rattle.cd_cell.proofs.Grafting.{lowest-significant, lowest-lowest}
use Rattle.cd_update.specs.Pairing.{upto, IsOldInfo}
use Rattle.cd_update.specs.Grafts.{known_for}

pub hash-upto : (d : ℕ) (k : ChildInfo) (l : ℕ) → l ≤ 3 → info_hash (upto d k) l ≡ info_hash k (min d l)
hash-upto d k = at_levels (λ l. info_hash (upto d k) l ≡ info_hash k (min d l)) (ap (info_hash k) (let same : 0 ≡ min d 0 = omega arith in same)) refl refl refl

pub depth-upto : (d : ℕ) (k : ChildInfo) (l : ℕ) → l ≤ 3 → info_depth (upto d k) l ≡ info_depth k (min d l)
depth-upto d k = at_levels (λ l. info_depth (upto d k) l ≡ info_depth k (min d l)) (ap (info_depth k) (let same : 0 ≡ min d 0 = omega arith in same)) refl refl refl

mask_small : (m d : ℕ) → d ≤ 3 → m ≤ 7 → lowest_bits m d ≤ 7
mask_small m d top small = at_levels (λ e. lowest_bits m e ≤ 7) (omega arith) (omega arith) (omega arith) (omega arith) d top

mask_whole : (m d : ℕ) → d ≤ 3 → lowest_bits m d ≡ lowest_bits (lowest_bits m d) 3
mask_whole m d top = at_levels (λ e. lowest_bits m e ≡ lowest_bits (lowest_bits m e) 3) (omega arith) (omega arith) (omega arith) (omega arith) d top

-- what is the same at a level as at the one below, is so up to d
module _ {A : Type 0} (shown of_cell : ℕ → A) (d : ℕ) (are : (l : ℕ) → l ≤ 3 → shown l ≡ of_cell (min d l)) where
  same_below : (l : ℕ) → l < 3 → (l < d → of_cell (l + 1) ≡ of_cell l) → shown (l + 1) ≡ shown l
  same_below l below flat =
      ⊎_elim
      (λ low.
      are (l + 1) (omega arith)
      ∙ ap of_cell (let same : min d (l + 1) ≡ l + 1 = omega arith in same)
      ∙ flat low
      ∙ ap of_cell (let same : l ≡ min d l = omega arith in same)
      ∙ sym (are l (omega arith)))
      (λ above.
      are (l + 1) (omega arith)
      ∙ ap of_cell (let same : min d (l + 1) ≡ min d l = omega arith in same)
      ∙ sym (are l (omega arith)))
      (cases_lt l d)

upto-steady : (d : ℕ) (k : ChildInfo) → d ≤ 3 → IsSteady k → IsSteady (upto d k)
upto-steady d k top steady =
    let off_before : (l : ℕ) → l < d → is_significant (upto d k).mask (l + 1) ≡ false → is_significant k.mask (l + 1) ≡ false =
    λ l low off. sym (lowest-significant k.mask (l + 1) d (omega arith) top) ∙ off
    in
    record {
      small = mask_small k.mask d top steady.small;
      hashes = λ l below off. same_below (info_hash (upto d k)) (info_hash k) d (hash-upto d k) l below (λ low. steady.hashes l below (off_before l low off));
      depths = λ l below off. same_below (info_depth (upto d k)) (info_depth k) d (depth-upto d k) l below (λ low. steady.depths l below (off_before l low off));
    }

pub IsOldInfo-upto : (d : ℕ) (k : ChildInfo) → d ≤ 3 → IsSteady k → ((l : ℕ) → l ≤ 3 → info_depth k l ≤ 1024) → IsOldInfo (upto d k)
IsOldInfo-upto d k top steady low = record {
  whole = ap (λ m. record { mask = m; hashes = (upto d k).hashes; depths = (upto d k).depths }) (mask_whole k.mask d top);
  steady = upto-steady d k top steady;
  low = λ l small. omega (arith, depth-upto d k l small, low (min d l) (omega arith));
}

pub IsOldInfo-of : (H : List ℕ → Hash256) (t : Tree) (d : ℕ) → d ≤ 3 → IsWellFormed H t → IsOldInfo (upto d (info_of H t))
IsOldInfo-of H t d top well =
    IsOldInfo-upto d (info_of H t) top (IsSteady-info_of H t well)
    (λ l low. omega (arith, (IsGoodFace-face_of H t well).fit.depths l low, depth_of_info H (face_of H t) l low, ap (λ k. info_depth k l) (info_of-face_of H t)))

-- ---- what an old cell shows, by what shows it

pub whole_face : (H : List ℕ → Hash256) (f : FaceView) → mask_of_face f ≤ 7 → info_of_face H f ≡ upto 3 (info_of_face H f)
whole_face H f small =
    let k = info_of_face H f in
    ap (λ m. record { mask = m; hashes = k.hashes; depths = k.depths }) (let same : mask_of_face f ≡ lowest_bits (mask_of_face f) 3 = omega arith in same)

pub whole-info_of : (H : List ℕ → Hash256) (t : Tree) → IsWellFormed H t → info_of H t ≡ upto 3 (info_of H t)
whole-info_of H t well =
    let small : mask_of_face (face_of H t) ≤ 7 = omega (arith, (IsSteady-info_of H t well).small, ap (λ k. k.mask) (info_of-face_of H t)) in
    subst (λ k. k ≡ upto 3 k) (sym (info_of-face_of H t)) (whole_face H (face_of H t) small)

abbrev info_with : ℕ → Hash256 → Hash256 → Hash256 → Hash256 → ℕ → ℕ → ℕ → ℕ → ChildInfo
info_with m a b c d e f g h = record { mask = m; hashes = a ∷ b ∷ c ∷ d ∷ []; depths = e ∷ f ∷ g ∷ h ∷ [] }

-- a cell without a level above d shows what a cell that it matches up to d shows up to there
module _ (k o : ChildInfo) (d : ℕ) (top : d ≤ 3) (whole : k ≡ upto 3 k) (steady : IsSteady k) (small : k.mask < 2 ^ d) (same : Matches d k o) where
  same_hashes : (l : ℕ) → l ≤ 3 → info_hash k (min 3 l) ≡ info_hash o (min d l)
  same_hashes l low =
      ⊎_elim
      (λ below. ap (info_hash k) (let e : min 3 l ≡ l = omega arith in e) ∙ same.hashes l (omega arith) ∙ ap (info_hash o) (let e : l ≡ min d l = omega arith in e))
      (λ above. ap (info_hash k) (let e : min 3 l ≡ l = omega arith in e) ∙ hash-flat k d l steady small above low ∙ same.hashes d (le_refl d) ∙ ap (info_hash o) (let e : d ≡ min d l = omega arith in e))
      (cases_lt l d)

  same_depths : (l : ℕ) → l ≤ 3 → info_depth k (min 3 l) ≡ info_depth o (min d l)
  same_depths l low =
      ⊎_elim
      (λ below. ap (info_depth k) (let e : min 3 l ≡ l = omega arith in e) ∙ same.depths l (omega arith) ∙ ap (info_depth o) (let e : l ≡ min d l = omega arith in e))
      (λ above. ap (info_depth k) (let e : min 3 l ≡ l = omega arith in e) ∙ depth-flat k d l steady small above low ∙ same.depths d (le_refl d) ∙ ap (info_depth o) (let e : d ≡ min d l = omega arith in e))
      (cases_lt l d)

  pub matched : k ≡ upto d o
  matched =
      let mask : lowest_bits k.mask 3 ≡ lowest_bits o.mask d = mod-eq_of_lt (let b : k.mask < 2 ^ 3 = omega (arith, steady.small) in b) ∙ sym (mod-eq_of_lt small) ∙ same.masks in
      let h0 : info_hash k 0 ≡ info_hash o 0 = same.hashes 0 (omega arith) in
      let h1 = same_hashes 1 (omega arith) in
      let h2 = same_hashes 2 (omega arith) in
      let h3 = same_hashes 3 (omega arith) in
      let d0 : info_depth k 0 ≡ info_depth o 0 = same.depths 0 (omega arith) in
      let d1 = same_depths 1 (omega arith) in
      let d2 = same_depths 2 (omega arith) in
      let d3 = same_depths 3 (omega arith) in
      whole ∙ joined mask h0 h1 h2 h3 d0 d1 d2 d3
    where
      joined : {m n : ℕ} {a b p q r s u v : Hash256} {e f g h i j x y : ℕ} → m ≡ n → a ≡ b → p ≡ q → r ≡ s → u ≡ v → e ≡ f → g ≡ h → i ≡ j → x ≡ y → info_with m a p r u e g i x ≡ info_with n b q s v f h j y
      joined em ea ep er eu ee eg ei ex = cc

-- ---- the one known info that stands for a hidden cell

same_bool : (a b : Bool) → (a ≡ true → b ≡ true) → (b ≡ true → a ≡ true) → a ≡ b
same_bool true b f g = sym (f refl)
same_bool false true f g = g refl
same_bool false false f g = refl

none_above : (m d : ℕ) → d ≤ 3 → lowest_bits m d / 2 ^ d ≡ 0
none_above m d top = at_levels (λ e. lowest_bits m e / 2 ^ e ≡ 0) (omega arith) (omega arith) (omega arith) (omega arith) d top

small_from : (m d : ℕ) → d ≤ 3 → m / 2 ^ d ≡ 0 → m < 2 ^ d
small_from m d top e = at_levels (λ l. m / 2 ^ l ≡ 0 → m < 2 ^ l) (λ z. omega arith) (λ z. omega arith) (λ z. omega arith) (λ z. omega arith) d top e

upto-matches : (d : ℕ) (k : ChildInfo) → d ≤ 3 → Matches d (upto d k) k
upto-matches d k top = record {
  masks = lowest-lowest k.mask d d (le_refl d);
  hashes = λ l low. hash-upto d k l (omega arith) ∙ ap (info_hash k) (let e : min d l ≡ l = omega arith in e);
  depths = λ l low. depth-upto d k l (omega arith) ∙ ap (info_depth k) (let e : min d l ≡ l = omega arith in e);
}

module _ (hidden : ChildInfo) (d : ℕ) (top : d ≤ 3) where
  pub stands-as : (k : ChildInfo) → IsOldInfo k → stands_for hidden d k ≡ same_info (upto d hidden) k
  stands-as k old =
      same_bool (stands_for hidden d k) (same_info (upto d hidden) k)
      (λ e.
      let both = and_parts (nat_eq (k.mask / 2 ^ d) 0) (matches d k hidden) e in
      (same_info-Decides (upto d hidden) k).1 (sym (matched k hidden d top old.whole old.steady (small_from k.mask d top (eqb-true (k.mask / 2 ^ d) 0 both.0)) ((matches-Decides d k hidden).0 both.1))))
      (λ e.
      let same = (same_info-Decides (upto d hidden) k).0 e in
      subst (λ x. stands_for hidden d x ≡ true) same
      (and_from (nat_eq ((upto d hidden).mask / 2 ^ d) 0) (matches d (upto d hidden) hidden) (eq-eqb ((upto d hidden).mask / 2 ^ d) 0 (none_above hidden.mask d top)) ((matches-Decides d (upto d hidden) hidden).1 (upto-matches d hidden top))))

  known-step : (k : ChildInfo) (ks : List ChildInfo) → IsOldInfo k → (b : Bool) → same_info (upto d hidden) k ≡ b → known_for ks hidden d ≡ (if list_any (same_info (upto d hidden)) ks then Some (upto d hidden) else None) → known_for (k ∷ ks) hidden d ≡ (if list_any (same_info (upto d hidden)) (k ∷ ks) then Some (upto d hidden) else None)
  known-step k ks old true e rest =
      ap (λ b. if b then Some k else known_for ks hidden d) (stands-as k old ∙ e)
      ∙ ap Some (sym ((same_info-Decides (upto d hidden) k).0 e))
      ∙ ap (λ b. if b || list_any (same_info (upto d hidden)) ks then Some (upto d hidden) else None) (sym e)
  known-step k ks old false e rest =
      ap (λ b. if b then Some k else known_for ks hidden d) (stands-as k old ∙ e)
      ∙ rest
      ∙ ap (λ b. if b || list_any (same_info (upto d hidden)) ks then Some (upto d hidden) else None) (sym e)

  pub known-as : (known : List ChildInfo) → All IsOldInfo known → known_for known hidden d ≡ (if list_any (same_info (upto d hidden)) known then Some (upto d hidden) else None)
  known-as [] old = refl
  known-as (k ∷ ks) old = known-step k ks (All-head IsOldInfo k ks old) (same_info (upto d hidden) k) refl (known-as ks (All-tail IsOldInfo k ks old))

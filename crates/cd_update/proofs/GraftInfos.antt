-- Laws of grafts by what cells show: what is found keeps what it stands for, so the grafted faces are good.
use Rattle.std.proofs.Common.{◌≡◌, ℕ, ◌+◌, ◌/◌, ◌^◌, ◌<◌, ◌≤◌, List, [], All, Contains, Bool, true, false, true≢false, nat_eq, Option, Some, None, refl, ap, sym, ◌∙◌, subst, ⊎_elim, arith, eqb-true}
use Rattle.std.specs.Prelude.{if◌then◌else◌, is_some}
use Rattle.std.specs.Option.{option_or, unwrap_or}
use Rattle.std.proofs.lemmas.Bool.{and_parts}
use Rattle.std.proofs.lemmas.List.Elements.{All-nil, All-cons, All-head, All-tail, All-contains, Contains-append_cases}
use Rattle.cd_base.specs.declared.hash.Hash256.{Hash256}
use Rattle.cd_cell.specs.declared.info.ChildInfo.{ChildInfo}
use Rattle.cd_cell.specs.FaceView.{FaceView}
use Rattle.cd_cell.specs.Levels.{kind_of_face, is_merkle, kid_level, info_of_face}
use Rattle.cd_cell.specs.Steady.{IsSteady}
use Rattle.cd_cell.specs.GoodFace.{IsGoodFace}
use Rattle.cd_cell.specs.Tree.{Tree, cell, Trees, no_trees, tree_and, info_of, infos_of, face_of, mask_of, hash_at, IsWellFormed, AreWellFormed}
use Rattle.cd_cell.specs.Unfolding.{no_tree}
use Rattle.cd_cell.specs.Updates.{matches, is_hidden, stands_for, some_unless}
use Rattle.cd_cell.proofs.Subtrees.{Contains-cases, Contains-nil, length-infos_of}
use Rattle.cd_cell.proofs.Heights.{IsSteady-infos_of, IsSteady-info_of_face}
use Rattle.cd_cell.proofs.LevelRecursions.{level_below-low}
use Rattle.cd_cell.proofs.Showing.{matches-Decides}
use Rattle.cd_cell.proofs.Grafting.{IsKept, AreKept, length-kept, low-whole, mask_of_face-kept, kids-low, IsKept-info, IsFaceFit-kept}
use Rattle.cd_cell.proofs.AppliedUpdates.{find-Some}
use Rattle.cd_update.specs.EachOnce.{first_of}
use Rattle.cd_cell.specs.Places.{Place, places, places_of_all}
use Rattle.cd_update.specs.Pairing.{IsOldInfo}
use Rattle.cd_update.specs.Grafts.{known_for, grafted_info, grafted_infos, grafted_face, foreign_at}
use Rattle.cd_update.proofs.EachOnceLaws.{first_of-append}

pub or_parts : {A : Type 0} (o p : Option A) → option_or o p ≡ None → (o ≡ None) × (p ≡ None)
or_parts None p e = (refl, e)
or_parts (Some x) p e = absurd (cc e)

module _ (H : List ℕ → Hash256) (known : List ChildInfo) (old : All IsOldInfo known) where
  -- what is known for a hidden cell keeps what the cell shows
  pub record IsFound (n : Tree) (d : ℕ) (k : ChildInfo) : Type 0 where
    pub kept : IsKept d (info_of H n) k
    pub steady : IsSteady k

  found-known : (n : Tree) (d : ℕ) (k : ChildInfo) → known_for known (info_of H n) d ≡ Some k → IsFound n d k
  found-known n d k e =
      let found = find-Some (stands_for (info_of H n) d) known k e in
      let both = and_parts (nat_eq (k.mask / 2 ^ d) 0) (matches d k (info_of H n)) found.0 in
      let same = (matches-Decides d k (info_of H n)).0 both.1 in
      record {
        kept = record { mask = low-whole k.mask d (eqb-true (k.mask / 2 ^ d) 0 both.0) ∙ same.masks; hashes = same.hashes; depths = same.depths };
        steady = (All-contains IsOldInfo known k old found.1).steady;
      }

  -- the kids of a grafted cell
  pub record AreFound (d : ℕ) (ks gs : List ChildInfo) : Type 0 where
    pub kept : AreKept d ks gs
    pub steady : All IsSteady gs

  pub record IsGoodGraft (f : FaceView) : Type 0 where
    pub good : IsGoodFace f
    pub steady : All IsSteady f.kids

  found-step : (n : Tree) (d : ℕ) (o : Option ChildInfo) → ((k : ChildInfo) → o ≡ Some k → IsFound n d k) → some_unless (is_some o) (hash_at H n d) ≡ None → IsFound n d (unwrap_or o (info_of H no_tree))
  found-step n d None found e = absurd (cc e)
  found-step n d (Some k) found e = found k refl

  -- a visible cell whose kids were found
  visible-good : (exotic : Bool) (bits : List Bool) (ns : Trees) (gs : List ChildInfo) (d : ℕ) → d ≤ 3 → IsWellFormed H (cell exotic bits ns) → mask_of H (cell exotic bits ns) < 2 ^ (d + 1) → is_hidden d (face_of H (cell exotic bits ns)) ≡ false → AreFound (kid_level (face_of H (cell exotic bits ns)) d) (infos_of H ns) gs → IsGoodGraft (record { exotic = exotic; bits = bits; kids = gs })
  visible-good exotic bits ns gs d top good low shown kids =
      let small : All (λ k. k.mask ≤ 7) (infos_of H ns) = λ k x in'. (IsSteady-infos_of H ns good.3 k x in').small in
      let mask = mask_of_face-kept exotic bits (infos_of H ns) gs d top small good.2 low shown kids.kept in
      record {
        good = record {
          bits = good.0;
          kids = omega (arith, good.1, length-infos_of H ns, length-kept (kid_level (face_of H (cell exotic bits ns)) d) (infos_of H ns) gs kids.kept);
          fit = IsFaceFit-kept H exotic bits (infos_of H ns) gs d top kids.kept mask good.2;
        };
        steady = kids.steady;
      }

  visible-found : (exotic : Bool) (bits : List Bool) (ns : Trees) (gs : List ChildInfo) (d : ℕ) → d ≤ 3 → IsWellFormed H (cell exotic bits ns) → mask_of H (cell exotic bits ns) < 2 ^ (d + 1) → is_hidden d (face_of H (cell exotic bits ns)) ≡ false → AreFound (kid_level (face_of H (cell exotic bits ns)) d) (infos_of H ns) gs → IsFound (cell exotic bits ns) d (info_of_face H (record { exotic = exotic; bits = bits; kids = gs }))
  visible-found exotic bits ns gs d top good low shown kids =
      let small : All (λ k. k.mask ≤ 7) (infos_of H ns) = λ k x in'. (IsSteady-infos_of H ns good.3 k x in').small in
      let mask = mask_of_face-kept exotic bits (infos_of H ns) gs d top small good.2 low shown kids.kept in
      record {
        kept = IsKept-info H exotic bits (infos_of H ns) gs d top kids.kept mask good.2;
        steady = IsSteady-info_of_face H (record { exotic = exotic; bits = bits; kids = gs }) (visible-good exotic bits ns gs d top good low shown kids).good.fit (λ k x in'. (kids.steady k x in').small);
      }

  graft-step : (n : Tree) (d : ℕ) (hidden : Bool) (whole : ChildInfo) (ps : List Place) → (some_unless (is_some (known_for known (info_of H n) d)) (hash_at H n d) ≡ None → IsFound n d (unwrap_or (known_for known (info_of H n) d) (info_of H no_tree))) → (hidden ≡ false → first_of (foreign_at H known) ps ≡ None → IsFound n d whole) → option_or (if hidden then some_unless (is_some (known_for known (info_of H n) d)) (hash_at H n d) else None) (first_of (foreign_at H known) (if hidden then [] else ps)) ≡ None → IsFound n d (if hidden then unwrap_or (known_for known (info_of H n) d) (info_of H no_tree) else whole)
  graft-step n d true whole ps hides shows e = hides (or_parts _ None e).0
  graft-step n d false whole ps hides shows e = shows refl e

  mutual
    pub graft-is : (n : Tree) (d : ℕ) → d ≤ 3 → IsWellFormed H n → mask_of H n < 2 ^ (d + 1) → first_of (foreign_at H known) (places H n d) ≡ None → IsFound n d (grafted_info H known n d)
    graft-is (cell exotic bits ns) d top good low none =
        let n = cell exotic bits ns in
        let kd = kid_level (face_of H n) d in
        let small : All (λ k. k.mask ≤ 7) (infos_of H ns) = λ k x in'. (IsSteady-infos_of H ns good.3 k x in').small in
        graft-step n d (is_hidden d (face_of H n)) (info_of_face H (record { exotic = exotic; bits = bits; kids = grafted_infos H known ns kd })) (places_of_all H ns kd)
        (λ e. found-step n d (known_for known (info_of H n) d) (found-known n d) e)
        (λ h e. visible-found exotic bits ns (grafted_infos H known ns kd) d top good low h
        (grafts-are ns kd (level_below-low (is_merkle (kind_of_face (face_of H n))) d top) good.3 (kids-low exotic bits (infos_of H ns) (infos_of H ns) d top small good.2 low) e))
        none

    grafts-are : (ns : Trees) (d : ℕ) → d ≤ 3 → AreWellFormed H ns → All (λ k. k.mask < 2 ^ (d + 1)) (infos_of H ns) → first_of (foreign_at H known) (places_of_all H ns d) ≡ None → AreFound d (infos_of H ns) (grafted_infos H known ns d)
    grafts-are no_trees d top good low none = record { kept = tt; steady = All-nil IsSteady }
    grafts-are (tree_and n ns) d top good low none =
        let both = or_parts (first_of (foreign_at H known) (places H n d)) (first_of (foreign_at H known) (places_of_all H ns d)) (sym (first_of-append (foreign_at H known) (places H n d) (places_of_all H ns d)) ∙ none) in
        let first = graft-is n d top good.0 (All-head (λ k. k.mask < 2 ^ (d + 1)) (info_of H n) (infos_of H ns) low) both.0 in
        let rest = grafts-are ns d top good.1 (All-tail (λ k. k.mask < 2 ^ (d + 1)) (info_of H n) (infos_of H ns) low) both.1 in
        record { kept = (first.kept, rest.kept); steady = All-cons IsSteady (grafted_info H known n d) (grafted_infos H known ns d) first.steady rest.steady }

  kids-are : (exotic : Bool) (bits : List Bool) (ns : Trees) (d : ℕ) → d ≤ 3 → IsWellFormed H (cell exotic bits ns) → mask_of H (cell exotic bits ns) < 2 ^ (d + 1) → first_of (foreign_at H known) (places_of_all H ns (kid_level (face_of H (cell exotic bits ns)) d)) ≡ None → AreFound (kid_level (face_of H (cell exotic bits ns)) d) (infos_of H ns) (grafted_infos H known ns (kid_level (face_of H (cell exotic bits ns)) d))
  kids-are exotic bits ns d top good low none =
      let shown = face_of H (cell exotic bits ns) in
      let small : All (λ k. k.mask ≤ 7) (infos_of H ns) = λ k x in'. (IsSteady-infos_of H ns good.3 k x in').small in
      grafts-are ns (kid_level shown d) (level_below-low (is_merkle (kind_of_face shown)) d top) good.3 (kids-low exotic bits (infos_of H ns) (infos_of H ns) d top small good.2 low) none

  -- ---- the places of a half whose hidden cells are known

  pub record IsReady (p : Place) : Type 0 where
    pub well : IsWellFormed H p.tree
    pub depth : p.depth ≤ 3
    pub low : mask_of H p.tree < 2 ^ (p.depth + 1)
    pub none : first_of (foreign_at H known) (places H p.tree p.depth) ≡ None

  rest_if : (hidden : Bool) (ps : List Place) (q : Place) (P : Type 0) → Contains (if hidden then [] else ps) q → (hidden ≡ false → Contains ps q → P) → P
  rest_if true ps q P h f = absurd (Contains-nil q h)
  rest_if false ps q P h f = f refl h

  none_if : (hidden : Bool) (o : Option Hash256) (ps : List Place) → hidden ≡ false → option_or (if hidden then o else None) (first_of (foreign_at H known) (if hidden then [] else ps)) ≡ None → first_of (foreign_at H known) ps ≡ None
  none_if true o ps e none = absurd (true≢false e)
  none_if false o ps e none = none

  mutual
    pub all-ready : (n : Tree) (d : ℕ) (q : Place) → IsReady (record { tree = n; depth = d }) → Contains (places H n d) q → IsReady q
    all-ready (cell exotic bits ns) d q ready in' =
        let n = cell exotic bits ns in
        let shown = face_of H n in
        let kd = kid_level shown d in
        let small : All (λ k. k.mask ≤ 7) (infos_of H ns) = λ k x in'. (IsSteady-infos_of H ns ready.well.3 k x in').small in
        ⊎_elim
        (λ same. subst IsReady same ready)
        (λ later.
        rest_if (is_hidden d shown) (places_of_all H ns kd) q (IsReady q) later
        (λ e rest.
        all-ready_of_all ns kd q (level_below-low (is_merkle (kind_of_face shown)) d ready.depth) ready.well.3 (kids-low exotic bits (infos_of H ns) (infos_of H ns) d ready.depth small ready.well.2 ready.low)
        (none_if (is_hidden d shown) (some_unless (is_some (known_for known (info_of H n) d)) (hash_at H n d)) (places_of_all H ns kd) e ready.none) rest))
        (Contains-cases (record { tree = n; depth = d }) (if is_hidden d shown then [] else places_of_all H ns kd) q in')

    all-ready_of_all : (ns : Trees) (d : ℕ) (q : Place) → d ≤ 3 → AreWellFormed H ns → All (λ k. k.mask < 2 ^ (d + 1)) (infos_of H ns) → first_of (foreign_at H known) (places_of_all H ns d) ≡ None → Contains (places_of_all H ns d) q → IsReady q
    all-ready_of_all no_trees d q top good low none in' = absurd (Contains-nil q in')
    all-ready_of_all (tree_and n ns) d q top good low none in' =
        let both = or_parts (first_of (foreign_at H known) (places H n d)) (first_of (foreign_at H known) (places_of_all H ns d)) (sym (first_of-append (foreign_at H known) (places H n d) (places_of_all H ns d)) ∙ none) in
        ⊎_elim
        (λ here.
        all-ready n d q
        (record { well = good.0; depth = top; low = All-head (λ k. k.mask < 2 ^ (d + 1)) (info_of H n) (infos_of H ns) low; none = both.0 }) here)
        (λ later. all-ready_of_all ns d q top good.1 (All-tail (λ k. k.mask < 2 ^ (d + 1)) (info_of H n) (infos_of H ns) low) both.1 later)
        (Contains-append_cases (places H n d) (places_of_all H ns d) q in')

  -- the face of a visible cell is good
  pub face-good : (n : Tree) (d : ℕ) → IsReady (record { tree = n; depth = d }) → is_hidden d (face_of H n) ≡ false → IsGoodGraft (grafted_face H known n d)
  face-good (cell exotic bits ns) d ready shown =
      let n = cell exotic bits ns in
      let kd = kid_level (face_of H n) d in
      let below = none_if (is_hidden d (face_of H n)) (some_unless (is_some (known_for known (info_of H n) d)) (hash_at H n d)) (places_of_all H ns kd) shown ready.none in
      visible-good exotic bits ns (grafted_infos H known ns kd) d ready.depth ready.well ready.low shown (kids-are exotic bits ns d ready.depth ready.well ready.low below)

  -- what it shows is that of its face
  pub info-visible : (n : Tree) (d : ℕ) → is_hidden d (face_of H n) ≡ false → grafted_info H known n d ≡ info_of_face H (grafted_face H known n d)
  info-visible (cell exotic bits ns) d shown =
      let n = cell exotic bits ns in
      ap (λ b. if b then unwrap_or (known_for known (info_of H n) d) (info_of H no_tree) else info_of_face H (record { exotic = exotic; bits = bits; kids = grafted_infos H known ns (kid_level (face_of H n) d) })) shown

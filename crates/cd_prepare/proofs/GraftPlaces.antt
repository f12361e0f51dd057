-- Laws of the places of a new half: the kids of a grafted face are what the grafts of its places show, and each place
-- but the first is below a visible one.
use Rattle.std.proofs.Common.{◌≡◌, ℕ, Bool, true, false, true≢false, List, [], Contains, refl, sym, subst, inl, inr, ⊎_elim, ◌⊎◌}
use Rattle.std.specs.Prelude.{if◌then◌else◌}
use Rattle.std.proofs.lemmas.List.Elements.{Contains-append_cases, Contains-append_left, Contains-append_right}
use Rattle.cd_base.specs.declared.hash.Hash256.{Hash256}
use Rattle.cd_cell.specs.declared.info.ChildInfo.{ChildInfo}
use Rattle.cd_cell.specs.FaceView.{FaceView}
use Rattle.cd_cell.specs.Levels.{kid_level}
use Rattle.cd_cell.specs.Tree.{Tree, cell, Trees, no_trees, tree_and, face_of}
use Rattle.cd_cell.specs.Updates.{is_hidden}
use Rattle.cd_cell.proofs.Subtrees.{Contains-first, Contains-later, Contains-cases, Contains-nil}
use Rattle.cd_cell.specs.Places.{Place, places, places_of_all}
use Rattle.cd_cell.proofs.OwnCells.{place, place-itself}
use Rattle.cd_update.specs.Grafts.{grafted_info, grafted_infos, grafted_face}

module _ (H : List ℕ → Hash256) (known : List ChildInfo) where
  abbrev pub is_visible : Place → Type 0
  is_visible p = is_hidden p.depth (face_of H p.tree) ≡ false

  abbrev pub info_at : Place → ChildInfo
  info_at p = grafted_info H known p.tree p.depth

  abbrev pub face_at : Place → FaceView
  face_at p = grafted_face H known p.tree p.depth

  open-if : (hidden : Bool) (ps : List Place) (q : Place) → Contains (if hidden then [] else ps) q → (hidden ≡ false) × Contains ps q
  open-if true ps q h = absurd (Contains-nil q h)
  open-if false ps q h = (refl, h)

  into-if : (hidden : Bool) (ps : List Place) (q : Place) → hidden ≡ false → Contains ps q → Contains (if hidden then [] else ps) q
  into-if true ps q e h = absurd (true≢false e)
  into-if false ps q e h = h

  -- what is shown in a list of grafts is shown in a place
  infos-place : (ns : Trees) (d : ℕ) (k : ChildInfo) → Contains (grafted_infos H known ns d) k → (q : Place) × Contains (places_of_all H ns d) q × (info_at q ≡ k)
  infos-place no_trees d k h = absurd (Contains-nil k h)
  infos-place (tree_and n ns) d k h =
      ⊎_elim
      (λ same. (place n d, Contains-append_left (places H n d) (places_of_all H ns d) (place n d) (place-itself H n d), same))
      (λ later.
      let found = infos-place ns d k later in
      (found.0, Contains-append_right (places H n d) (places_of_all H ns d) found.0 found.1, found.2))
      (Contains-cases (grafted_info H known n d) (grafted_infos H known ns d) k h)

  mutual
    -- a kid of the face of a visible place is shown in a place
    pub kid-place : (n : Tree) (d : ℕ) (p : Place) (k : ChildInfo) → Contains (places H n d) p → is_visible p → Contains (face_at p).kids k → (q : Place) × Contains (places H n d) q × (info_at q ≡ k)
    kid-place (cell exotic bits ns) d p k in' visible kid =
        let n = cell exotic bits ns in
        let hidden = is_hidden d (face_of H n) in
        let rest = places_of_all H ns (kid_level (face_of H n) d) in
        ⊎_elim
        (λ same.
        let shown : hidden ≡ false = subst is_visible (sym same) visible in
        let kids : Contains (face_at (place n d)).kids k = subst (λ x. Contains (face_at x).kids k) (sym same) kid in
        let found = infos-place ns (kid_level (face_of H n) d) k kids in
        (found.0, Contains-later (place n d) (if hidden then [] else rest) found.0 (into-if hidden rest found.0 shown found.1), found.2))
        (λ later.
        let inside = open-if hidden rest p later in
        let found = kid-place_of_all ns (kid_level (face_of H n) d) p k inside.1 visible kid in
        (found.0, Contains-later (place n d) (if hidden then [] else rest) found.0 (into-if hidden rest found.0 inside.0 found.1), found.2))
        (Contains-cases (place n d) (if hidden then [] else rest) p in')

    kid-place_of_all : (ns : Trees) (d : ℕ) (p : Place) (k : ChildInfo) → Contains (places_of_all H ns d) p → is_visible p → Contains (face_at p).kids k → (q : Place) × Contains (places_of_all H ns d) q × (info_at q ≡ k)
    kid-place_of_all no_trees d p k in' visible kid = absurd (Contains-nil p in')
    kid-place_of_all (tree_and n ns) d p k in' visible kid =
        ⊎_elim
        (λ here. let found = kid-place n d p k here visible kid in (found.0, Contains-append_left (places H n d) (places_of_all H ns d) found.0 found.1, found.2))
        (λ later.
        let found = kid-place_of_all ns d p k later visible kid in
        (found.0, Contains-append_right (places H n d) (places_of_all H ns d) found.0 found.1, found.2))
        (Contains-append_cases (places H n d) (places_of_all H ns d) p in')

  -- a visible place of which this one is a child
  abbrev pub HasParent : List Place → Place → Type 0
  HasParent ps q = (p : Place) × Contains ps p × is_visible p × Contains (face_at p).kids (info_at q)

  mutual
    pub place-parent : (n : Tree) (d : ℕ) (q : Place) → Contains (places H n d) q → (place n d ≡ q) ⊎ HasParent (places H n d) q
    place-parent (cell exotic bits ns) d q in' =
        let n = cell exotic bits ns in
        let hidden = is_hidden d (face_of H n) in
        let rest = places_of_all H ns (kid_level (face_of H n) d) in
        ⊎_elim
        inl
        (λ later.
        let inside = open-if hidden rest q later in
        inr
        (⊎_elim {C = HasParent (places H (cell exotic bits ns) d) q}
        (λ child. (place n d, place-itself H n d, inside.0, child))
        (λ parent. (parent.0, Contains-later (place n d) (if hidden then [] else rest) parent.0 (into-if hidden rest parent.0 inside.0 parent.1), parent.2, parent.3))
        (place-parent_of_all ns (kid_level (face_of H n) d) q inside.1)))
        (Contains-cases (place n d) (if hidden then [] else rest) q in')

    place-parent_of_all : (ns : Trees) (d : ℕ) (q : Place) → Contains (places_of_all H ns d) q → Contains (grafted_infos H known ns d) (info_at q) ⊎ HasParent (places_of_all H ns d) q
    place-parent_of_all no_trees d q in' = absurd (Contains-nil q in')
    place-parent_of_all (tree_and n ns) d q in' =
        ⊎_elim
        (λ here.
        ⊎_elim
        (λ same. inl (subst (λ x. Contains (grafted_infos H known (tree_and n ns) d) (info_at x)) same (Contains-first (grafted_info H known n d) (grafted_infos H known ns d))))
        (λ parent. inr (parent.0, Contains-append_left (places H n d) (places_of_all H ns d) parent.0 parent.1, parent.2, parent.3))
        (place-parent n d q here))
        (λ later.
        ⊎_elim
        (λ child. inl (Contains-later (grafted_info H known n d) (grafted_infos H known ns d) (info_at q) child))
        (λ parent. inr (parent.0, Contains-append_right (places H n d) (places_of_all H ns d) parent.0 parent.1, parent.2, parent.3))
        (place-parent_of_all ns d q later))
        (Contains-append_cases (places H n d) (places_of_all H ns d) q in')

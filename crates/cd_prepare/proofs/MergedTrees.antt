-- The listed cells of an update over the joined tree of two states stand for the applied tree.
use Rattle.std.proofs.Common.{◌≡◌, ℕ, suc, ◌<◌, List, [], ◌∷◌, ◌++◌, get_or, drop, map, flat_map, Contains, Less, true, Option, None, Ok, refl, ap, sym, ◌∙◌, subst, inl, inr, ⊎_elim, ◌⊎◌}
use Rattle.std.proofs.lemmas.Bool.{and_from}
use Rattle.std.proofs.lemmas.List.{get_or_default}
use Rattle.std.proofs.lemmas.List.Elements.{Contains-get_or, Contains-append_cases, Contains-append_left, Contains-append_right}
use Rattle.cd_base.specs.declared.hash.Hash256.{Hash256}
use Rattle.cd_cell.specs.Infos.{rep_of_info}
use Rattle.cd_cell.specs.Tree.{Tree, children, subtrees, info_of, face_of, mask_of, depth_at, IsWellFormed}
use Rattle.cd_cell.specs.Unfolding.{no_tree}
use Rattle.cd_cell.specs.Export.{export_cmp, sorted_distinct, AreDistinct, AreClashFree}
use Rattle.cd_cell.specs.Joined.{joined_tree}
use Rattle.cd_cell.specs.Listings.{new_cell_of, old_cells, tree_of}
use Rattle.cd_cell.specs.Updates.{is_hidden, stands_for, found_in, known_of, half_of, first_foreign, grafted, refusal_of, applied, new_cells}
use Rattle.cd_cell.proofs.Subtrees.{Contains-first, Contains-cases, subtree-itself, subtrees-cases, well_formed-subtree, flat_map-subtree, flat_map-listed, same_subtrees}
use Rattle.cd_cell.proofs.Heights.{height_of-child}
use Rattle.cd_cell.proofs.Distinct.{AreDistinct-sorted_distinct, Contains-distinct, before-rising}
use Rattle.cd_cell.proofs.ExportOrder.{export_cmp-total, export_cmp-higher, export_cmp-ties}
use Rattle.cd_cell.proofs.JoinedTrees.{IsWellFormed-joined_tree}
use Rattle.cd_cell.proofs.ListTests.{Contains-list_any}
use Rattle.cd_cell.proofs.Showing.{subtree-known}
use Rattle.cd_cell.proofs.AppliedUpdates.{find-Some, ok-from, no_refusal, IsNew-applied}
use Rattle.cd_cell.proofs.ListedTrees.{tree_of-listed, AreBehind, Contains-dropped}
use Rattle.cd_update.specs.Hides.{hides_at}
use Rattle.cd_cell.specs.Places.{places}
use Rattle.cd_update.proofs.EachOnceLaws.{Contains-flat_map_cases}
use Rattle.cd_update.proofs.HalfVisits.{IsUpdateTree}
use Rattle.cd_prepare.specs.Merged.{listed_if, is_given, merged_cells}
use Rattle.cd_cell.proofs.OwnCells.{IsGiven, own-root, own-child, own-subtree, graft-cell}
use Rattle.cd_prepare.proofs.MergedFaces.{with-cases}

-- two states of mask 0 that join to no more than the greatest depth
pub record AreStates (H : List ℕ → Hash256) (a b : Tree) : Type 0 where
  pub well_left : IsWellFormed H a
  pub well_right : IsWellFormed H b
  pub plain_left : mask_of H a ≡ 0
  pub plain_right : mask_of H b ≡ 0
  pub low_left : depth_at H a 0 < 1024
  pub low_right : depth_at H b 0 < 1024

module _ {H : List ℕ → Hash256} {u : Tree} (update : IsUpdateTree H u) (a b : Tree) (states : AreStates H a b) (g : Tree) (is_applied : applied H u (joined_tree a b) ≡ Ok g) where
  abbrev t : Tree
  t = joined_tree a b

  abbrev olds : List Tree
  olds = a ∷ b ∷ []

  abbrev search : Tree → ℕ → Option Tree
  search = found_in H (known_of H u (joined_tree a b))

  abbrev half : Tree
  half = half_of u 1

  abbrev own : List Tree
  own = new_cells H u (joined_tree a b)

  abbrev merged : List Tree
  merged = merged_cells H u a b

  abbrev listed : List Tree
  listed = sorted_distinct (export_cmp H) (merged_cells H u a b)

  well_joined : IsWellFormed H (joined_tree a b)
  well_joined = IsWellFormed-joined_tree H a b states.well_left states.well_right states.plain_left states.plain_right states.low_left states.low_right

  graft : grafted H search (half_of u 1) 0 ≡ g
  graft = (ok-from (refusal_of H u (joined_tree a b)) (grafted H search (half_of u 1) 0) g is_applied).1

  none : first_foreign H search (half_of u 1) 0 ≡ None
  none = (no_refusal H u (joined_tree a b) update.well well_joined (ok-from (refusal_of H u (joined_tree a b)) (grafted H search (half_of u 1) 0) g is_applied).0).1

  -- ---- what was given

  -- what was given for a hidden cell is the joined cell or a cell of a state
  given-cell : (c : Tree) → IsGiven H search (places H half 0) c → ((is_given H u a b ≡ true) × (joined_tree a b ≡ c)) ⊎ Contains (old_cells olds) c
  given-cell c given =
      let p = given.0 in
      let n = info_of H p.tree in
      let found = find-Some (λ k. stands_for n p.depth (info_of H k)) (known_of H u (joined_tree a b)) c given.3 in
      ⊎_elim
      (λ same.
      inl (
        Contains-list_any (hides_at H (info_of H (joined_tree a b))) (places H half 0) p given.1
            (and_from (is_hidden p.depth (face_of H p.tree)) (stands_for n p.depth (info_of H (joined_tree a b))) given.2
            (ap (λ k. stands_for n p.depth (info_of H k)) same ∙ found.0)),
        same,
      ))
      inr
      (Contains-cases (joined_tree a b) (old_cells olds) c (subtree-known H (half_of u 0) (joined_tree a b) 0 c found.1))

  listed-given : (c : Tree) → (is_given H u a b ≡ true) × (joined_tree a b ≡ c) → Contains merged c
  listed-given c given =
      Contains-append_right own (listed_if (is_given H u a b) (joined_tree a b)) c
      (subst (λ e. Contains (listed_if e (joined_tree a b)) c) (sym given.0) (subst (Contains (joined_tree a b ∷ [])) given.1 (Contains-first (joined_tree a b) [])))

  given-known : (c : Tree) → IsGiven H search (places H half 0) c → Contains merged c ⊎ Contains (old_cells olds) c
  given-known c given = ⊎_elim (λ joined. inl (listed-given c joined)) inr (given-cell c given)

  own-merged : (c : Tree) → Contains own c → Contains merged c
  own-merged c h = Contains-append_left own (listed_if (is_given H u a b) (joined_tree a b)) c h

  well-merged : (c : Tree) → Contains merged c → IsWellFormed H c
  well-merged c h =
      ⊎_elim
      (λ in-own.
      well_formed-subtree H g c (IsNew-applied H u (joined_tree a b) update.well well_joined update.kind update.plain g is_applied).well
      (subst (λ x. Contains (subtrees x) c) graft (own-subtree H search half 0 c in-own)))
      (λ joined. subst (IsWellFormed H) joined.1 well_joined)
      (with-cases own (is_given H u a b) (joined_tree a b) c h)

  -- a child of a listed cell is listed, or it is a cell of a state
  child-known : (p c : Tree) → Contains merged p → Contains (children p) c → Contains merged c ⊎ Contains (old_cells olds) c
  child-known p c h child =
      ⊎_elim
      (λ in-own. ⊎_elim (λ own_child. inl (own-merged c own_child)) (given-known c) (own-child H search half 0 p c none in-own child))
      (λ joined.
      let state : Contains olds c = subst (λ x. Contains (children x) c) (sym joined.1) child in
      inr (flat_map-listed olds c c state (subtree-itself c)))
      (with-cases own (is_given H u a b) (joined_tree a b) p h)

  root-known : Contains merged g ⊎ Contains (old_cells olds) g
  root-known =
      subst (λ x. Contains merged x ⊎ Contains (old_cells olds) x) graft
      (⊎_elim (λ in-own. inl (own-merged (grafted H search half 0) in-own)) (given-known (grafted H search half 0)) (own-root H search half 0 none))

  -- a cell below one that was given
  below-given : (c s : Tree) → IsGiven H search (places H half 0) c → Contains (subtrees c) s → Contains merged s ⊎ Contains (old_cells olds) s
  below-given c s given below =
      ⊎_elim
      (λ joined.
      ⊎_elim
      (λ same. inl (subst (Contains merged) (joined.1 ∙ same) (listed-given (joined_tree a b) (joined.0, refl))))
      (λ state. inr (flat_map-listed olds state.0 s (subst (λ x. Contains (children x) state.0) (sym joined.1) state.1) state.2))
      (subtrees-cases c s below))
      (λ old. inr (flat_map-subtree olds c s old below))
      (given-cell c given)

  -- each cell of the applied tree is listed, or it is a cell of a state
  pub merged-cell : (s : Tree) → Contains (subtrees g) s → Contains (merged_cells H u a b) s ⊎ Contains (old_cells olds) s
  merged-cell s h =
      ⊎_elim
      (λ in-own. inl (own-merged s in-own))
      (λ below. below-given below.0 s below.1 below.2)
      (graft-cell H search half 0 s none (subst (λ x. Contains (subtrees x) s) (sym graft) h))

  -- ---- where the states and the listed cells together are free of clashes

  distinct : AreDistinct (export_cmp H) merged listed
  distinct = AreDistinct-sorted_distinct (export_cmp H) (export_cmp-total H) merged

  module _ (clear : AreClashFree H (a ∷ b ∷ merged_cells H u a b)) where
    pooled-old : (c : Tree) → Contains (old_cells olds) c → Contains (flat_map subtrees (a ∷ b ∷ merged)) c
    pooled-old c h =
        let state = Contains-flat_map_cases subtrees olds c h in
        flat_map-listed (a ∷ b ∷ merged) state.0 c (Contains-append_left olds merged state.0 state.1) state.2

    pooled-new : (c : Tree) → Contains merged c → Contains (flat_map subtrees (a ∷ b ∷ merged)) c
    pooled-new c h = flat_map-listed (a ∷ b ∷ merged) c c (Contains-append_right olds merged c h) (subtree-itself c)

    merged-listed : (c : Tree) → Contains merged c → Contains listed c
    merged-listed c h =
        Contains-distinct (export_cmp H) (export_cmp-total H) merged listed
        (λ x y in-x in-y tie. same_subtrees H (a ∷ b ∷ merged) clear x y (pooled-new x in-x) (pooled-new y in-y) (export_cmp-ties H x y tie))
        distinct c h

    behind : AreBehind H (old_cells olds) listed
    behind k c in' child =
        let parent = get_or listed k no_tree in
        let in-merged = distinct.within parent (Contains-get_or listed k no_tree in') in
        ⊎_elim
        (λ new_child.
        let place = merged-listed c new_child in
        let j = place.0 in
        let at : get_or listed j no_tree ≡ c = get_or_default listed j no_tree c place.1 ∙ place.2 in
        let lower = height_of-child H parent c (well-merged parent in-merged) child in
        let less = subst (λ x. export_cmp H parent x ≡ Less) (sym at) (export_cmp-higher H parent c lower) in
        let later = before-rising (export_cmp H) (export_cmp-total H) listed no_tree distinct.ordered k j in' place.1 less in
        Contains-append_left (drop (suc k) listed) (old_cells olds) c (subst (Contains (drop (suc k) listed)) at (Contains-dropped listed (suc k) j no_tree later place.1)))
        (λ old_child. Contains-append_right (drop (suc k) listed) (old_cells olds) c old_child)
        (child-known parent c in-merged child)

    pooled : (c : Tree) → Contains (listed ++ old_cells olds) c → Contains (flat_map subtrees (a ∷ b ∷ merged)) c
    pooled c h = ⊎_elim (λ new_one. pooled-new c (distinct.within c new_one)) (pooled-old c) (Contains-append_cases listed (old_cells olds) c h)

    pub tree_of-merged : tree_of H (info_of H g) (map (new_cell_of H) (sorted_distinct (export_cmp H) (merged_cells H u a b))) (a ∷ b ∷ []) ≡ g
    tree_of-merged =
        tree_of-listed H g listed olds
        (λ x y in-x in-y shows. same_subtrees H (a ∷ b ∷ merged) clear x y (pooled x in-x) (pooled y in-y) (ap rep_of_info shows))
        behind
        (⊎_elim
        (λ new_root. Contains-append_left listed (old_cells olds) g (merged-listed g new_root))
        (λ old_root. Contains-append_right listed (old_cells olds) g old_root)
        root-known)

-- Laws of an update's new cells: listed in the order of an export they are valid over the old tree, and stand for the
-- applied tree.
use Rattle.std.proofs.Common.{◌≡◌, ℕ, suc, List, [], ◌∷◌, ◌++◌, get_or, drop, map, flat_map, Contains, Less, Option, Some, None, Ok, ap, sym, ◌∙◌, subst, inl, inr, ⊎_elim, ◌⊎◌}
use Rattle.std.proofs.lemmas.List.{get_or_default, append-nil}
use Rattle.std.proofs.lemmas.List.Elements.{Contains-get_or, Contains-append_cases, Contains-append_left, Contains-append_right}
use Rattle.cd_base.specs.declared.hash.Hash256.{Hash256}
use Rattle.cd_cell.specs.declared.kind.Kind.TheVariants.{Update}
use Rattle.cd_cell.specs.Infos.{rep_of_info}
use Rattle.cd_cell.specs.Tree.{Tree, subtrees, info_of, kind_of, mask_of, rep_of, IsWellFormed}
use Rattle.cd_cell.specs.Unfolding.{no_tree}
use Rattle.cd_cell.specs.Export.{export_cmp, sorted_distinct, AreDistinct, AreClashFree}
use Rattle.cd_cell.specs.Listings.{new_cell_of, IsValid, Fits, tree_of}
use Rattle.cd_cell.specs.Updates.{found_in, known_of, half_of, first_foreign, grafted, refusal_of, applied, new_cells}
use Rattle.cd_cell.specs.Places.{places}
use Rattle.cd_cell.proofs.Subtrees.{subtree-itself, well_formed-subtree, subtrees-subtree, flat_map-listed, same_subtrees}
use Rattle.cd_cell.proofs.Heights.{height_of-child}
use Rattle.cd_cell.proofs.Distinct.{AreDistinct-sorted_distinct, Contains-distinct, before-rising}
use Rattle.cd_cell.proofs.ExportOrder.{export_cmp-total, export_cmp-higher, export_cmp-ties}
use Rattle.cd_cell.proofs.Showing.{subtree-known}
use Rattle.cd_cell.proofs.AppliedUpdates.{find-Some, ok-from, no_refusal, IsNew, IsNew-applied}
use Rattle.cd_cell.proofs.OwnCells.{IsGiven, own-root, own-child, own-subtree, own-parent, graft-cell}
use Rattle.cd_cell.proofs.ListedTrees.{IsValid-listed, Fits-listed, tree_of-listed, OneByInfo, AreBehind, Contains-dropped}

-- ---- the prepared value of an update

module _ (H : List ℕ → Hash256) (u t : Tree) (good_u : IsWellFormed H u) (good_t : IsWellFormed H t) (is_update : kind_of H u ≡ Some Update) (plain : mask_of H u ≡ 0) (g : Tree) (is_applied : applied H u t ≡ Ok g) where
  abbrev search : Tree → ℕ → Option Tree
  search = found_in H (known_of H u t)

  abbrev own : List Tree
  own = new_cells H u t

  abbrev listed : List Tree
  listed = sorted_distinct (export_cmp H) own

  new : IsNew H u t good_u good_t g
  new = IsNew-applied H u t good_u good_t is_update plain g is_applied

  graft : grafted H search (half_of u 1) 0 ≡ g
  graft = (ok-from (refusal_of H u t) (grafted H search (half_of u 1) 0) g is_applied).1

  none : first_foreign H search (half_of u 1) 0 ≡ None
  none = (no_refusal H u t good_u good_t (ok-from (refusal_of H u t) (grafted H search (half_of u 1) 0) g is_applied).0).1

  -- what was found is a cell of the old tree
  found-old : (c : Tree) → IsGiven H search (places H (half_of u 1) 0) c → Contains (subtrees t) c
  found-old c found = subtree-known H (half_of u 0) t 0 c (find-Some _ (known_of H u t) c found.3).1

  -- each cell of the applied tree is a new one, or one of the old tree
  pub applied-cell : (s : Tree) → Contains (subtrees g) s → Contains (new_cells H u t) s ⊎ Contains (subtrees t) s
  applied-cell s h =
      ⊎_elim inl
      (λ below. inr (subtrees-subtree t below.0 s (found-old below.0 below.1) below.2))
      (graft-cell H search (half_of u 1) 0 s none (subst (λ x. Contains (subtrees x) s) (sym graft) h))

  own-new : (c : Tree) → Contains own c → Contains (subtrees g) c
  own-new c h = subst (λ x. Contains (subtrees x) c) graft (own-subtree H search (half_of u 1) 0 c h)

  distinct : AreDistinct (export_cmp H) own listed
  distinct = AreDistinct-sorted_distinct (export_cmp H) (export_cmp-total H) own

  well-listed : (c : Tree) → Contains listed c → IsWellFormed H c
  well-listed c h = well_formed-subtree H g c new.well (own-new c (distinct.within c h))

  module _ (clear : AreClashFree H own) where
    pooled : (c : Tree) → Contains own c → Contains (flat_map subtrees own) c
    pooled c h = flat_map-listed own c c h (subtree-itself c)

    own_by_rep : (a b : Tree) → Contains own a → Contains own b → rep_of H a ≡ rep_of H b → a ≡ b
    own_by_rep a b in-a in-b rep = same_subtrees H own clear a b (pooled a in-a) (pooled b in-b) rep

    own-listed : (c : Tree) → Contains own c → Contains listed c
    own-listed c h =
        Contains-distinct (export_cmp H) (export_cmp-total H) own listed (λ a b in-a in-b tie. own_by_rep a b in-a in-b (export_cmp-ties H a b tie)) distinct c h

    -- the new cells make a valid list below the applied tree's root
    pub IsValid-new_cells : IsValid H (info_of H g) (map (new_cell_of H) (sorted_distinct (export_cmp H) (new_cells H u t)))
    IsValid-new_cells =
        IsValid-listed H g listed well-listed new.well new.plain distinct.ordered
        (λ a b in-a in-b rep. own_by_rep a b (distinct.within a in-a) (distinct.within b in-b) rep)
        (λ c h.
        ⊎_elim
        (λ same. inl (same ∙ graft))
        (λ parent. inr (parent.0, own-listed parent.0 parent.1, parent.2))
        (own-parent H search (half_of u 1) 0 c (distinct.within c h)))

    -- each child is listed behind its cell, or it is a cell of the old tree
    behind : AreBehind H (subtrees t) listed
    behind k c in' child =
        let parent = get_or listed k no_tree in
        let in-listed = Contains-get_or listed k no_tree in' in
        ⊎_elim
        (λ own_child.
        let place = own-listed c own_child in
        let j = place.0 in
        let at : get_or listed j no_tree ≡ c = get_or_default listed j no_tree c place.1 ∙ place.2 in
        let lower = height_of-child H parent c (well-listed parent in-listed) child in
        let less = subst (λ x. export_cmp H parent x ≡ Less) (sym at) (export_cmp-higher H parent c lower) in
        let later = before-rising (export_cmp H) (export_cmp-total H) listed no_tree distinct.ordered k j in' place.1 less in
        Contains-append_left (drop (suc k) listed) (subtrees t) c (subst (Contains (drop (suc k) listed)) at (Contains-dropped listed (suc k) j no_tree later place.1)))
        (λ found. Contains-append_right (drop (suc k) listed) (subtrees t) c (found-old c found))
        (own-child H search (half_of u 1) 0 parent c none (distinct.within parent in-listed) child)

    top : Contains (listed ++ subtrees t) g
    top =
        ⊎_elim
        (λ own_root. Contains-append_left listed (subtrees t) g (own-listed g (subst (Contains own) graft own_root)))
        (λ found. Contains-append_right listed (subtrees t) g (found-old g (subst (IsGiven H search (places H (half_of u 1) 0)) graft found)))
        (own-root H search (half_of u 1) 0 none)

    -- they fit over the old tree
    pub Fits-new_cells : Fits H (info_of H g) (map (new_cell_of H) (sorted_distinct (export_cmp H) (new_cells H u t))) (t ∷ [])
    Fits-new_cells =
        Fits-listed H g listed (t ∷ [])
        (subst (λ xs. AreBehind H xs listed) (sym (append-nil (subtrees t))) behind)
        (subst (λ xs. Contains (listed ++ xs) g) (sym (append-nil (subtrees t))) top)

  -- and where the old tree and the new cells together are free of clashes, they stand for the applied tree
  module _ (clear : AreClashFree H (t ∷ own)) where
    clear_own : AreClashFree H own
    clear_own a b in-a in-b rep = clear a b (Contains-append_right (subtrees t) (flat_map subtrees own) a in-a) (Contains-append_right (subtrees t) (flat_map subtrees own) b in-b) rep

    in_pool : (c : Tree) → Contains (listed ++ subtrees t) c → Contains (flat_map subtrees (t ∷ own)) c
    in_pool c h =
        ⊎_elim
        (λ new_one. Contains-append_right (subtrees t) (flat_map subtrees own) c (flat_map-listed own c c (distinct.within c new_one) (subtree-itself c)))
        (λ old_one. Contains-append_left (subtrees t) (flat_map subtrees own) c old_one)
        (Contains-append_cases listed (subtrees t) c h)

    pub tree_of-new_cells : tree_of H (info_of H g) (map (new_cell_of H) (sorted_distinct (export_cmp H) (new_cells H u t))) (t ∷ []) ≡ g
    tree_of-new_cells =
        let none = sym (append-nil (subtrees t)) in
        let one : OneByInfo H (listed ++ subtrees t) =
        λ a b in-a in-b shows. same_subtrees H (t ∷ own) clear a b (in_pool a in-a) (in_pool b in-b) (ap rep_of_info shows)
        in
        tree_of-listed H g listed (t ∷ [])
        (subst (λ xs. OneByInfo H (listed ++ xs)) none one)
        (subst (λ xs. AreBehind H xs listed) none (behind clear_own))
        (subst (λ xs. Contains (listed ++ xs) g) none (top clear_own))

-- Own cells of a graft: each child of one is an own cell or was given for a hidden cell of the half, and so is the root;
-- each other cell of the graft is below one that was given.
use Rattle.std.proofs.Common.{◌≡◌, ℕ, List, [], ◌∷◌, Contains, Bool, true, false, Option, Some, None, refl, ap, sym, ◌∙◌, subst, inl, inr, ⊎_elim, ◌⊎◌}
use Rattle.std.specs.Prelude.{if◌then◌else◌}
use Rattle.std.specs.Option.{unwrap_or}
use Rattle.std.proofs.lemmas.List.Elements.{Contains-append_cases, Contains-append_left, Contains-append_right}
use Rattle.cd_base.specs.declared.hash.Hash256.{Hash256}
use Rattle.cd_cell.specs.Levels.{kid_level}
use Rattle.cd_cell.specs.Tree.{Tree, cell, Trees, no_trees, tree_and, list_of, children, subtrees, subtrees_of_all, face_of, hash_at}
use Rattle.cd_cell.specs.Unfolding.{no_tree}
use Rattle.cd_cell.specs.Updates.{is_hidden, missing, first_foreign, foreign_of_all, grafted, grafted_all, own_cells, own_of_all}
use Rattle.cd_cell.proofs.Subtrees.{Contains-first, Contains-later, Contains-cases, Contains-nil, subtree-itself}
use Rattle.cd_cell.proofs.Showing.{no_option}
use Rattle.cd_cell.specs.Places.{Place, places, places_of_all}

abbrev pub place : Tree → ℕ → Place
place n d = record { tree = n; depth = d }

pub place-itself : (H : List ℕ → Hash256) (n : Tree) (d : ℕ) → Contains (places H n d) (place n d)
place-itself H (cell exotic bits ns) d =
    Contains-first (place (cell exotic bits ns) d) (if is_hidden d (face_of H (cell exotic bits ns)) then [] else places_of_all H ns (kid_level (face_of H (cell exotic bits ns)) d))

module _ (H : List ℕ → Hash256) (search : Tree → ℕ → Option Tree) where
  -- a tree that was found for a hidden cell in one of these places
  abbrev pub IsGiven : List Place → Tree → Type 0
  IsGiven ps c = (p : Place) × Contains ps p × (is_hidden p.depth (face_of H p.tree) ≡ true) × (search p.tree p.depth ≡ Some c)

  into : (ps qs : List Place) (c : Tree) → ((p : Place) → Contains ps p → Contains qs p) → IsGiven ps c → IsGiven qs c
  into ps qs c within given = (given.0, within given.0 given.1, given.2, given.3)

  found_tree : (o : Option Tree) (hash : Hash256) → missing o hash ≡ None → o ≡ Some (unwrap_or o no_tree)
  found_tree None hash e = absurd (cc e)
  found_tree (Some t) hash e = refl

  root-step : (n : Tree) (d : ℕ) (hidden : Bool) (whole : Tree) (rest : List Tree) (later : Option Hash256) → is_hidden d (face_of H n) ≡ hidden → (if hidden then missing (search n d) (hash_at H n d) else later) ≡ None → Contains (if hidden then [] else whole ∷ rest) (if hidden then unwrap_or (search n d) no_tree else whole) ⊎ IsGiven (places H n d) (if hidden then unwrap_or (search n d) no_tree else whole)
  root-step n d true whole rest later is e = inr (place n d, place-itself H n d, is, found_tree (search n d) (hash_at H n d) e)
  root-step n d false whole rest later is e = inl (Contains-first whole rest)

  pub own-root : (n : Tree) (d : ℕ) → first_foreign H search n d ≡ None → Contains (own_cells H search n d) (grafted H search n d) ⊎ IsGiven (places H n d) (grafted H search n d)
  own-root (cell exotic bits ns) d none =
      let shown = face_of H (cell exotic bits ns) in
      let kd = kid_level shown d in
      root-step (cell exotic bits ns) d (is_hidden d shown) (cell exotic bits (grafted_all H search ns kd)) (own_of_all H search ns kd) (foreign_of_all H search ns kd) refl none

  own-roots : (ns : Trees) (d : ℕ) (c : Tree) → foreign_of_all H search ns d ≡ None → Contains (list_of (grafted_all H search ns d)) c → Contains (own_of_all H search ns d) c ⊎ IsGiven (places_of_all H ns d) c
  own-roots no_trees d c none h = absurd (Contains-nil c h)
  own-roots (tree_and n ns) d c none h =
      let both = no_option (first_foreign H search n d) (foreign_of_all H search ns d) none in
      ⊎_elim
      (λ same.
      ⊎_elim
      (λ own. inl (subst (Contains (own_of_all H search (tree_and n ns) d)) same (Contains-append_left (own_cells H search n d) (own_of_all H search ns d) (grafted H search n d) own)))
      (λ given. inr (into (places H n d) (places_of_all H (tree_and n ns) d) c (λ p in'. Contains-append_left (places H n d) (places_of_all H ns d) p in') (subst (IsGiven (places H n d)) same given)))
      (own-root n d both.0))
      (λ later.
      ⊎_elim
      (λ own. inl (Contains-append_right (own_cells H search n d) (own_of_all H search ns d) c own))
      (λ given. inr (into (places_of_all H ns d) (places_of_all H (tree_and n ns) d) c (λ p in'. Contains-append_right (places H n d) (places_of_all H ns d) p in') given))
      (own-roots ns d c both.1 later))
      (Contains-cases (grafted H search n d) (list_of (grafted_all H search ns d)) c h)

  own_if : (hidden : Bool) (whole : Tree) (rest : List Tree) (s : Tree) (P : Type 0) → Contains (if hidden then [] else whole ∷ rest) s → (hidden ≡ false → Contains (whole ∷ rest) s → P) → P
  own_if true whole rest s P h f = absurd (Contains-nil s h)
  own_if false whole rest s P h f = f refl h

  none_if : (hidden : Bool) (n : Tree) (d : ℕ) (later : Option Hash256) → hidden ≡ false → (if hidden then missing (search n d) (hash_at H n d) else later) ≡ None → later ≡ None
  none_if hidden n d later e none = ap (λ b. if b then missing (search n d) (hash_at H n d) else later) (sym e) ∙ none

  in_if : {A : Type 0} (hidden : Bool) (xs : List A) (x : A) → hidden ≡ false → Contains xs x → Contains (if hidden then [] else xs) x
  in_if hidden xs x e h = subst (λ b. Contains (if b then [] else xs) x) (sym e) h

  mutual
    -- a child of an own cell
    pub own-child : (n : Tree) (d : ℕ) (p c : Tree) → first_foreign H search n d ≡ None → Contains (own_cells H search n d) p → Contains (children p) c → Contains (own_cells H search n d) c ⊎ IsGiven (places H n d) c
    own-child (cell exotic bits ns) d p c none own child =
        let n = cell exotic bits ns in
        let shown = face_of H n in
        let hidden = is_hidden d shown in
        let kd = kid_level shown d in
        let whole = cell exotic bits (grafted_all H search ns kd) in
        let rest = own_of_all H search ns kd in
        let lower = places_of_all H ns kd in
        own_if hidden whole rest p (Contains (own_cells H search (cell exotic bits ns) d) c ⊎ IsGiven (places H (cell exotic bits ns) d) c) own
        (λ e h.
        let below = none_if hidden n d (foreign_of_all H search ns kd) e none in
        let up : Contains rest c ⊎ IsGiven lower c → Contains (own_cells H search n d) c ⊎ IsGiven (places H n d) c =
        λ found.
        ⊎_elim
        (λ in'. inl (in_if hidden (whole ∷ rest) c e (Contains-later whole rest c in')))
        (λ given. inr (into lower (places H n d) c (λ q in'. Contains-later (record { tree = n; depth = d }) (if hidden then [] else lower) q (in_if hidden lower q e in')) given))
        found
        in
        ⊎_elim
        (λ same. up (own-roots ns kd c below (subst (λ x. Contains (children x) c) (sym same) child)))
        (λ later. up (own-child_of_all ns kd p c below later child))
        (Contains-cases whole rest p h))

    own-child_of_all : (ns : Trees) (d : ℕ) (p c : Tree) → foreign_of_all H search ns d ≡ None → Contains (own_of_all H search ns d) p → Contains (children p) c → Contains (own_of_all H search ns d) c ⊎ IsGiven (places_of_all H ns d) c
    own-child_of_all no_trees d p c none own child = absurd (Contains-nil p own)
    own-child_of_all (tree_and n ns) d p c none own child =
        let both = no_option (first_foreign H search n d) (foreign_of_all H search ns d) none in
        ⊎_elim
        (λ here.
        ⊎_elim
        (λ in'. inl (Contains-append_left (own_cells H search n d) (own_of_all H search ns d) c in'))
        (λ given. inr (into (places H n d) (places_of_all H (tree_and n ns) d) c (λ q in'. Contains-append_left (places H n d) (places_of_all H ns d) q in') given))
        (own-child n d p c both.0 here child))
        (λ later.
        ⊎_elim
        (λ in'. inl (Contains-append_right (own_cells H search n d) (own_of_all H search ns d) c in'))
        (λ given. inr (into (places_of_all H ns d) (places_of_all H (tree_and n ns) d) c (λ q in'. Contains-append_right (places H n d) (places_of_all H ns d) q in') given))
        (own-child_of_all ns d p c both.1 later child))
        (Contains-append_cases (own_cells H search n d) (own_of_all H search ns d) p own)

  -- own cells are cells of the graft
  whole_if : (hidden : Bool) (found whole : Tree) (s : Tree) → hidden ≡ false → Contains (subtrees whole) s → Contains (subtrees (if hidden then found else whole)) s
  whole_if hidden found whole s e h = subst (λ b. Contains (subtrees (if b then found else whole)) s) (sym e) h

  mutual
    pub own-subtree : (n : Tree) (d : ℕ) (s : Tree) → Contains (own_cells H search n d) s → Contains (subtrees (grafted H search n d)) s
    own-subtree (cell exotic bits ns) d s own =
        let shown = face_of H (cell exotic bits ns) in
        let kd = kid_level shown d in
        let whole = cell exotic bits (grafted_all H search ns kd) in
        own_if (is_hidden d shown) whole (own_of_all H search ns kd) s (Contains (subtrees (grafted H search (cell exotic bits ns) d)) s) own
        (λ e h.
        whole_if (is_hidden d shown) (unwrap_or (search (cell exotic bits ns) d) no_tree) whole s e
        (⊎_elim
        (λ same. subst (Contains (subtrees whole)) same (subtree-itself whole))
        (λ later. Contains-later whole (subtrees_of_all (grafted_all H search ns kd)) s (own-subtree_of_all ns kd s later))
        (Contains-cases whole (own_of_all H search ns kd) s h)))

    own-subtree_of_all : (ns : Trees) (d : ℕ) (s : Tree) → Contains (own_of_all H search ns d) s → Contains (subtrees_of_all (grafted_all H search ns d)) s
    own-subtree_of_all no_trees d s own = absurd (Contains-nil s own)
    own-subtree_of_all (tree_and n ns) d s own =
        ⊎_elim
        (λ here. Contains-append_left (subtrees (grafted H search n d)) (subtrees_of_all (grafted_all H search ns d)) s (own-subtree n d s here))
        (λ later. Contains-append_right (subtrees (grafted H search n d)) (subtrees_of_all (grafted_all H search ns d)) s (own-subtree_of_all ns d s later))
        (Contains-append_cases (own_cells H search n d) (own_of_all H search ns d) s own)

  root_if : (hidden : Bool) (found whole c : Tree) → hidden ≡ false → whole ≡ c → c ≡ (if hidden then found else whole)
  root_if hidden found whole c e same = subst (λ b. c ≡ (if b then found else whole)) (sym e) (sym same)

  mutual
    -- each own cell but the root is a child of one
    pub own-parent : (n : Tree) (d : ℕ) (c : Tree) → Contains (own_cells H search n d) c → (c ≡ grafted H search n d) ⊎ ((p : Tree) × Contains (own_cells H search n d) p × Contains (children p) c)
    own-parent (cell exotic bits ns) d c own =
        let n = cell exotic bits ns in
        let shown = face_of H n in
        let kd = kid_level shown d in
        let whole = cell exotic bits (grafted_all H search ns kd) in
        let rest = own_of_all H search ns kd in
        own_if (is_hidden d shown) whole rest c _ own
        (λ e h.
        ⊎_elim
        (λ same. inl (root_if (is_hidden d shown) (unwrap_or (search n d) no_tree) whole c e same))
        (λ later.
        inr
        (⊎_elim
        (λ child. (whole, in_if (is_hidden d shown) (whole ∷ rest) whole e (Contains-first whole rest), child))
        (λ parent. (parent.0, in_if (is_hidden d shown) (whole ∷ rest) parent.0 e (Contains-later whole rest parent.0 parent.1), parent.2))
        (own-parent_of_all ns kd c later)))
        (Contains-cases whole rest c h))

    own-parent_of_all : (ns : Trees) (d : ℕ) (c : Tree) → Contains (own_of_all H search ns d) c → Contains (list_of (grafted_all H search ns d)) c ⊎ ((p : Tree) × Contains (own_of_all H search ns d) p × Contains (children p) c)
    own-parent_of_all no_trees d c own = absurd (Contains-nil c own)
    own-parent_of_all (tree_and n ns) d c own =
        let root = grafted H search n d in
        let roots = list_of (grafted_all H search ns d) in
        ⊎_elim
        (λ here.
        ⊎_elim
        (λ same. inl (subst (Contains (root ∷ roots)) (sym same) (Contains-first root roots)))
        (λ parent. inr (parent.0, Contains-append_left (own_cells H search n d) (own_of_all H search ns d) parent.0 parent.1, parent.2))
        (own-parent n d c here))
        (λ later.
        ⊎_elim
        (λ child. inl (Contains-later root roots c child))
        (λ parent. inr (parent.0, Contains-append_right (own_cells H search n d) (own_of_all H search ns d) parent.0 parent.1, parent.2))
        (own-parent_of_all ns d c later))
        (Contains-append_cases (own_cells H search n d) (own_of_all H search ns d) c own)

  -- a cell below a tree that was given in one of these places
  abbrev pub IsBelowGiven : List Place → Tree → Type 0
  IsBelowGiven ps s = (c : Tree) × IsGiven ps c × Contains (subtrees c) s

  below-into : (ps qs : List Place) (s : Tree) → ((p : Place) → Contains ps p → Contains qs p) → IsBelowGiven ps s → IsBelowGiven qs s
  below-into ps qs s within below = (below.0, into ps qs below.0 within below.1, below.2)

  cell-step : (n : Tree) (d : ℕ) (hidden : Bool) (whole : Tree) (rest : List Tree) (lower : List Place) (later : Option Hash256) (s : Tree) → is_hidden d (face_of H n) ≡ hidden → (if hidden then missing (search n d) (hash_at H n d) else later) ≡ None
      → Contains (subtrees (if hidden then unwrap_or (search n d) no_tree else whole)) s
      → (later ≡ None → Contains (subtrees whole) s → Contains (whole ∷ rest) s ⊎ IsBelowGiven lower s)
      → Contains (if hidden then [] else whole ∷ rest) s ⊎ IsBelowGiven (place n d ∷ (if hidden then [] else lower)) s
  cell-step n d true whole rest lower later s is e h below =
      inr (unwrap_or (search n d) no_tree, (place n d, Contains-first (place n d) [], is, found_tree (search n d) (hash_at H n d) e), h)
  cell-step n d false whole rest lower later s is e h below =
      ⊎_elim inl (λ given. inr (below-into lower (place n d ∷ lower) s (λ q in'. Contains-later (place n d) lower q in') given)) (below e h)

  mutual
    -- each cell of the graft is an own one, or below one that was given
    pub graft-cell : (n : Tree) (d : ℕ) (s : Tree) → first_foreign H search n d ≡ None → Contains (subtrees (grafted H search n d)) s → Contains (own_cells H search n d) s ⊎ IsBelowGiven (places H n d) s
    graft-cell (cell exotic bits ns) d s none h =
        let shown = face_of H (cell exotic bits ns) in
        let kd = kid_level shown d in
        let whole = cell exotic bits (grafted_all H search ns kd) in
        let rest = own_of_all H search ns kd in
        cell-step (cell exotic bits ns) d (is_hidden d shown) whole rest (places_of_all H ns kd) (foreign_of_all H search ns kd) s refl none h
        (λ below in'.
        ⊎_elim
        (λ same. inl (subst (Contains (whole ∷ rest)) same (Contains-first whole rest)))
        (λ later. ⊎_elim (λ own. inl (Contains-later whole rest s own)) inr (graft-cell_of_all ns kd s below later))
        (Contains-cases whole (subtrees_of_all (grafted_all H search ns kd)) s in'))

    graft-cell_of_all : (ns : Trees) (d : ℕ) (s : Tree) → foreign_of_all H search ns d ≡ None → Contains (subtrees_of_all (grafted_all H search ns d)) s → Contains (own_of_all H search ns d) s ⊎ IsBelowGiven (places_of_all H ns d) s
    graft-cell_of_all no_trees d s none h = absurd (Contains-nil s h)
    graft-cell_of_all (tree_and n ns) d s none h =
        let both = no_option (first_foreign H search n d) (foreign_of_all H search ns d) none in
        ⊎_elim
        (λ here.
        ⊎_elim
        (λ own. inl (Contains-append_left (own_cells H search n d) (own_of_all H search ns d) s own))
        (λ given. inr (below-into (places H n d) (places_of_all H (tree_and n ns) d) s (λ q in'. Contains-append_left (places H n d) (places_of_all H ns d) q in') given))
        (graft-cell n d s both.0 here))
        (λ later.
        ⊎_elim
        (λ own. inl (Contains-append_right (own_cells H search n d) (own_of_all H search ns d) s own))
        (λ given. inr (below-into (places_of_all H ns d) (places_of_all H (tree_and n ns) d) s (λ q in'. Contains-append_right (places H n d) (places_of_all H ns d) q in') given))
        (graft-cell_of_all ns d s both.1 later))
        (Contains-append_cases (subtrees (grafted H search n d)) (subtrees_of_all (grafted_all H search ns d)) s h)

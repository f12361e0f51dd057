-- Laws of subtrees: they are well-formed where the tree is, and where trees are free of clashes those of equal reps
-- are equal.
use Rattle.std.proofs.Common.{◌≡◌, ℕ, zero, suc, ◌<◌, List, [], ◌∷◌, length, get_or, drop, Contains, map, flat_map, refl, ap, sym, subst, inl, inr, ⊎_elim, ◌⊎◌, arith}
use Rattle.std.proofs.lemmas.List.Elements.{Contains-append_cases, Contains-append_left, Contains-append_right}
use Rattle.cd_base.specs.declared.hash.Hash256.{Hash256}
use Rattle.cd_cell.specs.Infos.{rep_of_info}
use Rattle.cd_cell.specs.Levels.{info_of_face}
use Rattle.cd_cell.specs.Tree.{Tree, cell, Trees, no_trees, tree_and, list_of, trees_of, children, subtrees, subtrees_of_all, info_of, infos_of, face_of, rep_of, IsWellFormed, AreWellFormed}
use Rattle.cd_cell.specs.GoodFace.{IsGoodFace}
use Rattle.cd_cell.specs.Export.{AreClashFree}

pub Contains-first : {A : Type 0} (x : A) (xs : List A) → Contains (x ∷ xs) x
Contains-first x xs = (0, omega arith, refl)

pub Contains-later : {A : Type 0} (x : A) (xs : List A) (y : A) → Contains xs y → Contains (x ∷ xs) y
Contains-later x xs y h = Contains-append_right (x ∷ []) xs y h

only-at : {A : Type 0} (x y : A) (k : ℕ) → k < 1 → get_or (x ∷ []) k y ≡ y → x ≡ y
only-at x y zero below is = is
only-at x y (suc k) below is = absurd (omega arith)

pub Contains-cases : {A : Type 0} (x : A) (xs : List A) (y : A) → Contains (x ∷ xs) y → (x ≡ y) ⊎ Contains xs y
Contains-cases x xs y h = ⊎_elim (λ at. inl (only-at x y at.0 at.1 at.2)) inr (Contains-append_cases (x ∷ []) xs y h)

pub Contains-nil : {A : Type 0} (y : A) → Contains [] y → ⊥
Contains-nil y h = omega (arith, h.1)

pub Contains-map : {A B : Type 0} (f : A → B) (xs : List A) (y : B) → Contains (map f xs) y → (x : A) × Contains xs x × (f x ≡ y)
Contains-map f [] y h = absurd (Contains-nil y h)
Contains-map f (x ∷ xs) y h =
    ⊎_elim
    (λ same. (x, Contains-first x xs, same))
    (λ later. let found = Contains-map f xs y later in (found.0, Contains-later x xs found.0 found.1, found.2))
    (Contains-cases (f x) (map f xs) y h)

pub Contains-mapped : {A B : Type 0} (f : A → B) (xs : List A) (x : A) → Contains xs x → Contains (map f xs) (f x)
Contains-mapped f [] x h = absurd (Contains-nil x h)
Contains-mapped f (z ∷ xs) x h =
    ⊎_elim
    (λ same. subst (λ w. Contains (map f (z ∷ xs)) (f w)) same (Contains-first (f z) (map f xs)))
    (λ later. Contains-later (f z) (map f xs) (f x) (Contains-mapped f xs x later))
    (Contains-cases z xs x h)

-- ---- subtrees

pub list_of-trees_of : (ts : List Tree) → list_of (trees_of ts) ≡ ts
list_of-trees_of [] = refl
list_of-trees_of (t ∷ ts) = ap (λ us. t ∷ us) (list_of-trees_of ts)

pub subtree-itself : (t : Tree) → Contains (subtrees t) t
subtree-itself (cell exotic bits ts) = Contains-first (cell exotic bits ts) (subtrees_of_all ts)

-- a subtree of a child is one of the cell
subtrees_of_all-child : (ts : Trees) (c s : Tree) → Contains (list_of ts) c → Contains (subtrees c) s → Contains (subtrees_of_all ts) s
subtrees_of_all-child no_trees c s h in' = absurd (Contains-nil c h)
subtrees_of_all-child (tree_and t ts) c s h in' =
    ⊎_elim
    (λ same. Contains-append_left (subtrees t) (subtrees_of_all ts) s (subst (λ x. Contains (subtrees x) s) (sym same) in'))
    (λ later. Contains-append_right (subtrees t) (subtrees_of_all ts) s (subtrees_of_all-child ts c s later in'))
    (Contains-cases t (list_of ts) c h)

pub subtrees-child : (t c s : Tree) → Contains (children t) c → Contains (subtrees c) s → Contains (subtrees t) s
subtrees-child (cell exotic bits ts) c s h in' = Contains-later (cell exotic bits ts) (subtrees_of_all ts) s (subtrees_of_all-child ts c s h in')

pub child-is-subtree : (t c : Tree) → Contains (children t) c → Contains (subtrees t) c
child-is-subtree t c h = subtrees-child t c c h (subtree-itself c)

-- a subtree is the cell itself or one of a child
subtrees_of_all-cases : (ts : Trees) (s : Tree) → Contains (subtrees_of_all ts) s → (c : Tree) × Contains (list_of ts) c × Contains (subtrees c) s
subtrees_of_all-cases no_trees s h = absurd (Contains-nil s h)
subtrees_of_all-cases (tree_and t ts) s h =
    ⊎_elim
    (λ here. (t, Contains-first t (list_of ts), here))
    (λ later. let found = subtrees_of_all-cases ts s later in (found.0, Contains-later t (list_of ts) found.0 found.1, found.2))
    (Contains-append_cases (subtrees t) (subtrees_of_all ts) s h)

pub subtrees-cases : (t s : Tree) → Contains (subtrees t) s → (t ≡ s) ⊎ ((c : Tree) × Contains (children t) c × Contains (subtrees c) s)
subtrees-cases (cell exotic bits ts) s h =
    ⊎_elim inl (λ below. inr (subtrees_of_all-cases ts s below)) (Contains-cases (cell exotic bits ts) (subtrees_of_all ts) s h)

-- a subtree of a subtree is a subtree
mutual
  pub subtrees-subtree : (t s u : Tree) → Contains (subtrees t) s → Contains (subtrees s) u → Contains (subtrees t) u
  subtrees-subtree (cell exotic bits ts) s u h in' =
      ⊎_elim
      (λ same. subst (λ x. Contains (subtrees x) u) (sym same) in')
      (λ below. Contains-later (cell exotic bits ts) (subtrees_of_all ts) u (subtrees_of_all-subtree ts s u below in'))
      (Contains-cases (cell exotic bits ts) (subtrees_of_all ts) s h)

  pub subtrees_of_all-subtree : (ts : Trees) (s u : Tree) → Contains (subtrees_of_all ts) s → Contains (subtrees s) u → Contains (subtrees_of_all ts) u
  subtrees_of_all-subtree no_trees s u h in' = absurd (Contains-nil s h)
  subtrees_of_all-subtree (tree_and t ts) s u h in' =
      ⊎_elim
      (λ here. Contains-append_left (subtrees t) (subtrees_of_all ts) u (subtrees-subtree t s u here in'))
      (λ later. Contains-append_right (subtrees t) (subtrees_of_all ts) u (subtrees_of_all-subtree ts s u later in'))
      (Contains-append_cases (subtrees t) (subtrees_of_all ts) s h)

-- a subtree but the tree itself is a child of a subtree
mutual
  pub subtree-parent : (t s : Tree) → Contains (subtrees t) s → (s ≡ t) ⊎ ((p : Tree) × Contains (subtrees t) p × Contains (children p) s)
  subtree-parent (cell exotic bits ts) s h =
      ⊎_elim
      (λ same. inl (sym same))
      (λ below.
      let found = subtree_of_all-parent ts s below in
      inr
      (⊎_elim
      (λ child. (cell exotic bits ts, Contains-first (cell exotic bits ts) (subtrees_of_all ts), child))
      (λ parent. (parent.0, Contains-later (cell exotic bits ts) (subtrees_of_all ts) parent.0 parent.1, parent.2))
      found))
      (Contains-cases (cell exotic bits ts) (subtrees_of_all ts) s h)

  subtree_of_all-parent : (ts : Trees) (s : Tree) → Contains (subtrees_of_all ts) s → Contains (list_of ts) s ⊎ ((p : Tree) × Contains (subtrees_of_all ts) p × Contains (children p) s)
  subtree_of_all-parent no_trees s h = absurd (Contains-nil s h)
  subtree_of_all-parent (tree_and t ts) s h =
      ⊎_elim
      (λ here.
      ⊎_elim
      (λ same. inl (subst (Contains (t ∷ list_of ts)) (sym same) (Contains-first t (list_of ts))))
      (λ parent. inr (parent.0, Contains-append_left (subtrees t) (subtrees_of_all ts) parent.0 parent.1, parent.2))
      (subtree-parent t s here))
      (λ later.
      ⊎_elim
      (λ child. inl (Contains-later t (list_of ts) s child))
      (λ parent. inr (parent.0, Contains-append_right (subtrees t) (subtrees_of_all ts) parent.0 parent.1, parent.2))
      (subtree_of_all-parent ts s later))
      (Contains-append_cases (subtrees t) (subtrees_of_all ts) s h)

-- the subtrees of listed trees have their subtrees among them
pub flat_map-subtree : (ts : List Tree) (s u : Tree) → Contains (flat_map subtrees ts) s → Contains (subtrees s) u → Contains (flat_map subtrees ts) u
flat_map-subtree [] s u h in' = absurd (Contains-nil s h)
flat_map-subtree (t ∷ ts) s u h in' =
    ⊎_elim
    (λ here. Contains-append_left (subtrees t) (flat_map subtrees ts) u (subtrees-subtree t s u here in'))
    (λ later. Contains-append_right (subtrees t) (flat_map subtrees ts) u (flat_map-subtree ts s u later in'))
    (Contains-append_cases (subtrees t) (flat_map subtrees ts) s h)

pub flat_map-cases : (ts : List Tree) (s : Tree) → Contains (flat_map subtrees ts) s → (t : Tree) × Contains ts t × Contains (subtrees t) s
flat_map-cases [] s h = absurd (Contains-nil s h)
flat_map-cases (x ∷ ts) s h =
    ⊎_elim
    (λ here. (x, Contains-first x ts, here))
    (λ later. let found = flat_map-cases ts s later in (found.0, Contains-later x ts found.0 found.1, found.2))
    (Contains-append_cases (subtrees x) (flat_map subtrees ts) s h)

pub flat_map-listed : (ts : List Tree) (t s : Tree) → Contains ts t → Contains (subtrees t) s → Contains (flat_map subtrees ts) s
flat_map-listed [] t s h in' = absurd (Contains-nil t h)
flat_map-listed (x ∷ ts) t s h in' =
    ⊎_elim
    (λ same. Contains-append_left (subtrees x) (flat_map subtrees ts) s (subst (λ y. Contains (subtrees y) s) (sym same) in'))
    (λ later. Contains-append_right (subtrees x) (flat_map subtrees ts) s (flat_map-listed ts t s later in'))
    (Contains-cases x ts t h)

-- ---- well-formed trees

module _ (H : List ℕ → Hash256) where
  mutual
    pub well_formed-subtree : (t s : Tree) → IsWellFormed H t → Contains (subtrees t) s → IsWellFormed H s
    well_formed-subtree (cell exotic bits ts) s good h =
        ⊎_elim
        (λ same. subst (IsWellFormed H) same good)
        (λ below. well_formed-subtree_of_all ts s good.3 below)
        (Contains-cases (cell exotic bits ts) (subtrees_of_all ts) s h)

    pub well_formed-subtree_of_all : (ts : Trees) (s : Tree) → AreWellFormed H ts → Contains (subtrees_of_all ts) s → IsWellFormed H s
    well_formed-subtree_of_all no_trees s good h = absurd (Contains-nil s h)
    well_formed-subtree_of_all (tree_and t ts) s good h =
        ⊎_elim
        (λ here. well_formed-subtree t s good.0 here)
        (λ later. well_formed-subtree_of_all ts s good.1 later)
        (Contains-append_cases (subtrees t) (subtrees_of_all ts) s h)

  pub well_formed-child : (t c : Tree) → IsWellFormed H t → Contains (children t) c → IsWellFormed H c
  well_formed-child t c good h = well_formed-subtree t c good (child-is-subtree t c h)

  pub length-infos_of : (ts : Trees) → length (infos_of H ts) ≡ length (list_of ts)
  length-infos_of no_trees = refl
  length-infos_of (tree_and t ts) = ap suc (length-infos_of ts)

  AreWellFormed-from : (ts : Trees) → ((c : Tree) → Contains (list_of ts) c → IsWellFormed H c) → AreWellFormed H ts
  AreWellFormed-from no_trees each = tt
  AreWellFormed-from (tree_and t ts) each = (each t (Contains-first t (list_of ts)), AreWellFormed-from ts (λ c h. each c (Contains-later t (list_of ts) c h)))

  -- a tree is well-formed where its children are and its face is good, and only there
  pub IsWellFormed-from : (t : Tree) → IsGoodFace (face_of H t) → ((c : Tree) → Contains (children t) c → IsWellFormed H c) → IsWellFormed H t
  IsWellFormed-from (cell exotic bits ts) good each = (good.bits, omega (arith, good.kids, length-infos_of ts), good.fit, AreWellFormed-from ts each)

  pub IsGoodFace-face_of : (t : Tree) → IsWellFormed H t → IsGoodFace (face_of H t)
  IsGoodFace-face_of (cell exotic bits ts) good = record { bits = good.0; kids = omega (arith, good.1, length-infos_of ts); fit = good.2 }

  -- what a cell shows, by its face
  pub info_of-face_of : (t : Tree) → info_of H t ≡ info_of_face H (face_of H t)
  info_of-face_of (cell exotic bits ts) = refl

  pub infos_of-list_of : (ts : Trees) → infos_of H ts ≡ map (info_of H) (list_of ts)
  infos_of-list_of no_trees = refl
  infos_of-list_of (tree_and t ts) = ap (λ ks. info_of H t ∷ ks) (infos_of-list_of ts)

  -- the kids of a face are what the children show
  pub kids-face_of : (t : Tree) → (face_of H t).kids ≡ map (info_of H) (children t)
  kids-face_of (cell exotic bits ts) = infos_of-list_of ts

-- ---- trees without clashes

module _ (H : List ℕ → Hash256) (ts : List Tree) (clear : AreClashFree H ts) where
  abbrev pool : List Tree
  pool = flat_map subtrees ts

  mutual
    pub same_subtrees : (a b : Tree) → Contains pool a → Contains pool b → rep_of H a ≡ rep_of H b → a ≡ b
    same_subtrees (cell exotic bits us) (cell exotic' bits' vs) in-a in-b rep =
        let faces = clear (cell exotic bits us) (cell exotic' bits' vs) in-a in-b rep in
        let same_flag = ap (λ f. f.exotic) faces in
        let same_bits = ap (λ f. f.bits) faces in
        let below =
        same_children us vs
        (λ c h. flat_map-subtree ts (cell exotic bits us) c in-a (child-is-subtree (cell exotic bits us) c h))
        (λ c h. flat_map-subtree ts (cell exotic' bits' vs) c in-b (child-is-subtree (cell exotic' bits' vs) c h))
        (ap (λ f. f.kids) faces)
        in
        cc (same_flag, same_bits, below)

    same_children : (us vs : Trees) → ((c : Tree) → Contains (list_of us) c → Contains pool c) → ((c : Tree) → Contains (list_of vs) c → Contains pool c) → infos_of H us ≡ infos_of H vs → us ≡ vs
    same_children no_trees no_trees in-a in-b e = refl
    same_children no_trees (tree_and b vs) in-a in-b e = (cc)
    same_children (tree_and a us) no_trees in-a in-b e = (cc)
    same_children (tree_and a us) (tree_and b vs) in-a in-b e =
        let first =
        same_subtrees a b
        (in-a a (Contains-first a (list_of us)))
        (in-b b (Contains-first b (list_of vs)))
        (ap (λ ks. rep_of_info (get_or ks 0 (info_of H a))) e)
        in
        let rest =
        same_children us vs
        (λ c h. in-a c (Contains-later a (list_of us) c h))
        (λ c h. in-b c (Contains-later b (list_of vs) c h))
        (ap (drop 1) e)
        in
        cc (first, rest)

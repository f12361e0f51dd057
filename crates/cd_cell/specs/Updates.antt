-- Trusted: Merkle updates: the old half shows a part of an old tree, and the new half is grafted onto what it shows (TVM
-- documentation, "Exotic cells"). At Merkle depth d, the number of Merkle cells above inside the half and at most 3,
-- cells are compared by their levels up to d.
use Rattle.std.specs.Prelude.{◌≡◌, ℕ, zero, suc, ◌+◌, ◌/◌, ◌^◌, ◌≤◌, IsTrue, Bool, true, false, ◌&&◌, nat_eq, ◌==◌, if◌then◌else◌, List, [], ◌∷◌, ◌++◌, find, slice_index_or, Option, Some, None, unwrap_or, Result, Ok, Err}
use Rattle.std.specs.Bool.{beq}
use Rattle.std.specs.Option.{option_or, option_map}
use Rattle.std.specs.Cmp.Lexicographic.{pointwise}
use Rattle.cd_base.specs.declared.hash.Hash256.{Hash256}
use Rattle.cd_cell.specs.declared.info.ChildInfo.{ChildInfo}
use Rattle.cd_cell.specs.Masks.{lowest_bits, level_of_mask}
use Rattle.cd_cell.specs.Infos.{info_hash, info_depth}
use Rattle.cd_cell.specs.FaceView.{FaceView}
use Rattle.cd_cell.specs.Levels.{kind_of_face, is_pruned, mask_of_face, kid_level, stated_hash}
use Rattle.cd_cell.specs.CellFaults.{stated_depth_of_kid}
use Rattle.cd_cell.specs.Tree.{Tree, cell, Trees, no_trees, tree_and, children, info_of, face_of, hash_at, depth_at}
use Rattle.cd_cell.specs.Unfolding.{no_tree}
use Rattle.cd_cell.specs.Equality.{same_hash, same_bits}

-- ---- what cells show, compared

abbrev pub same_at : ℕ → ChildInfo → ChildInfo → Bool
same_at l a b = same_hash (info_hash a l) (info_hash b l) && nat_eq (info_depth a l) (info_depth b l)

-- at each level up to d
unfoldable pub same_upto : ℕ → ChildInfo → ChildInfo → Bool
same_upto zero a b = same_at 0 a b
same_upto (suc d) a b = same_upto d a b && same_at (suc d) a b

-- hashes, depths and masks are equal up to level d
abbrev pub matches : ℕ → ChildInfo → ChildInfo → Bool
matches d a b = same_upto d a b && nat_eq (lowest_bits a.mask d) (lowest_bits b.mask d)

-- the same as a fact
pub record Matches (d : ℕ) (a b : ChildInfo) : Type 0 where
  pub masks : lowest_bits a.mask d ≡ lowest_bits b.mask d
  pub hashes : (l : ℕ) → l ≤ d → info_hash a l ≡ info_hash b l
  pub depths : (l : ℕ) → l ≤ d → info_depth a l ≡ info_depth b l

-- a stored face and a shown one have the same flag, bits and number of kids, and each pair of kids matches
abbrev pub agrees : ℕ → FaceView → FaceView → Bool
agrees d stored shown = (beq stored.exotic shown.exotic && same_bits stored.bits shown.bits) && pointwise (matches (kid_level shown d)) stored.kids shown.kids

-- a pruned branch of level d + 1 stands for a cell that isn't shown
abbrev pub is_hidden : ℕ → FaceView → Bool
is_hidden d f = is_pruned (kind_of_face f) && (level_of_mask (mask_of_face f) == d + 1)

-- a known cell stands for it: it has no level above d, and matches it
abbrev pub stands_for : ChildInfo → ℕ → ChildInfo → Bool
stands_for hidden d known = nat_eq (known.mask / 2 ^ d) 0 && matches d known hidden

-- the fact, where the test fails
abbrev pub Unless : Bool → Type 0 → Type 0
Unless true P = Unit {0}
Unless false P = P

-- the first cell of an old half that doesn't agree: its hash, the stored face and the shown one
pub record Misfit : Type 0 where
  pub hash : Hash256
  pub stored : FaceView
  pub shown : FaceView

-- why an update isn't applied: it states another old hash or depth than the tree has, its old half doesn't show the
-- tree, or it hides a cell that its old half didn't meet
pub data UpdateRefusal : Type 0 where
  old_hash : Hash256 → Hash256 → UpdateRefusal
  old_depth : ℕ → ℕ → UpdateRefusal
  old_half : Misfit → UpdateRefusal
  foreign : Hash256 → UpdateRefusal

-- the value, where the test fails
abbrev pub some_unless : {A : Type 0} → Bool → A → Option A
some_unless holds value = if holds then None else Some value

-- the hash, where no tree is there
abbrev pub missing : Option Tree → Hash256 → Option Hash256
missing None hash = Some hash
missing (Some t) hash = None

abbrev pub or_refused : {A R : Type 0} → Option R → A → Result A R
or_refused None value = Ok value
or_refused (Some refusal) value = Err refusal

-- the halves of an update are its first and its second child
abbrev pub half_of : Tree → ℕ → Tree
half_of u place = slice_index_or (children u) place no_tree

module _ (H : List ℕ → Hash256) where
  -- ---- the old half

  -- it shows the tree: a cell is hidden, or it agrees and each child shows the tree's child in its place
  abbrev mutual
    pub Shows : Tree → Tree → ℕ → Type 0
    Shows (cell exotic bits os) t d =
        let shown = face_of H (cell exotic bits os) in
        Unless (is_hidden d shown) (IsTrue (agrees d (face_of H t) shown) × ShowAll os (children t) (kid_level shown d))

    pub ShowAll : Trees → List Tree → ℕ → Type 0
    ShowAll no_trees ts d = Unit {0}
    ShowAll (tree_and o os) [] d = ⊥
    ShowAll (tree_and o os) (t ∷ ts) d = Shows o t d × ShowAll os ts d

  -- the cells of the tree that it meets in preorder, those that it hides included
  abbrev mutual
    pub known_cells : Tree → Tree → ℕ → List Tree
    known_cells (cell exotic bits os) t d =
        let shown = face_of H (cell exotic bits os) in
        t ∷ (if is_hidden d shown then [] else known_of_all os (children t) (kid_level shown d))

    pub known_of_all : Trees → List Tree → ℕ → List Tree
    known_of_all no_trees ts d = []
    known_of_all (tree_and o os) [] d = []
    known_of_all (tree_and o os) (t ∷ ts) d = known_cells o t d ++ known_of_all os ts d

  -- the first cell in preorder that doesn't agree
  abbrev mutual
    pub misfit : Tree → Tree → ℕ → Option Misfit
    misfit (cell exotic bits os) t d =
        let shown = face_of H (cell exotic bits os) in
        let stored = face_of H t in
        if is_hidden d shown then None
        else if agrees d stored shown then misfit_of_all os (children t) (kid_level shown d)
        else Some (record { hash = hash_at H (cell exotic bits os) d; stored = stored; shown = shown })

    pub misfit_of_all : Trees → List Tree → ℕ → Option Misfit
    misfit_of_all no_trees ts d = None
    misfit_of_all (tree_and o os) [] d = None
    misfit_of_all (tree_and o os) (t ∷ ts) d = option_or (misfit o t d) (misfit_of_all os ts d)

  -- the hashes at level d of the cells that it shows, in preorder: those by which their faces are found
  abbrev mutual
    pub wanted : Tree → ℕ → List Hash256
    wanted (cell exotic bits os) d =
        let shown = face_of H (cell exotic bits os) in
        if is_hidden d shown then [] else hash_at H (cell exotic bits os) d ∷ wanted_of_all os (kid_level shown d)

    pub wanted_of_all : Trees → ℕ → List Hash256
    wanted_of_all no_trees d = []
    wanted_of_all (tree_and o os) d = wanted o d ++ wanted_of_all os d

  -- the cells of the tree that it shows, in the same order
  abbrev mutual
    pub shown_cells : Tree → Tree → ℕ → List Tree
    shown_cells (cell exotic bits os) t d =
        let shown = face_of H (cell exotic bits os) in
        if is_hidden d shown then [] else t ∷ shown_of_all os (children t) (kid_level shown d)

    pub shown_of_all : Trees → List Tree → ℕ → List Tree
    shown_of_all no_trees ts d = []
    shown_of_all (tree_and o os) [] d = []
    shown_of_all (tree_and o os) (t ∷ ts) d = shown_cells o t d ++ shown_of_all os ts d

  -- ---- the new half

  -- the first known cell that does
  abbrev pub found_in : List Tree → Tree → ℕ → Option Tree
  found_in known n d = find (λ k. stands_for (info_of H n) d (info_of H k)) known

  module _ (search : Tree → ℕ → Option Tree) where
    -- each hidden cell gives way to the one that is found for it; every other cell keeps its flag and bits
    abbrev mutual
      pub grafted : Tree → ℕ → Tree
      grafted (cell exotic bits ns) d =
          let shown = face_of H (cell exotic bits ns) in
          if is_hidden d shown then unwrap_or (search (cell exotic bits ns) d) no_tree else cell exotic bits (grafted_all ns (kid_level shown d))

      pub grafted_all : Trees → ℕ → Trees
      grafted_all no_trees d = no_trees
      grafted_all (tree_and n ns) d = tree_and (grafted n d) (grafted_all ns d)

    -- the hash at level d of the first hidden cell in preorder for which none is found
    abbrev mutual
      pub first_foreign : Tree → ℕ → Option Hash256
      first_foreign (cell exotic bits ns) d =
          let shown = face_of H (cell exotic bits ns) in
          if is_hidden d shown then missing (search (cell exotic bits ns) d) (hash_at H (cell exotic bits ns) d) else foreign_of_all ns (kid_level shown d)

      pub foreign_of_all : Trees → ℕ → Option Hash256
      foreign_of_all no_trees d = None
      foreign_of_all (tree_and n ns) d = option_or (first_foreign n d) (foreign_of_all ns d)

    -- the grafted cells that kept their flag and bits, in preorder
    abbrev mutual
      pub own_cells : Tree → ℕ → List Tree
      own_cells (cell exotic bits ns) d =
          let shown = face_of H (cell exotic bits ns) in
          if is_hidden d shown then [] else cell exotic bits (grafted_all ns (kid_level shown d)) ∷ own_of_all ns (kid_level shown d)

      pub own_of_all : Trees → ℕ → List Tree
      own_of_all no_trees d = []
      own_of_all (tree_and n ns) d = own_cells n d ++ own_of_all ns d

  -- ---- the update

  -- the cells that the old half meets
  abbrev pub known_of : Tree → Tree → List Tree
  known_of u t = known_cells (half_of u 0) t 0

  -- the update states another hash or depth of the old tree at level 0 than it has
  abbrev pub hash_refusal : Tree → Tree → Option UpdateRefusal
  hash_refusal u t =
      let stated = stated_hash (face_of H u) 1 in
      some_unless (same_hash stated (hash_at H t 0)) (old_hash stated (hash_at H t 0))

  abbrev pub depth_refusal : Tree → Tree → Option UpdateRefusal
  depth_refusal u t =
      let stated = stated_depth_of_kid (face_of H u) 0 in
      some_unless (stated == depth_at H t 0) (old_depth stated (depth_at H t 0))

  -- the old half doesn't show the tree
  abbrev pub half_refusal : Tree → Tree → Option UpdateRefusal
  half_refusal u t = option_map old_half (misfit (half_of u 0) t 0)

  -- the new half hides a cell that isn't known
  abbrev pub graft_refusal : Tree → Tree → Option UpdateRefusal
  graft_refusal u t = option_map foreign (first_foreign (found_in (known_of u t)) (half_of u 1) 0)

  -- the first refusal
  abbrev pub refusal_of : Tree → Tree → Option UpdateRefusal
  refusal_of u t = option_or (hash_refusal u t) (option_or (depth_refusal u t) (option_or (half_refusal u t) (graft_refusal u t)))

  -- the new tree: the update applied to an old tree
  abbrev pub applied : Tree → Tree → Result Tree UpdateRefusal
  applied u t = or_refused (refusal_of u t) (grafted (found_in (known_of u t)) (half_of u 1) 0)

  -- its new cells in preorder
  abbrev pub new_cells : Tree → Tree → List Tree
  new_cells u t = own_cells (found_in (known_of u t)) (half_of u 1) 0

-- Laws of the order of an export: known cells by their ranks are the distinct cells of their tree.
use Rattle.std.proofs.Common.{◌≡◌, ℕ, ◌-◌, ◌<◌, ◌≤◌, ⊎_elim, List, ◌∷◌, [], length, get_or, map, drop, Less, Equal, nat_cmp, refl, sym, ap, ap₂, subst, ◌∙◌, arith}
use Rattle.std.specs.Prelude.{Option, Some, All, AllPairs, Contains}
use Rattle.std.specs.BTreeMap.{BTreeMap, btree_map_len, keys, IsOrdered}
use Rattle.std.specs.Ordering.{ordering_then}
use Rattle.std.specs.List.{AllByRecursion}
use Rattle.std.proofs.lemmas.Bool.Decides.{nat_tests}
use Rattle.std.proofs.lemmas.Cmp.{tied_itself}
use Rattle.std.proofs.lemmas.List.{length-map, get_or-map}
use Rattle.std.proofs.lemmas.List.Elements.{Contains-append_cases, Contains-get_or, recursion_from_All}
use Rattle.std.proofs.lemmas.Map.Entries.{place_from_lookup}
use Rattle.std.proofs.lemmas.Map.Keys.{Less-from_sorted}
use Rattle.std.proofs.lemmas.Map.Views.{All-found}
use Rattle.std.proofs.lemmas.Option.{get_or_from_slice_get, slice_get_within}
use Rattle.cd_base.specs.declared.hash.Hash256.{Hash256}
use Rattle.cd_cell.specs.declared.info.ChildInfo.{ChildInfo}
use Rattle.cd_cell.specs.declared.new_cell.NewCell.{NewCell}
use Rattle.cd_cell.specs.Bags.{no_face}
use Rattle.cd_cell.specs.FaceView.{FaceView}
use Rattle.cd_cell.specs.GoodFace.{IsGoodFace}
use Rattle.cd_cell.specs.Infos.{no_hash, height_of_info}
use Rattle.cd_cell.specs.Tree.{Tree, Trees, cell, no_trees, tree_and, list_of, children, subtrees, subtrees_of_all, face_of, info_of, rep_of, height_of}
use Rattle.cd_cell.specs.Unfolding.{no_tree}
use Rattle.cd_cell.specs.Export.{hash_cmp, export_cmp, distinct_cells}
use Rattle.cd_cell.specs.Listings.{new_cell_of}
use Rattle.cd_cell.proofs.Subtrees.{Contains-first, Contains-later, Contains-cases, Contains-nil, Contains-mapped, kids-face_of, info_of-face_of, well_formed-subtree, IsGoodFace-face_of, subtree-itself, subtrees-subtree, child-is-subtree}
use Rattle.cd_cell.proofs.Distinct.{Rises, rises-from_AllPairs}
use Rattle.cd_cell.proofs.ExportOrder.{export_cmp-total, AreDistinct-distinct_cells, Contains-distinct_cells, distinct_cells-only}
use Rattle.cd_event.specs.Pins.{IsState}
use Rattle.cd_slices.specs.declared.gather.Gathered.{Gathered}
use Rattle.cd_cell.specs.declared.export_key.ExportRank.{ExportRank}
use Rattle.cd_cell.specs.Keys.{rank_cmp}
use Rattle.cd_cell.proofs.KeyLaws.{rank_cmp-total}
use Rattle.cd_slices.specs.Ranks.{rank_of_info, rank_of, IsPlaced, IsKnown}
use Rattle.cd_slices.specs.Gathering.{hash_at, found_at, IsGathered, AreRanksOf, AreWhole, cell_in}
use Rattle.cd_slices.proofs.PlaceLaws.{is_eq-true, known-place, place-known}

-- heights turned into distances from a greatest one
turned-heights : (x y : ℕ) → x ≤ 1024 → y ≤ 1024 → nat_cmp (65535 - x) (65535 - y) ≡ nat_cmp y x
turned-heights x y low-x low-y = grind (arith, nat_tests)

-- ---- the entries of places that are known

entry-placed : (places : BTreeMap ExportRank ℕ) → IsOrdered rank_cmp places → (e : ExportRank × ℕ) → Contains places.entries e → IsPlaced places e.0 e.1
entry-placed places ordered e there = subst (λ (x : ExportRank × ℕ). IsPlaced places x.0 x.1) there.2 (All-found rank_cmp-total places ordered there.0 e there.1)

-- each place of an entry is that of a face
pub places-low : (all : Gathered) (faces : List FaceView) → IsGathered all → length all.faces.items ≡ length all.hashes.items → faces ≡ all.faces.items → AllByRecursion (λ (e : ExportRank × ℕ). e.1 < length faces) all.places.entries
places-low all faces is done are =
    let long = ap length are ∙ done in
    recursion_from_All (λ (e : ExportRank × ℕ). e.1 < length faces) all.places.entries
    (λ k d in'. let e = get_or all.places.entries k d in let at = is.placed e.0 e.1 (entry-placed all.places is.ordered e (Contains-get_or all.places.entries k d in')) in omega (arith, at.0, long))

pub good-cells : (all : Gathered) → IsGathered all → length all.faces.items ≡ length all.hashes.items → All (λ (c : NewCell). IsGoodFace c.face) (map (cell_in all.faces.items) all.places.entries)
good-cells all is done k d in' =
    let entries = all.places.entries in
    let there : k < length entries = omega (arith, in', length-map entries (cell_in all.faces.items)) in
    let no_entry : ExportRank × ℕ = (record { lowness = 0; hash = no_hash }, 0) in
    let e = get_or entries k no_entry in
    let low = (is.placed e.0 e.1 (entry-placed all.places is.ordered e (Contains-get_or entries k no_entry there))).0 in
    subst (λ (c : NewCell). IsGoodFace c.face) (sym (get_or-map (cell_in all.faces.items) entries k no_entry d there)) (is.good e.1 no_face (omega (arith, low, done)))

-- ---- lists in strict order

-- a list in strict order of elements of another has at most as many
length-rising : {A : Type 0} (cmp : A → A → _) → ((x : A) → cmp x x ≡ Equal) → ((x y z : A) → cmp x y ≡ Less → cmp y z ≡ Less → cmp x z ≡ Less) → (xs ys : List A) → Rises cmp xs → Rises cmp ys → ((z : A) → Contains xs z → Contains ys z) → length xs ≤ length ys
length-rising cmp tied trans [] ys up-x up-y into = omega arith
length-rising cmp tied trans (x ∷ xs) [] up-x up-y into = absurd (Contains-nil x (into x (Contains-first x xs)))
length-rising cmp tied trans (x ∷ xs) (y ∷ ys) up-x up-y into =
    ⊎_elim
    (λ same.
    let rest = length-rising cmp tied trans xs ys up-x.1 up-y.1
    (λ z below.
    ⊎_elim
    (λ first.
    let e : x ≡ z = sym same ∙ first in
    absurd (let less = up-x.0 z below in let equal = ap (cmp x) (sym e) ∙ tied x in cc))
    (λ later. later)
    (Contains-cases y ys z (into z (Contains-later x xs z below)))) in
    omega (arith, rest))
    (λ behind.
    let y-less = up-y.0 x behind in
    let rest = length-rising cmp tied trans (x ∷ xs) ys up-x up-y.1
    (λ z there.
    ⊎_elim
    (λ first.
    let not_less = tied z in
    absurd
    (⊎_elim
    (λ here. let less : cmp z z ≡ Less = ap₂ cmp (sym first) (sym here) ∙ y-less in cc)
    (λ below. let less : cmp z z ≡ Less = ap (λ w. cmp w z) (sym first) ∙ trans y x z y-less (up-x.0 z below) in cc)
    (Contains-cases x xs z there)))
    (λ later. later)
    (Contains-cases y ys z (into z there))) in
    omega (arith, rest))
    (Contains-cases y ys x (into x (Contains-first x xs)))

-- ---- the cells of a state

module _ (H : List ℕ → Hash256) (t : Tree) (state : IsState H t) (places : BTreeMap ExportRank ℕ) (ordered : IsOrdered rank_cmp places) (ranks : AreRanksOf H t places) where
  low : (s : Tree) → Contains (subtrees t) s → height_of H s ≤ 1024
  low s inside =
      let good = IsGoodFace-face_of H s (well_formed-subtree H t s state.good inside) in
      omega (arith, good.fit.depths 3 (omega arith), ap height_of_info (info_of-face_of H s))

  ranked : (a b : Tree) → Contains (subtrees t) a → Contains (subtrees t) b → rank_cmp (rank_of H a) (rank_of H b) ≡ export_cmp H a b
  ranked a b in-a in-b = ap (λ o. ordering_then o (hash_cmp (rep_of H a) (rep_of H b))) (turned-heights (height_of H a) (height_of H b) (low a in-a) (low b in-b))

  -- a tree for each entry
  record TreesOf (entries : List (ExportRank × ℕ)) : Type 0 where
    trees : List Tree
    are : map (λ (e : ExportRank × ℕ). e.0) entries ≡ map (rank_of H) trees
    within : (s : Tree) → Contains trees s → Contains (subtrees t) s

  trees_of_entries : (entries : List (ExportRank × ℕ)) → ((e : ExportRank × ℕ) → Contains entries e → IsPlaced places e.0 e.1) → TreesOf entries
  trees_of_entries [] placed = record { trees = []; are = refl; within = λ s none. absurd (Contains-nil s none) }
  trees_of_entries (e ∷ entries) placed =
      let first = ranks e.0 (place-known places e.0 e.1 (placed e (Contains-first e entries))) in
      let rest = trees_of_entries entries (λ x there. placed x (Contains-later e entries x there)) in
      record {
        trees = first.0 ∷ rest.trees;
        are = ap₂ (λ (r : ExportRank) rs. r ∷ rs) (sym first.2) rest.are;
        within = λ s there. ⊎_elim (λ same. subst (Contains (subtrees t)) same first.1) (rest.within s) (Contains-cases first.0 rest.trees s there);
      }

  abbrev all : TreesOf places.entries
  all = trees_of_entries places.entries (entry-placed places ordered)

  counted : length all.trees ≡ btree_map_len places
  counted = sym (length-map all.trees (rank_of H)) ∙ (sym (ap length all.are) ∙ length-map places.entries (λ (e : ExportRank × ℕ). e.0))

  in_order : AllPairs (λ a b. export_cmp H a b ≡ Less) all.trees
  in_order i j d before in' =
      let at-i : i < length all.trees = omega arith in
      let a = get_or all.trees i d in
      let b = get_or all.trees j d in
      let less = Less-from_sorted rank_cmp (keys places) i j (rank_of H d) ordered before (omega (arith, in', counted, length-map places.entries (λ (e : ExportRank × ℕ). e.0))) in
      let first : get_or (keys places) i (rank_of H d) ≡ rank_of H a = ap (λ (rs : List ExportRank). get_or rs i (rank_of H d)) all.are ∙ get_or-map (rank_of H) all.trees i d (rank_of H d) at-i in
      let second : get_or (keys places) j (rank_of H d) ≡ rank_of H b = ap (λ (rs : List ExportRank). get_or rs j (rank_of H d)) all.are ∙ get_or-map (rank_of H) all.trees j d (rank_of H d) in' in
      sym (ranked a b (all.within a (Contains-get_or all.trees i d at-i)) (all.within b (Contains-get_or all.trees j d in')))
      ∙ (sym (ap₂ rank_cmp first second) ∙ less)

  -- there are no more ranks than distinct cells
  pub ranks-few : btree_map_len places ≤ length (distinct_cells H t)
  ranks-few =
      let fewer =
      length-rising (export_cmp H) (tied_itself (export_cmp-total H)) (export_cmp-total H).trans all.trees (distinct_cells H t)
      (rises-from_AllPairs (export_cmp H) all.trees in_order)
      (rises-from_AllPairs (export_cmp H) (distinct_cells H t) (AreDistinct-distinct_cells H t).ordered)
      (λ s there. Contains-distinct_cells H t state.clear s (all.within s there)) in
      omega (arith, fewer, counted)

  module _ (whole : (s : Tree) → Contains (subtrees t) s → IsKnown places (rank_of H s)) where
    -- the tree of a known rank
    tree-there : (s : Tree) → Contains (subtrees t) s → (y : Tree) × Contains all.trees y × (export_cmp H s y ≡ Equal)
    tree-there s inside =
        let place = known-place places (rank_of H s) (whole s inside) in
        let at = place_from_lookup _ places.entries place.0 place.1 in
        let k = at.0 in
        let there : k < length places.entries = slice_get_within places.entries k (at.1, place.0) at.2 in
        let in-trees : k < length all.trees = omega (arith, there, counted) in
        let y = get_or all.trees k no_tree in
        let inside-y = all.within y (Contains-get_or all.trees k no_tree in-trees) in
        let key : get_or (keys places) k at.1 ≡ at.1 = get_or-map (λ (e : ExportRank × ℕ). e.0) places.entries k (at.1, place.0) at.1 there ∙ ap (λ (e : ExportRank × ℕ). e.0) (get_or_from_slice_get places.entries k (at.1, place.0) (at.1, place.0) at.2) in
        let rank : get_or (keys places) k at.1 ≡ rank_of H y = ap (λ (rs : List ExportRank). get_or rs k at.1) all.are ∙ get_or-map (rank_of H) all.trees k no_tree at.1 in-trees in
        let tied : rank_cmp (rank_of H s) at.1 ≡ Equal = is_eq-true _ at.3 in
        (y, Contains-get_or all.trees k no_tree in-trees, sym (ranked s y inside inside-y) ∙ (ap (rank_cmp (rank_of H s)) (sym rank ∙ key) ∙ tied))

    trees-are : all.trees ≡ distinct_cells H t
    trees-are = distinct_cells-only H t state.clear all.trees (record { ordered = in_order; within = all.within; whole = tree-there })

    pub listed-are : (cells : ExportRank × ℕ → NewCell) → ((e : ExportRank × ℕ) (s : Tree) → Contains places.entries e → Contains (subtrees t) s → e.0 ≡ rank_of H s → cells e ≡ new_cell_of H s)
        → map cells places.entries ≡ map (new_cell_of H) (distinct_cells H t)
    listed-are cells each = go places.entries all.trees all.are (λ e there. there) all.within ∙ ap (map (new_cell_of H)) trees-are
      where
        go : (entries : List (ExportRank × ℕ)) (trees : List Tree) → map (λ (e : ExportRank × ℕ). e.0) entries ≡ map (rank_of H) trees → ((e : ExportRank × ℕ) → Contains entries e → Contains places.entries e) → ((s : Tree) → Contains trees s → Contains (subtrees t) s)
            → map cells entries ≡ map (new_cell_of H) trees
        go [] [] same within inside = refl
        go [] (s ∷ trees) same within inside = absurd cc
        go (e ∷ entries) [] same within inside = absurd cc
        go (e ∷ entries) (s ∷ trees) same within inside =
            ap₂ (λ (c : NewCell) cs. c ∷ cs)
            (each e s (within e (Contains-first e entries)) (inside s (Contains-first s trees)) (ap (λ (rs : List ExportRank). get_or rs 0 e.0) same))
            (go entries trees (ap (drop 1) same) (λ x there. within x (Contains-later e entries x there)) (λ x there. inside x (Contains-later s trees x there)))

-- ---- all cells below the root are known

module _ (known : Tree → Type 0) (closed : (s c : Tree) → known s → Contains (children s) c → known c) where
  mutual
    pub known-below : (t s : Tree) → known t → Contains (subtrees t) s → known s
    known-below (cell exotic bits ts) s top there =
        ⊎_elim
        (λ same. subst known same top)
        (λ below. known-below_all ts s (λ c child. closed (cell exotic bits ts) c top child) below)
        (Contains-cases (cell exotic bits ts) (subtrees_of_all ts) s there)

    known-below_all : (ts : Trees) (s : Tree) → ((c : Tree) → Contains (list_of ts) c → known c) → Contains (subtrees_of_all ts) s → known s
    known-below_all no_trees s each there = absurd (Contains-nil s there)
    known-below_all (tree_and t ts) s each there =
        ⊎_elim
        (λ here. known-below t s (each t (Contains-first t (list_of ts))) here)
        (λ later. known-below_all ts s (λ c child. each c (Contains-later t (list_of ts) c child)) later)
        (Contains-append_cases (subtrees t) (subtrees_of_all ts) s there)

module _ (H : List ℕ → Hash256) (told : Option Tree) (root : ChildInfo) (all : Gathered) (is : IsGathered all) (whole : AreWhole H told root all) (t : Tree) (is_told : told ≡ Some t) (is_root : root ≡ info_of H t) where
  ranks : AreRanksOf H t all.places
  ranks = whole.cells.ranks t is_told

  -- the face in the place of a cell
  face-there : (s : Tree) (place : ℕ) → Contains (subtrees t) s → place < length all.hashes.items → hash_at all place ≡ rep_of H s → found_at all place ≡ face_of H s
  face-there s place inside in' hash = whole.cells.faces place (omega (arith, in', whole.done)) t s is_told inside (sym hash)

  abbrev IsFound : Tree → Type 0
  IsFound s = Contains (subtrees t) s × IsKnown all.places (rank_of H s)

  found-child : (s c : Tree) → IsFound s → Contains (children s) c → IsFound c
  found-child s c found child =
      let place = known-place all.places (rank_of H s) found.1 in
      let at = is.placed (rank_of H s) place.0 place.1 in
      let face = face-there s place.0 found.0 at.0 at.1 in
      let shown : Contains (face_of H s).kids (info_of H c) = subst (λ (ks : List ChildInfo). Contains ks (info_of H c)) (sym (kids-face_of H s)) (Contains-mapped (info_of H) (children s) c child) in
      (subtrees-subtree t s c found.0 (child-is-subtree s c child), is.closed place.0 (info_of H c) (omega (arith, at.0, whole.done)) (subst (λ (f : FaceView). Contains f.kids (info_of H c)) (sym face) shown))

  all-known : (s : Tree) → Contains (subtrees t) s → IsKnown all.places (rank_of H s)
  all-known s inside = (known-below IsFound found-child t s (subtree-itself t, subst (λ (i : ChildInfo). IsKnown all.places (rank_of_info i)) is_root whole.top) inside).1

  -- the cells in their places, by their ranks, are the distinct cells
  pub listed-distinct : map (cell_in all.faces.items) all.places.entries ≡ map (new_cell_of H) (distinct_cells H t)
  listed-distinct =
      listed-are H t (whole.state t is_told) all.places is.ordered ranks all-known (cell_in all.faces.items)
      (λ e s there inside rank.
      let at = is.placed e.0 e.1 (entry-placed all.places is.ordered e there) in
      let hash : e.0.hash ≡ rep_of H s = ap (λ (r : ExportRank). r.hash) rank in
      ap₂ (λ h f. let c : NewCell = record { hash = h; face = f } in c) hash (face-there s e.1 inside at.0 (at.1 ∙ hash)))

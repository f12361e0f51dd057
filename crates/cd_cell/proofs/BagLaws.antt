-- Laws of bags: what a bag keeps, by its entries and their unfoldings, and how it follows from filled lists.
use Rattle.std.proofs.Common.{All, Bool, IsTrue, ◌↔◌, ◌≡◌, ℕ, zero, suc, ◌+◌, ◌<◌, ◌≤◌, List, [], ◌∷◌, length, get_or, take, drop, map, slice_index, Contains, flat_map, refl, ap, ap₂, sym, ◌∙◌, subst, ⊎_elim, length-take-le, get_or-take, add-zero, arith}
use Rattle.std.proofs.lemmas.List.{length-map, get_or-map, get_or_default, drop_more, drop_all, drop-map, same_lists, get_or_past}
use Rattle.std.proofs.lemmas.Bool.{cases_lt}
use Rattle.std.proofs.lemmas.List.Elements.{Contains-get_or}
use Rattle.cd_base.specs.declared.hash.Hash256.{Hash256}
use Rattle.cd_cell.specs.declared.info.ChildInfo.{ChildInfo}
use Rattle.cd_cell.specs.FaceView.{FaceView}
use Rattle.cd_cell.specs.Levels.{plain_depth, depth_of_face, info_of_face, rep_of_face}
use Rattle.cd_cell.specs.Infos.{rep_of_info}
use Rattle.cd_cell.specs.CellFaults.{kid_at, no_info}
use Rattle.cd_cell.specs.Tree.{Tree, children, subtrees, info_of, face_of, rep_of, height_of, IsWellFormed}
use Rattle.cd_cell.specs.Unfolding.{Entry, no_tree, behind, tree_of_entry, unfold_from, unfolding_of, AreLater, face_of_entry, infos_from, faces_from}
use Rattle.cd_cell.specs.Export.{AreClashFree}
use Rattle.cd_cell.specs.GoodFace.{IsGoodFace}
use Rattle.cd_cell.specs.Bags.{root_trees, no_face, face_at, ref_at, entry_of, entries_of, IsBag}
use Rattle.cd_cell.proofs.Heights.{height_of-child}
use Rattle.cd_cell.proofs.LevelRecursions.{at_levels}
use Rattle.cd_cell.proofs.Subtrees.{Contains-first, Contains-later, Contains-cases, Contains-nil, Contains-mapped, subtree-itself, flat_map-listed, same_subtrees, info_of-face_of, list_of-trees_of, Contains-map, subtrees-cases, flat_map-cases, IsWellFormed-from}
use Rattle.cd_cell.proofs.Unfoldings.{get_or-mapped, faces_from-is, infos_from-faces, behind-drop, unfolding_of-is, length-unfold_from, faces_from-end, faces_from-cons, faces_from-at, length-infos_from, length-faces_from}

abbrev no_entry : Entry
no_entry = entry_of no_face []

-- ---- the empty cell

no_depth : (l : ℕ) → l ≤ 3 → depth_of_face no_face l ≡ 0
unfolding plain_depth
no_depth = at_levels (λ l. depth_of_face no_face l ≡ 0) refl refl refl refl

pub IsGoodFace-no_face : IsGoodFace no_face
IsGoodFace-no_face =
    record {
      bits = omega arith;
      kids = omega arith;
      fit = record { known = λ e. cc e; pruned = λ e. absurd (cc e); library = λ e. absurd (cc e); proof = λ e. absurd (cc e); update = λ e. absurd (cc e); depths = λ l low. omega (arith, no_depth l low) };
    }

-- ---- entries by faces and numbers

pub length-entries_of : (cells : List FaceView) (refs : List (List ℕ)) → length refs ≡ length cells → length (entries_of cells refs) ≡ length cells
length-entries_of [] rs e = refl
length-entries_of (f ∷ fs) [] e = absurd (omega arith)
length-entries_of (f ∷ fs) (r ∷ rs) e = ap suc (length-entries_of fs rs (omega arith))

pub get_or-entries_of : (cells : List FaceView) (refs : List (List ℕ)) (k : ℕ) (d : Entry) → k < length cells → k < length refs → get_or (entries_of cells refs) k d ≡ entry_of (face_at cells k) (get_or refs k [])
get_or-entries_of [] rs k d in-cells in-refs = absurd (omega arith)
get_or-entries_of (f ∷ fs) [] k d in-cells in-refs = absurd (omega arith)
get_or-entries_of (f ∷ fs) (r ∷ rs) zero d in-cells in-refs = refl
get_or-entries_of (f ∷ fs) (r ∷ rs) (suc k) d in-cells in-refs = get_or-entries_of fs rs k d (omega arith) (omega arith)

module _ (H : List ℕ → Hash256) (cells : List FaceView) (refs : List (List ℕ)) (roots : List ℕ) (bag : IsBag H cells refs roots) where
  abbrev entries : List Entry
  entries = entries_of cells refs

  abbrev four : ℕ → List ℕ
  four k = get_or refs k []

  abbrev shows : List ChildInfo
  shows = map (info_of_face H) cells

  -- there are as many numbers as kids
  pub enough-bag : (k : ℕ) → k < length cells → length (face_at cells k).kids ≤ length (four k)
  enough-bag k in' =
      ⊎_elim
      (λ fewer.
      let none : ref_at refs k (length (four k)) ≡ 0 = get_or_past (four k) (length (four k)) 0 (omega arith) in
      absurd (omega (arith, bag.later k (length (four k)) in' fewer)))
      (λ all. all)
      (cases_lt (length (four k)) (length (face_at cells k).kids))

  entry-at : (k : ℕ) (d : Entry) → k < length cells → get_or entries k d ≡ entry_of (face_at cells k) (four k)
  entry-at k d in' = get_or-entries_of cells refs k d in' (omega (arith, bag.counted))

  -- the kids of an entry, looked up behind it
  kids-at : (k : ℕ) → k < length cells → map (behind k (drop (k + 1) shows) (info_of H no_tree)) (take (length (face_at cells k).kids) (four k)) ≡ (face_at cells k).kids
  kids-at k in' =
      let face = face_at cells k in
      let numbers = take (length face.kids) (four k) in
      let long : length numbers ≡ length face.kids = length-take-le (length face.kids) (four k) (enough-bag k in') in
      same_lists (map (behind k (drop (k + 1) shows) (info_of H no_tree)) numbers) face.kids
      (length-map numbers (behind k (drop (k + 1) shows) (info_of H no_tree)) ∙ long)
      (λ p d in-numbers.
      let in-kids : p < length face.kids = omega (arith, length-map numbers (behind k (drop (k + 1) shows) (info_of H no_tree)), long, in-numbers) in
      let r = ref_at refs k p in
      let number : get_or numbers p 0 ≡ r = get_or-take (length face.kids) (four k) p 0 in-kids in
      let later : k < r = bag.later k p in' in-kids in
      let there : r < length cells = bag.there k p in' in-kids in
      let long_shows : r < length shows = omega (arith, length-map cells (info_of_face H), there) in
      get_or-map (behind k (drop (k + 1) shows) (info_of H no_tree)) numbers p 0 d (omega (arith, long))
      ∙ ap (behind k (drop (k + 1) shows) (info_of H no_tree)) number
      ∙ behind-drop k shows (info_of H no_tree) (info_of_face H no_face) r later long_shows
      ∙ get_or-map (info_of_face H) cells r no_face (info_of_face H no_face) there
      ∙ sym (bag.shown k p in' in-kids)
      ∙ get_or_default face.kids p no_info d in-kids)

  -- the face of an entry, from the faces behind it
  faces-step : (k : ℕ) → k < length cells → drop (k + 1) cells ≡ faces_from H (k + 1) (drop (k + 1) entries) → drop k cells ≡ faces_from H k (drop k entries)
  faces-step k in' rest =
      let face = face_at cells k in
      let later = infos_from H (k + 1) (drop (k + 1) entries) in
      let same_later : later ≡ drop (k + 1) shows =
      infos_from-faces H (k + 1) (drop (k + 1) entries) ∙ ap (map (info_of_face H)) (sym rest) ∙ sym (drop-map (info_of_face H) (k + 1) cells)
      in
      let kids = ap (λ ks. map (behind k ks (info_of H no_tree)) (take (length face.kids) (four k))) same_later ∙ kids-at k in' in
      let here : face_of_entry H k (entry_of face (four k)) later ≡ face = ap (λ ks. record { exotic = face.exotic; bits = face.bits; kids = ks }) kids in
      let there : drop k entries ≡ entry_of face (four k) ∷ drop (k + 1) entries =
      drop_more entries k no_entry (omega (arith, length-entries_of cells refs bag.counted)) ∙ ap (λ e. e ∷ drop (k + 1) entries) (entry-at k no_entry in')
      in
      drop_more cells k no_face in'
      ∙ ap₂ (λ f fs. f ∷ fs) (sym here) rest
      ∙ sym (faces_from-cons H k (entry_of face (four k)) (drop (k + 1) entries))
      ∙ ap (faces_from H k) (sym there)

  faces-from : (m k : ℕ) → m + k ≡ length cells → drop k cells ≡ faces_from H k (drop k entries)
  faces-from zero k e =
      let none : drop k entries ≡ [] = drop_all k entries (omega (arith, length-entries_of cells refs bag.counted)) in
      drop_all k cells (omega arith) ∙ sym (faces_from-end H k) ∙ ap (faces_from H k) (sym none)
  faces-from (suc m) k e =
      faces-step k (omega arith) (faces-from m (k + 1) (omega arith))

  -- the cells of a bag are the faces of its entries
  pub bag-faces : cells ≡ faces_from H 0 entries
  bag-faces = faces-from (length cells) 0 (add-zero (length cells))

  pub face_of-bag : (k : ℕ) → face_of H (unfolding_of entries k) ≡ face_at cells k
  face_of-bag k =
      sym (get_or-mapped (face_of H) (unfold_from 0 entries) k no_tree)
      ∙ ap (λ fs. get_or fs k no_face) (sym (faces_from-is H 0 entries) ∙ sym bag-faces)

  pub info_of-bag : (k : ℕ) → info_of H (unfolding_of entries k) ≡ info_of_face H (face_at cells k)
  info_of-bag k = info_of-face_of H (unfolding_of entries k) ∙ ap (info_of_face H) (face_of-bag k)

  -- the children of an entry's cell are the cells of the entries that it names
  pub children-bag : (k : ℕ) → k < length cells → children (unfolding_of entries k) ≡ map (unfolding_of entries) (take (length (face_at cells k).kids) (four k))
  children-bag k in' =
      let face = face_at cells k in
      let all = unfold_from 0 entries in
      let numbers = take (length face.kids) (four k) in
      let long : length numbers ≡ length face.kids = length-take-le (length face.kids) (four k) (enough-bag k in') in
      let in-entries : k < length entries = omega (arith, length-entries_of cells refs bag.counted) in
      let tree = unfolding_of-is k entries no_entry in-entries ∙ ap (λ e. tree_of_entry k e (drop (k + 1) all)) (entry-at k no_entry in') in
      ap children tree
      ∙ list_of-trees_of (map (behind k (drop (k + 1) all) no_tree) numbers)
      ∙ same_lists (map (behind k (drop (k + 1) all) no_tree) numbers) (map (unfolding_of entries) numbers)
      (length-map numbers (behind k (drop (k + 1) all) no_tree) ∙ sym (length-map numbers (unfolding_of entries)))
      (λ p d in-mapped.
      let in-numbers : p < length numbers = omega (arith, length-map numbers (behind k (drop (k + 1) all) no_tree), in-mapped) in
      let in-kids : p < length face.kids = omega (arith, long, in-numbers) in
      let number : get_or numbers p 0 ≡ ref_at refs k p = get_or-take (length face.kids) (four k) p 0 in-kids in
      let later : k < get_or numbers p 0 = omega (arith, number, bag.later k p in' in-kids) in
      let there : get_or numbers p 0 < length all = omega (arith, number, bag.there k p in' in-kids, length-unfold_from 0 entries, length-entries_of cells refs bag.counted) in
      get_or-map (behind k (drop (k + 1) all) no_tree) numbers p 0 d in-numbers
      ∙ behind-drop k all no_tree no_tree (get_or numbers p 0) later there
      ∙ sym (get_or-map (unfolding_of entries) numbers p 0 d in-numbers))

  child-behind : (k : ℕ) (c : Tree) → k < length cells → Contains (children (unfolding_of entries k)) c → (r : ℕ) × (k < r) × (r < length cells) × (unfolding_of entries r ≡ c)
  child-behind k c in' h =
      let face = face_at cells k in
      let numbers = take (length face.kids) (four k) in
      let named = Contains-map (unfolding_of entries) numbers c (subst (λ cs. Contains cs c) (children-bag k in') h) in
      let r = named.0 in
      let p = named.1.0 in
      let in-kids : p < length face.kids = omega (arith, named.1.1, length-take-le (length face.kids) (four k) (enough-bag k in')) in
      let number : r ≡ ref_at refs k p =
      sym named.1.2 ∙ get_or_default numbers p r 0 named.1.1 ∙ get_or-take (length face.kids) (four k) p 0 in-kids
      in
      (r, omega (arith, number, bag.later k p in' in-kids), omega (arith, number, bag.there k p in' in-kids), named.2)

  -- every cell of an entry's tree is the cell of an entry
  subtree-entry : (m k : ℕ) (s : Tree) → k < length cells → length cells ≤ m + k → Contains (subtrees (unfolding_of entries k)) s → (j : ℕ) × (j < length cells) × (unfolding_of entries j ≡ s)
  subtree-entry zero k s in' fuel h = absurd (omega arith)
  subtree-entry (suc m) k s in' fuel h =
      ⊎_elim
      (λ same. (k, in', same))
      (λ below.
      let child = child-behind k below.0 in' below.1 in
      subtree-entry m child.0 s child.2 (omega (arith, child.1)) (subst (λ c. Contains (subtrees c) s) (sym child.3) below.2))
      (subtrees-cases (unfolding_of entries k) s h)

  pub subtree-bag : (k : ℕ) (s : Tree) → k < length cells → Contains (subtrees (unfolding_of entries k)) s → (j : ℕ) × (j < length cells) × (unfolding_of entries j ≡ s)
  subtree-bag k s in' h = subtree-entry (length cells) k s in' (omega arith) h

  well_formed-entry : (m k : ℕ) → k < length cells → length cells ≤ m + k → IsWellFormed H (unfolding_of entries k)
  well_formed-entry zero k in' fuel = absurd (omega arith)
  well_formed-entry (suc m) k in' fuel =
      IsWellFormed-from H (unfolding_of entries k) (subst IsGoodFace (sym (face_of-bag k)) (bag.good k in'))
      (λ c h.
      let child = child-behind k c in' h in
      subst (IsWellFormed H) child.3 (well_formed-entry m child.0 child.2 (omega (arith, child.1))))

  -- and they are well-formed
  pub well_formed-bag : (k : ℕ) → k < length cells → IsWellFormed H (unfolding_of entries k)
  well_formed-bag k in' = well_formed-entry (length cells) k in' (omega arith)

  -- trees of a bag's entries are free of clashes
  pub clash_free-bag : (ts : List Tree) → ((t : Tree) → Contains ts t → (k : ℕ) × (k < length cells) × (unfolding_of entries k ≡ t)) → AreClashFree H ts
  clash_free-bag ts entry a b in-a in-b rep =
      let from : (s : Tree) → Contains (flat_map subtrees ts) s → (j : ℕ) × (j < length cells) × (unfolding_of entries j ≡ s) =
      λ s h.
      let found = flat_map-cases ts s h in
      let place = entry found.0 found.1 in
      subtree-bag place.0 s place.1 (subst (λ t. Contains (subtrees t) s) (sym place.2) found.2)
      in
      let x = from a in-a in
      let y = from b in-b in
      let rep_x : rep_of_face H (face_at cells x.0) ≡ rep_of H a = sym (ap rep_of_info (info_of-bag x.0)) ∙ ap (rep_of H) x.2 in
      let rep_y : rep_of_face H (face_at cells y.0) ≡ rep_of H b = sym (ap rep_of_info (info_of-bag y.0)) ∙ ap (rep_of H) y.2 in
      let faces = bag.clear x.0 y.0 x.1 y.1 (rep_x ∙ rep ∙ sym rep_y) in
      ap (face_of H) (sym x.2) ∙ face_of-bag x.0 ∙ faces ∙ sym (face_of-bag y.0) ∙ ap (face_of H) y.2

  -- entries of one rep are one cell
  pub same-bag : (a b : ℕ) → a < length cells → b < length cells → rep_of H (unfolding_of entries a) ≡ rep_of H (unfolding_of entries b) → unfolding_of entries a ≡ unfolding_of entries b
  same-bag a b in-a in-b rep =
      let x = unfolding_of entries a in
      let y = unfolding_of entries b in
      let both = x ∷ y ∷ [] in
      let entry : (t : Tree) → Contains both t → (k : ℕ) × (k < length cells) × (unfolding_of entries k ≡ t) =
      λ t h.
      ⊎_elim
      (λ same. (a, in-a, same))
      (λ later. ⊎_elim (λ same. (b, in-b, same)) (λ none. absurd (Contains-nil t none)) (Contains-cases y [] t later))
      (Contains-cases x (y ∷ []) t h)
      in
      same_subtrees H both (clash_free-bag both entry) x y
      (flat_map-listed both x x (Contains-first x (y ∷ [])) (subtree-itself x))
      (flat_map-listed both y y (Contains-later x (y ∷ []) y (Contains-first y [])) (subtree-itself y))
      rep

  -- a test of two faces tells whether their entries are one cell, and whether their reps are equal
  pub told-bag : (a b : ℕ) (f e : FaceView) (told : Bool) → a < length cells → b < length cells → face_of H (unfolding_of entries a) ≡ f → face_of H (unfolding_of entries b) ≡ e → IsTrue told ↔ (f ≡ e) → (IsTrue told ↔ (unfolding_of entries a ≡ unfolding_of entries b)) × (IsTrue told ↔ (rep_of H (unfolding_of entries a) ≡ rep_of H (unfolding_of entries b)))
  told-bag a b f e told in-a in-b of-a of-b test =
      let x = unfolding_of entries a in
      let y = unfolding_of entries b in
      let reps : IsTrue told → rep_of H x ≡ rep_of H y =
      λ h. ap rep_of_info (info_of-face_of H x ∙ ap (info_of_face H) (of-a ∙ test.0 h ∙ sym of-b) ∙ sym (info_of-face_of H y))
      in
      let true_at : x ≡ y → IsTrue told = λ same. test.1 (sym of-a ∙ ap (face_of H) same ∙ of-b) in
      ((λ h. same-bag a b in-a in-b (reps h), true_at), (reps, λ rep. true_at (same-bag a b in-a in-b rep)))

  -- the numbers of an entry's children are those of entries behind it
  pub behind-bag : (k : ℕ) → k < length cells → All (λ r. (k < r) × (r < length cells)) (take (length (face_at cells k).kids) (four k))
  behind-bag k in' =
      let face = face_at cells k in
      let numbers = take (length face.kids) (four k) in
      λ p d in-numbers.
      let in-kids : p < length face.kids = omega (arith, in-numbers, length-take-le (length face.kids) (four k) (enough-bag k in')) in
      let number : get_or numbers p d ≡ ref_at refs k p = get_or_default numbers p d 0 in-numbers ∙ get_or-take (length face.kids) (four k) p 0 in-kids in
      (omega (arith, number, bag.later k p in' in-kids), omega (arith, number, bag.there k p in' in-kids))

  -- the cells of an entry's children are lower
  pub lower-bag : (k : ℕ) → k < length cells → All (λ r. height_of H (unfolding_of entries r) < height_of H (unfolding_of entries k)) (take (length (face_at cells k).kids) (four k))
  lower-bag k in' =
      let numbers = take (length (face_at cells k).kids) (four k) in
      λ p d in-numbers.
      let r = get_or numbers p d in
      let child = subst (λ cs. Contains cs (unfolding_of entries r)) (sym (children-bag k in')) (Contains-mapped (unfolding_of entries) numbers r (Contains-get_or numbers p d in-numbers)) in
      height_of-child H (unfolding_of entries k) (unfolding_of entries r) (well_formed-bag k in') child

  root-entry : (t : Tree) → Contains (root_trees cells refs roots) t → (k : ℕ) × (k < length cells) × (unfolding_of entries k ≡ t)
  root-entry t h =
      let named = Contains-map (unfolding_of entries) roots t h in
      let place = named.1 in
      let number : slice_index roots place.0 ≡ named.0 = get_or_default roots place.0 0 named.0 place.1 ∙ place.2 in
      (named.0, omega (arith, number, bag.rooted place.0 place.1), named.2)

  -- the trees of the roots are well-formed and free of clashes
  pub well_formed-bag_trees : (t : Tree) → Contains (root_trees cells refs roots) t → IsWellFormed H t
  well_formed-bag_trees t h = let entry = root-entry t h in subst (IsWellFormed H) entry.2 (well_formed-bag entry.0 entry.1)

  pub clash_free-bag_trees : AreClashFree H (root_trees cells refs roots)
  clash_free-bag_trees = clash_free-bag (root_trees cells refs roots) root-entry

-- ---- from filled lists

module _ (H : List ℕ → Hash256) (es : List Entry) (cells : List FaceView) (filled : cells ≡ faces_from H 0 es) (later : AreLater es) where
  -- the face of an entry has its kids looked up among what all entries show
  face-filled : (k : ℕ) (d : Entry) → k < length es → face_at cells k ≡ face_of_entry H k (get_or es k d) (drop (k + 1) (infos_from H 0 es))
  face-filled k d in' = ap (λ fs. get_or fs k no_face) filled ∙ faces_from-at H k es d no_face in'

  pub kids-filled : (k : ℕ) (d : Entry) → k < length es → length (face_at cells k).kids ≡ length (get_or es k d).refs
  kids-filled k d in' =
      ap (λ f. length f.kids) (face-filled k d in') ∙ length-map (get_or es k d).refs (behind k (drop (k + 1) (infos_from H 0 es)) (info_of H no_tree))

  -- a kid of a filled face is what the entry of its number shows
  pub shown-filled : (k p : ℕ) (d : Entry) → k < length es → p < length (get_or es k d).refs → kid_at (face_at cells k) p ≡ info_of_face H (face_at cells (slice_index (get_or es k d).refs p))
  shown-filled k p d in' in-refs =
      let refs = (get_or es k d).refs in
      let infos = infos_from H 0 es in
      let r = get_or refs p 0 in
      let range = later k p d in' in-refs in
      let long : r < length infos = omega (arith, range.1, length-infos_from H 0 es) in
      ap (λ f. kid_at f p) (face-filled k d in')
      ∙ get_or-map (behind k (drop (k + 1) infos) (info_of H no_tree)) refs p 0 no_info in-refs
      ∙ behind-drop k infos (info_of H no_tree) (info_of_face H no_face) r range.0 long
      ∙ ap (λ ks. get_or ks r (info_of_face H no_face)) (infos_from-faces H 0 es ∙ ap (map (info_of_face H)) (sym filled))
      ∙ get_or-mapped (info_of_face H) cells r no_face

  length-filled : length cells ≡ length es
  length-filled = ap length filled ∙ length-faces_from H 0 es

  module _ (refs : List (List ℕ)) (named : entries_of cells refs ≡ es) (counted : length refs ≡ length cells) where
    entry-filled : (k : ℕ) (d : Entry) → k < length cells → get_or es k d ≡ entry_of (face_at cells k) (get_or refs k [])
    entry-filled k d in' = ap (λ xs. get_or xs k d) (sym named) ∙ get_or-entries_of cells refs k d in' (omega (arith, counted))

    -- the number of a kid, as the four numbers have it
    number-filled : (k p : ℕ) → k < length cells → p < length (face_at cells k).kids → (p < length (get_or es k no_entry).refs) × (slice_index (get_or es k no_entry).refs p ≡ ref_at refs k p)
    number-filled k p in' in-kids =
        let in-es : k < length es = omega (arith, length-filled) in
        let in-refs : p < length (get_or es k no_entry).refs = omega (arith, kids-filled k no_entry in-es) in (
          in-refs,
          ap (λ e. slice_index e.refs p) (entry-filled k no_entry in') ∙ get_or-take (length (face_at cells k).kids) (get_or refs k []) p 0 in-kids,
        )

    -- filled faces of entries whose children stand behind them make a bag
    pub IsBag-filled : (roots : List ℕ) → ((k : ℕ) → k < length cells → IsGoodFace (face_at cells k)) → ((i j : ℕ) → i < length cells → j < length cells → rep_of_face H (face_at cells i) ≡ rep_of_face H (face_at cells j) → face_at cells i ≡ face_at cells j) → ((p : ℕ) → p < length roots → slice_index roots p < length cells) → IsBag H cells refs roots
    IsBag-filled roots good clear rooted =
        record {
          counted = counted;
          good = good;
          later =
              λ k p in' in-kids.
              let number = number-filled k p in' in-kids in
              omega (arith, number.1, (later k p no_entry (omega (arith, length-filled)) number.0).0);
          there =
              λ k p in' in-kids.
              let number = number-filled k p in' in-kids in
              omega (arith, length-filled, number.1, (later k p no_entry (omega (arith, length-filled)) number.0).1);
          shown =
              λ k p in' in-kids.
              let number = number-filled k p in' in-kids in
              shown-filled k p no_entry (omega (arith, length-filled)) number.0 ∙ ap (λ r. info_of_face H (face_at cells r)) number.1;
          clear = clear;
          rooted = rooted;
        }

-- Laws of old states: cells found by their hashes, and the faces that stand beside the wanted ones.
use Rattle.std.proofs.Common.{◌≡◌, ℕ, ◌<◌, Bool, true, false, true≢false, ◌||◌, if◌then◌else◌, List, [], ◌∷◌, ◌++◌, ◌+◌, length, get_or, map, take, Contains, Option, Some, None, refl, ap, sym, ◌∙◌, subst, ⊎_elim, arith}
use Rattle.std.specs.Prelude.{find}
use Rattle.std.specs.Option.{option_map}
use Rattle.std.specs.List.{list_any}
use Rattle.std.proofs.lemmas.List.{take_more, map-append, get_or_default, get_or-map, length-map, length-take}
use Rattle.std.proofs.lemmas.List.Elements.{Contains-append_left, Contains-append_right}
use Rattle.cd_base.specs.declared.hash.Hash256.{Hash256}
use Rattle.cd_cell.specs.declared.index.Index.{Index}
use Rattle.cd_cell.specs.declared.info.ChildInfo.{ChildInfo}
use Rattle.cd_cell.specs.declared.new_cell.NewCell.{NewCell}
use Rattle.cd_cell.specs.FaceView.{FaceView}
use Rattle.cd_cell.specs.PreparedView.{PreparedView}
use Rattle.cd_cell.specs.Infos.{no_hash}
use Rattle.cd_cell.specs.GoodFace.{IsGoodFace}
use Rattle.cd_cell.specs.Tree.{Tree, cell, Trees, no_trees, tree_and, subtrees, subtrees_of_all, info_of, face_of, rep_of, IsWellFormed, AreWellFormed}
use Rattle.cd_cell.specs.Equality.{same_hash, same_hash-Decides}
use Rattle.cd_cell.specs.Bags.{root_trees, IsBag}
use Rattle.cd_cell.specs.Export.{distinct_cells, AreClashFree, IsClashFree}
use Rattle.cd_cell.specs.Listings.{no_cell, new_cell_of, listed_at, IsValid}
use Rattle.cd_cell.proofs.Subtrees.{Contains-first, Contains-later, Contains-cases, Contains-nil, Contains-map, Contains-mapped, well_formed-subtree, length-infos_of, IsGoodFace-face_of, flat_map-listed, subtree-itself}
use Rattle.cd_cell.proofs.BagLaws.{well_formed-bag_trees, clash_free-bag_trees}
use Rattle.cd_cell.proofs.ExportOrder.{AreDistinct-distinct_cells, Contains-distinct_cells}
use Rattle.cd_update.specs.Pairing.{beside, wanted_hashes, AreOf}
use Rattle.cd_cell.specs.Indexes.{IsIndex}
use Rattle.cd_prepare.specs.States.{IsWhole}
use Rattle.inspect_updates.specs.OldStates.{face_in, IsIndexed, state_of, IsState}

-- ---- cells found by their hashes

-- where all listed cells of a hash have one face, and there is one, this face is found
pub face_in-Some : (cells : List NewCell) (hash : Hash256) (face : FaceView) → ((c : NewCell) → Contains cells c → c.hash ≡ hash → c.face ≡ face) → (c : NewCell) → Contains cells c → c.hash ≡ hash → face_in cells hash ≡ Some face
face_in-Some [] hash face all c h is = absurd (Contains-nil c h)
face_in-Some (x ∷ xs) hash face all c h is = go (same_hash hash x.hash) refl (λ later. face_in-Some xs hash face (λ d in'. all d (Contains-later x xs d in')) c later is)
  where
    go : (b : Bool) → same_hash hash x.hash ≡ b → (Contains xs c → face_in xs hash ≡ Some face) → option_map (λ (c : NewCell). c.face) (if b then Some x else find (λ (c : NewCell). same_hash hash c.hash) xs) ≡ Some face
    go true e behind = ap Some (all x (Contains-first x xs) (sym ((same_hash-Decides hash x.hash).0 e)))
    go false e behind =
        ⊎_elim
        (λ same. absurd (true≢false (sym ((same_hash-Decides hash x.hash).1 (sym is ∙ ap (λ (d : NewCell). d.hash) (sym same))) ∙ e)))
        behind
        (Contains-cases x xs c h)

pub face_in-None : (cells : List NewCell) (hash : Hash256) → list_any (same_hash hash) (map (λ (c : NewCell). c.hash) cells) ≡ false → face_in cells hash ≡ None
face_in-None [] hash none = refl
face_in-None (x ∷ xs) hash none = go (same_hash hash x.hash) none (λ e. face_in-None xs hash e)
  where
    go : (b : Bool) → (b || list_any (same_hash hash) (map (λ (c : NewCell). c.hash) xs)) ≡ false → (list_any (same_hash hash) (map (λ (c : NewCell). c.hash) xs) ≡ false → face_in xs hash ≡ None) → option_map (λ (c : NewCell). c.face) (if b then Some x else find (λ (c : NewCell). same_hash hash c.hash) xs) ≡ None
    go true e behind = absurd (true≢false e)
    go false e behind = behind e

-- beside a hash stands what was looked up for it
pub beside-mapped : (look : Hash256 → Option FaceView) (hashes : List Hash256) (hash : Hash256) → Contains hashes hash → beside hashes (map look hashes) hash ≡ look hash
beside-mapped look [] hash h = absurd (Contains-nil hash h)
beside-mapped look (w ∷ ws) hash h = go (same_hash w hash) refl (λ later. beside-mapped look ws hash later)
  where
    go : (b : Bool) → same_hash w hash ≡ b → (Contains ws hash → beside ws (map look ws) hash ≡ look hash) → (if b then look w else beside ws (map look ws) hash) ≡ look hash
    go true e behind = ap look ((same_hash-Decides w hash).0 e)
    go false e behind =
        ⊎_elim
        (λ same. absurd (true≢false (sym ((same_hash-Decides w hash).1 same) ∙ e)))
        behind
        (Contains-cases w ws hash h)

-- the face of a valid value's cell in a place is found by its hash
pub face_in-place : (H : List ℕ → Hash256) (root : ChildInfo) (cells : List NewCell) → IsValid H root cells → (place : ℕ) (hash : Hash256) → place < length cells → (listed_at cells place).hash ≡ hash → face_in cells hash ≡ Some (listed_at cells place).face
face_in-place H root cells valid place hash in' is =
    face_in-Some cells hash (listed_at cells place).face
    (λ c h same.
    let at : listed_at cells h.0 ≡ c = get_or_default cells h.0 no_cell c h.1 ∙ h.2 in
    let one : h.0 ≡ place = valid.distinct h.0 place h.1 in' (ap (λ (d : NewCell). d.hash) at ∙ same ∙ sym is) in
    ap (λ (d : NewCell). d.face) (sym at ∙ ap (listed_at cells) one))
    (listed_at cells place)
    (place, in', get_or_default cells place (listed_at cells place) no_cell in')
    is

-- what an index has is the place of a listed cell
pub found-place : (cells : List NewCell) (hash : Hash256) (place : ℕ)
    → (place < length (map (λ (c : NewCell). c.hash) cells)) × (get_or (map (λ (c : NewCell). c.hash) cells) place no_hash ≡ hash)
    → (place < length cells) × ((listed_at cells place).hash ≡ hash)
found-place cells hash place at =
    let in' : place < length cells = omega (arith, at.0, length-map cells (λ (c : NewCell). c.hash)) in
    (in', sym (get_or-map (λ (c : NewCell). c.hash) cells place no_cell no_hash in') ∙ at.1)

-- one cell more, which stands behind the others
pub IsIndexed-more : (old new : Index) (cells : List NewCell) (place : ℕ) (next : NewCell) → next ≡ get_or cells place next → place < length cells
    → ((keys : List Hash256) → IsIndex old keys → place ≡ length keys → IsIndex new (keys ++ next.hash ∷ []))
    → IsIndexed old (take place cells) → IsIndexed new (take (place + 1) cells)
IsIndexed-more old new cells place next is in' pushed index =
    let hash : NewCell → Hash256 = λ c. c.hash in
    let more : map hash (take place cells) ++ next.hash ∷ [] ≡ map hash (take (place + 1) cells) =
    sym (map-append hash (take place cells) (next ∷ [])) ∙ ap (λ c. map hash (take place cells ++ c ∷ [])) is ∙ ap (map hash) (sym (take_more cells place next in'))
    in
    let count : place ≡ length (map hash (take place cells)) = simp (length-map, length-take) (omega arith) in
    subst (IsIndex new) more (pushed (map hash (take place cells)) index count)

-- ---- a state

module _ (H : List ℕ → Hash256) where
  mutual
    pub well_formed-good : (t : Tree) → ((s : Tree) → Contains (subtrees t) s → IsGoodFace (face_of H s)) → IsWellFormed H t
    well_formed-good (cell exotic bits ts) good =
        let here = good (cell exotic bits ts) (subtree-itself (cell exotic bits ts)) in
        (here.bits, omega (arith, here.kids, length-infos_of H ts), here.fit, well_formed-all ts (λ s h. good s (Contains-later (cell exotic bits ts) (subtrees_of_all ts) s h)))

    well_formed-all : (ts : Trees) → ((s : Tree) → Contains (subtrees_of_all ts) s → IsGoodFace (face_of H s)) → AreWellFormed H ts
    well_formed-all no_trees good = tt
    well_formed-all (tree_and t ts) good =
        (well_formed-good t (λ s h. good s (Contains-append_left (subtrees t) (subtrees_of_all ts) s h)), well_formed-all ts (λ s h. good s (Contains-append_right (subtrees t) (subtrees_of_all ts) s h)))

  -- all cells of a bag's one tree are a state
  pub IsState-whole : (cells : List FaceView) (refs : List (List ℕ)) (roots : List ℕ) → IsBag H cells refs roots → (t : Tree) → root_trees cells refs roots ≡ t ∷ [] → (value : PreparedView) → IsWhole H t value.root value.cells → IsState H value
  IsState-whole cells refs roots bag t only value whole =
      let is : t ≡ state_of H value = sym whole.stands in
      let well : IsWellFormed H t = well_formed-bag_trees H cells refs roots bag t (subst (λ ts. Contains ts t) (sym only) (Contains-first t [])) in
      let clear : IsClashFree H t = subst (AreClashFree H) only (clash_free-bag_trees H cells refs roots bag) in
      record {
        good = subst (λ x. (s : Tree) → Contains (subtrees x) s → IsGoodFace (face_of H s)) is (λ s h. IsGoodFace-face_of H s (well_formed-subtree H t s well h));
        clear = subst (IsClashFree H) is clear;
        top = whole.root_is ∙ ap (info_of H) is;
        all = whole.cells_are ∙ ap (λ x. map (new_cell_of H) (distinct_cells H x)) is;
      }

  module _ (value : PreparedView) (state : IsState H value) where
    abbrev t : Tree
    t = state_of H value

    abbrev cells : List NewCell
    cells = value.cells

    -- each cell of the state is found by its hash
    pub face_in-subtree : (s : Tree) → Contains (subtrees t) s → face_in cells (rep_of H s) ≡ Some (face_of H s)
    face_in-subtree s sub =
        face_in-Some cells (rep_of H s) (face_of H s)
        (λ c h same.
        let from = Contains-map (new_cell_of H) (distinct_cells H t) c (subst (λ cs. Contains cs c) state.all h) in
        let below = (AreDistinct-distinct_cells H t).within from.0 from.1 in
        let reps : rep_of H from.0 ≡ rep_of H s = ap (λ (d : NewCell). d.hash) from.2 ∙ same in
        sym (ap (λ (d : NewCell). d.face) from.2)
        ∙ state.clear from.0 s (flat_map-listed (t ∷ []) t from.0 (Contains-first t []) below) (flat_map-listed (t ∷ []) t s (Contains-first t []) sub) reps)
        (new_cell_of H s)
        (subst (λ cs. Contains cs (new_cell_of H s)) (sym state.all) (Contains-mapped (new_cell_of H) (distinct_cells H t) s (Contains-distinct_cells H t state.clear s sub)))
        refl

    -- the faces that are found for the wanted hashes are those of the state
    pub AreOf-state : value.root.mask ≡ 0 → (u : Tree) (faces : List (Option FaceView)) → faces ≡ map (face_in cells) (wanted_hashes H u) → AreOf H t u value.root faces
    AreOf-state plain u faces are = record {
      well = well_formed-good t state.good;
      clear = state.clear;
      plain = ap (λ (i : ChildInfo). i.mask) (sym state.top) ∙ plain;
      top = state.top;
      found = λ s sub wanted.
          ap (λ fs. beside (wanted_hashes H u) fs (rep_of H s)) are ∙ beside-mapped (face_in cells) (wanted_hashes H u) (rep_of H s) wanted ∙ face_in-subtree s sub;
    }

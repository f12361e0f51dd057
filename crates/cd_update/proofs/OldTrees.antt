-- Pairing against an old tree: the faces beside the wanted hashes are those of the cells that the half meets.
use Rattle.std.proofs.Common.{◌≡◌, ℕ, ◌/◌, ◌<◌, ◌≤◌, List, [], ◌∷◌, ◌++◌, length, get_or, drop, map, flat_map, Contains, Bool, true, false, true≢false, Option, Some, None, refl, ap, ap₂, sym, ◌∙◌, subst, le_refl, arith, eqb-true}
use Rattle.std.specs.Prelude.{if◌then◌else◌, ◌==◌}
use Rattle.std.specs.Option.{option_or, option_map}
use Rattle.std.specs.Cmp.Lexicographic.{pointwise}
use Rattle.std.proofs.lemmas.Bool.{and_parts}
use Rattle.std.proofs.lemmas.List.{map-append, length-map, get_or-map}
use Rattle.std.proofs.lemmas.List.Elements.{Contains-append_left, Contains-append_right}
use Rattle.cd_base.specs.declared.hash.Hash256.{Hash256}
use Rattle.cd_cell.specs.declared.info.ChildInfo.{ChildInfo}
use Rattle.cd_cell.specs.declared.kind.Kind.TheVariants.{Update}
use Rattle.cd_cell.specs.BitText.{data_of}
use Rattle.cd_cell.specs.Infos.{info_hash, info_depth, all_masks}
use Rattle.cd_cell.specs.FaceView.{FaceView}
use Rattle.cd_cell.specs.Levels.{kind_of_face, mask_by_kind, is_merkle, kid_level, stated_hash}
use Rattle.cd_cell.specs.CellFaults.{kid_at, no_info, stated_depth_of_kid}
use Rattle.cd_cell.specs.Tree.{mask_of, Tree, cell, Trees, no_trees, tree_and, children, subtrees, info_of, infos_of, face_of, kind_of, hash_at, depth_at, rep_of, IsWellFormed}
use Rattle.cd_cell.specs.Unfolding.{no_tree}
use Rattle.cd_cell.specs.Equality.{same_hash, same_hash-Decides}
use Rattle.cd_cell.specs.Updates.{matches, Matches, agrees, is_hidden, Unless, Misfit, UpdateRefusal, some_unless, old_half, half_of, hash_refusal, depth_refusal, half_refusal, wanted, wanted_of_all, Shows, ShowAll, misfit, misfit_of_all, known_cells, known_of_all}
use Rattle.cd_cell.proofs.Subtrees.{Contains-first, Contains-later, subtree-itself, subtrees-child, kids-face_of, info_of-face_of, IsGoodFace-face_of}
use Rattle.cd_cell.proofs.Grafting.{joined-bound}
use Rattle.cd_cell.proofs.LevelRecursions.{level_below-low}
use Rattle.cd_cell.proofs.Heights.{IsSteady-info_of}
use Rattle.cd_cell.proofs.Showing.{matches-Decides, Shows-from_misfit}
use Rattle.cd_cell.proofs.Wanted.{same_kind, IsOld, rep-flat, old-children}
use Rattle.cd_update.specs.EachOnce.{first_of}
use Rattle.cd_cell.specs.Places.{Place, places, places_of_all}
use Rattle.cd_update.specs.Pairing.{upto, unlike, known_at, misfit_at, first_misfit, beside, wanted_at, wanted_hashes, wanted_hashes_below, root_refusal, half_root_refusal, pair_refusal, tree_refusal, AreOf}
use Rattle.cd_update.specs.PairingBelow.{misfit_under, refusal_below, AreBelow}
use Rattle.cd_update.proofs.EachOnceLaws.{first_of-append, flat_map-append, Contains-flat_map, Contains-each_once, or_assoc}
use Rattle.cd_update.proofs.PlaceLaws.{wanted-places_of_all}
use Rattle.cd_update.proofs.OldInfos.{whole-info_of, matched}

module _ (H : List ℕ → Hash256) where
  info-old : (o t : Tree) (d : ℕ) → d ≤ 3 → IsOld H d t → Matches d (info_of H t) (info_of H o) → upto d (info_of H o) ≡ info_of H t
  info-old o t d top old same = sym (matched (info_of H t) (info_of H o) d top (whole-info_of H t old.well) (IsSteady-info_of H t old.well) old.small same)

  -- what matches of the children follows from faces that agree
  kids-matching : (d : ℕ) (exotic : Bool) (bits : List Bool) (os : Trees) (t : Tree) → agrees d (face_of H t) (face_of H (cell exotic bits os)) ≡ true → pointwise (matches (kid_level (face_of H (cell exotic bits os)) d)) (map (info_of H) (children t)) (infos_of H os) ≡ true
  kids-matching d exotic bits os t agree =
      subst (λ ks. pointwise (matches (kid_level (face_of H (cell exotic bits os)) d)) ks (infos_of H os) ≡ true) (kids-face_of H t) (and_parts _ _ agree).1

  -- ---- the known cells

  known-step : (hidden agree : Bool) (k : ChildInfo) (ks : List ChildInfo) (ps : List Place) (t : Tree) (ts : List Tree) (P : Type 0) → Unless hidden ((agree ≡ true) × P) → k ≡ info_of H t → (agree ≡ true → P → flat_map (known_at H) ps ≡ map (info_of H) ts) → k ∷ flat_map (known_at H) (if hidden then [] else ps) ≡ map (info_of H) (t ∷ (if hidden then [] else ts))
  known-step true agree k ks ps t ts P shows e f = ap (λ x. x ∷ []) e
  known-step false agree k ks ps t ts P shows e f = ap₂ (λ x xs. x ∷ xs) e (f shows.0 shows.1)

  mutual
    pub known-are : (o t : Tree) (d : ℕ) → d ≤ 3 → IsOld H d t → Matches d (info_of H t) (info_of H o) → Shows H o t d → flat_map (known_at H) (places H o d) ≡ map (info_of H) (known_cells H o t d)
    known-are (cell exotic bits os) t d top old same shows =
        let o = cell exotic bits os in
        let shown = face_of H o in
        let kd = kid_level shown d in
        known-step (is_hidden d shown) (agrees d (face_of H t) shown) (upto d (info_of H o)) [] (places_of_all H os kd) t (known_of_all H os (children t) kd) (ShowAll H os (children t) kd) shows
        (info-old o t d top old same)
        (λ agree all.
        known-of_all os (children t) kd (level_below-low (is_merkle (kind_of_face shown)) d top)
        (λ c in'. subst (λ l. IsOld H l c) (same_kind d (face_of H t) shown agree) (old-children H t d top old c in'))
        (kids-matching d exotic bits os t agree) all)

    known-of_all : (os : Trees) (ts : List Tree) (d : ℕ) → d ≤ 3 → ((c : Tree) → Contains ts c → IsOld H d c) → pointwise (matches d) (map (info_of H) ts) (infos_of H os) ≡ true → ShowAll H os ts d → flat_map (known_at H) (places_of_all H os d) ≡ map (info_of H) (known_of_all H os ts d)
    known-of_all no_trees ts d top old pairs all = refl
    known-of_all (tree_and o os) [] d top old pairs all = absurd all
    known-of_all (tree_and o os) (t ∷ ts) d top old pairs all =
        let both = and_parts (matches d (info_of H t) (info_of H o)) (pointwise (matches d) (map (info_of H) ts) (infos_of H os)) pairs in
        flat_map-append (known_at H) (places H o d) (places_of_all H os d)
        ∙ ap₂ (λ xs ys. xs ++ ys)
        (known-are o t d top (old t (Contains-first t ts)) ((matches-Decides d (info_of H t) (info_of H o)).0 both.0) all.0)
        (known-of_all os ts d top (λ c in'. old c (Contains-later t ts c in')) both.1 all.1)
        ∙ sym (map-append (info_of H) (known_cells H o t d) (known_of_all H os ts d))

  -- ---- the first misfit

  -- ws are hashes whose faces are found where they are the reps of cells of the pool
  module _ (look : Hash256 → Option FaceView) (ws : List Hash256) (pool : List Tree) (found : (s : Tree) → Contains pool s → Contains ws (rep_of H s) → look (rep_of H s) ≡ Some (face_of H s)) where
    misfit-step : (hidden : Bool) (given : Option FaceView) (stored shown : FaceView) (d : ℕ) (hash : Hash256) (ps : List Place) (rest : Option Misfit) → (hidden ≡ false → given ≡ Some stored) → (hidden ≡ false → agrees d stored shown ≡ true → first_of (misfit_at H look) ps ≡ rest) → option_or (if hidden then None else unlike d hash given shown) (first_of (misfit_at H look) (if hidden then [] else ps)) ≡ (if hidden then None else if agrees d stored shown then rest else Some (record { hash = hash; stored = stored; shown = shown }))
    misfit-step true given stored shown d hash ps rest is later = refl
    misfit-step false given stored shown d hash ps rest is later =
        ap (λ o. option_or (unlike d hash o shown) (first_of (misfit_at H look) ps)) (is refl) ∙ go (agrees d stored shown) refl
      where
        go : (agree : Bool) → agrees d stored shown ≡ agree → option_or (some_unless agree (record { hash = hash; stored = stored; shown = shown })) (first_of (misfit_at H look) ps) ≡ (if agree then rest else Some (record { hash = hash; stored = stored; shown = shown }))
        go true e = later refl e
        go false e = refl

    wanted_if : (hidden : Bool) (hash : Hash256) (hashes : List Hash256) → hidden ≡ false → ((h : Hash256) → Contains (if hidden then [] else hash ∷ hashes) h → Contains ws h) → (h : Hash256) → Contains (hash ∷ hashes) h → Contains ws h
    wanted_if true hash hashes e within h in' = absurd (true≢false e)
    wanted_if false hash hashes e within h in' = within h in'

    mutual
      misfit-is : (o t : Tree) (d : ℕ) → d ≤ 3 → IsOld H d t → Matches d (info_of H t) (info_of H o) → ((s : Tree) → Contains (subtrees t) s → Contains pool s) → ((h : Hash256) → Contains (wanted H o d) h → Contains ws h) → first_of (misfit_at H look) (places H o d) ≡ misfit H o t d
      misfit-is (cell exotic bits os) t d top old same below within =
          let o = cell exotic bits os in
          let shown = face_of H o in
          let kd = kid_level shown d in
          let hidden = is_hidden d shown in
          let rep : hash_at H o d ≡ rep_of H t = sym (same.hashes d (le_refl d)) ∙ rep-flat H t d top old in
          misfit-step hidden (look (hash_at H o d)) (face_of H t) shown d (hash_at H o d) (places_of_all H os kd) (misfit_of_all H os (children t) kd)
          (λ e.
          let in' = wanted_if hidden (hash_at H o d) (wanted_of_all H os kd) e within (hash_at H o d) (Contains-first (hash_at H o d) (wanted_of_all H os kd)) in
          ap look rep ∙ found t (below t (subtree-itself t)) (subst (Contains ws) rep in'))
          (λ e agree.
          misfit-of_all os (children t) kd (level_below-low (is_merkle (kind_of_face shown)) d top)
          (λ c in'. subst (λ l. IsOld H l c) (same_kind d (face_of H t) shown agree) (old-children H t d top old c in'))
          (kids-matching d exotic bits os t agree)
          (λ c s in' sub. below s (subtrees-child t c s in' sub))
          (λ h in'. wanted_if hidden (hash_at H o d) (wanted_of_all H os kd) e within h (Contains-later (hash_at H o d) (wanted_of_all H os kd) h in')))

      misfit-of_all : (os : Trees) (ts : List Tree) (d : ℕ) → d ≤ 3 → ((c : Tree) → Contains ts c → IsOld H d c) → pointwise (matches d) (map (info_of H) ts) (infos_of H os) ≡ true → ((c s : Tree) → Contains ts c → Contains (subtrees c) s → Contains pool s) → ((h : Hash256) → Contains (wanted_of_all H os d) h → Contains ws h) → first_of (misfit_at H look) (places_of_all H os d) ≡ misfit_of_all H os ts d
      misfit-of_all no_trees ts d top old pairs below within = refl
      misfit-of_all (tree_and o os) [] d top old pairs below within = absurd (true≢false (sym pairs))
      misfit-of_all (tree_and o os) (t ∷ ts) d top old pairs below within =
          let both = and_parts (matches d (info_of H t) (info_of H o)) (pointwise (matches d) (map (info_of H) ts) (infos_of H os)) pairs in
          first_of-append (misfit_at H look) (places H o d) (places_of_all H os d)
          ∙ ap₂ option_or
          (misfit-is o t d top (old t (Contains-first t ts)) ((matches-Decides d (info_of H t) (info_of H o)).0 both.0)
          (λ s in'. below t s (Contains-first t ts) in')
          (λ h in'. within h (Contains-append_left (wanted H o d) (wanted_of_all H os d) h in')))
          (misfit-of_all os ts d top (λ c in'. old c (Contains-later t ts c in')) both.1
          (λ c s in' sub. below c s (Contains-later t ts c in') sub)
          (λ h in'. within h (Contains-append_right (wanted H o d) (wanted_of_all H os d) h in')))

  -- the same below a root whose face is given: the pool has the cells below it
  module _ (top : FaceView) (look : Hash256 → Option FaceView) (ws : List Hash256) (t : Tree) (found : (s : Tree) → Contains (flat_map subtrees (children t)) s → Contains ws (rep_of H s) → look (rep_of H s) ≡ Some (face_of H s)) where
    misfit-under : (o : Tree) → IsOld H 0 t → top ≡ face_of H t → ((h : Hash256) → Contains (flat_map (wanted_at H) (drop 1 (places H o 0))) h → Contains ws h) → misfit_under H top look o ≡ misfit H o t 0
    misfit-under (cell exotic bits os) old face within =
        let o = cell exotic bits os in
        let shown = face_of H o in
        let kd = kid_level shown 0 in
        let hidden = is_hidden 0 shown in
        let pool = flat_map subtrees (children t) in
        misfit-step look ws pool found hidden (Some top) (face_of H t) shown 0 (hash_at H o 0) (places_of_all H os kd) (misfit_of_all H os (children t) kd) (λ e. ap Some face)
        (λ e agree.
        misfit-of_all look ws pool found os (children t) kd (level_below-low (is_merkle (kind_of_face shown)) 0 (omega arith))
        (λ c in'. subst (λ l. IsOld H l c) (same_kind 0 (face_of H t) shown agree) (old-children H t 0 (omega arith) old c in'))
        (kids-matching 0 exotic bits os t agree)
        (λ c s in' sub. Contains-flat_map subtrees (children t) c s in' sub)
        (λ h in'.
        within h
        (subst (λ b. Contains (flat_map (wanted_at H) (if b then [] else places_of_all H os kd)) h) (sym e)
        (subst (λ hs. Contains hs h) (wanted-places_of_all H os kd) in'))))

-- ---- an update against an old tree

none-unless : {A : Type 0} (holds : Bool) (x : A) → some_unless holds x ≡ None → holds ≡ true
none-unless true x e = refl
none-unless false x e = absurd (cc e)

or_parts : {A : Type 0} (o p : Option A) → option_or o p ≡ None → (o ≡ None) × (p ≡ None)
or_parts None p e = (refl, e)
or_parts (Some x) p e = absurd (cc e)

or_under : {A : Type 0} (o p q : Option A) → (o ≡ None → p ≡ q) → option_or o p ≡ option_or o q
or_under None p q f = f refl
or_under (Some x) p q f = refl

module _ (H : List ℕ → Hash256) (u : Tree) (well : IsWellFormed H u) (is_update : kind_of H u ≡ Some Update) where
  two : length (children u) ≡ 2
  two = sym (length-map (children u) (info_of H)) ∙ sym (ap length (kids-face_of H u)) ∙ ((IsGoodFace-face_of H u well).fit.update is_update).refs

  pub kid-half : (place : ℕ) → place < 2 → kid_at (face_of H u) place ≡ info_of H (half_of u place)
  kid-half place low = ap (λ ks. get_or ks place no_info) (kids-face_of H u) ∙ get_or-map (info_of H) (children u) place no_tree no_info (omega (arith, two))

  -- what an update states of the old tree is its old half's
  pub stated-hash : stated_hash (face_of H u) 1 ≡ hash_at H (half_of u 0) 0
  stated-hash = ((IsGoodFace-face_of H u well).fit.update is_update).before.hash ∙ ap (λ k. info_hash k 0) (kid-half 0 (omega arith))

  pub stated-depth : stated_depth_of_kid (face_of H u) 0 ≡ depth_at H (half_of u 0) 0
  stated-depth = ((IsGoodFace-face_of H u well).fit.update is_update).before.depth ∙ ap (λ k. info_depth k 0) (kid-half 0 (omega arith))

  pub refusal-half : (root : ChildInfo) (found : Option Misfit) → option_or (root_refusal (stated_hash (face_of H u) 1) (stated_depth_of_kid (face_of H u) 0) root) (option_map (λ x. old_half x) found) ≡ option_or (half_root_refusal H (half_of u 0) root) (option_map (λ x. old_half x) found)
  refusal-half root found = ap₂ (λ hash depth. option_or (root_refusal hash depth root) (option_map (λ x. old_half x) found)) stated-hash stated-depth

  no_map : {A B : Type 0} (f : A → B) (o : Option A) → option_map f o ≡ None → o ≡ None
  no_map f None e = refl
  no_map f (Some x) e = absurd (cc e)

  module _ (t : Tree) (root : ChildInfo) (well_t : IsWellFormed H t) (plain : mask_of H t ≡ 0) (top : root ≡ info_of H t) where
    old : IsOld H 0 t
    old = record { well = well_t; small = omega (arith, plain) }

    matching : root_refusal (stated_hash (face_of H u) 1) (stated_depth_of_kid (face_of H u) 0) root ≡ None → Matches 0 (info_of H t) (info_of H (half_of u 0))
    matching none =
        let hash = stated_hash (face_of H u) 1 in
        let depth = stated_depth_of_kid (face_of H u) 0 in
        let parts = or_parts (some_unless (same_hash hash (info_hash root 0)) _) (some_unless (depth == info_depth root 0) _) none in
        let hashes : hash_at H t 0 ≡ hash_at H (half_of u 0) 0 = ap (λ k. info_hash k 0) (sym top) ∙ sym ((same_hash-Decides hash (info_hash root 0)).0 (none-unless (same_hash hash (info_hash root 0)) _ parts.0)) ∙ stated-hash in
        let depths : depth_at H t 0 ≡ depth_at H (half_of u 0) 0 = ap (λ k. info_depth k 0) (sym top) ∙ sym (eqb-true depth (info_depth root 0) (none-unless (depth == info_depth root 0) _ parts.1)) ∙ stated-depth in
        record {
          masks = omega arith;
          hashes = λ l low. subst (λ m. hash_at H t m ≡ hash_at H (half_of u 0) m) (let e : 0 ≡ l = omega arith in e) hashes;
          depths = λ l low. subst (λ m. depth_at H t m ≡ depth_at H (half_of u 0) m) (let e : 0 ≡ l = omega arith in e) depths;
        }

    -- where what was found tells the first misfit of the old tree
    module _ (found : Option Misfit) (is : Matches 0 (info_of H t) (info_of H (half_of u 0)) → found ≡ misfit H (half_of u 0) t 0) where
      refusal-is : option_or (root_refusal (stated_hash (face_of H u) 1) (stated_depth_of_kid (face_of H u) 0) root) (option_map (λ x. old_half x) found) ≡ tree_refusal H u t
      refusal-is =
          let hash = stated_hash (face_of H u) 1 in
          let depth = stated_depth_of_kid (face_of H u) 0 in
          or_under (root_refusal hash depth root) _ (option_map (λ x. old_half x) (misfit H (half_of u 0) t 0)) (λ none. ap (option_map (λ x. old_half x)) (is (matching none)))
          ∙ ap (λ k. option_or (root_refusal hash depth k) (option_map (λ x. old_half x) (misfit H (half_of u 0) t 0))) top
          ∙ or_assoc (λ (x : UpdateRefusal). Some x) (hash_refusal H u t) (depth_refusal H u t) (half_refusal H u t)

      known-is : option_or (root_refusal (stated_hash (face_of H u) 1) (stated_depth_of_kid (face_of H u) 0) root) (option_map (λ x. old_half x) found) ≡ None → flat_map (known_at H) (places H (half_of u 0) 0) ≡ map (info_of H) (known_cells H (half_of u 0) t 0)
      known-is none =
          let parts = or_parts (root_refusal (stated_hash (face_of H u) 1) (stated_depth_of_kid (face_of H u) 0) root) _ none in
          let same = matching parts.0 in
          let shows = Shows-from_misfit H (half_of u 0) t 0 (sym (is same) ∙ no_map (λ x. old_half x) _ parts.1) in
          known-are H (half_of u 0) t 0 (omega arith) old same shows

  -- by the faces beside all wanted hashes
  module _ (t : Tree) (root : ChildInfo) (faces : List (Option FaceView)) (are : AreOf H t u root faces) where
    half-misfit : Matches 0 (info_of H t) (info_of H (half_of u 0)) → first_misfit H (beside (wanted_hashes H u) faces) (half_of u 0) ≡ misfit H (half_of u 0) t 0
    half-misfit same =
        misfit-is H (beside (wanted_hashes H u) faces) (wanted_hashes H u) (subtrees t) are.found (half_of u 0) t 0 (omega arith) (old t root are.well are.plain are.top) same (λ s in'. in')
        (λ h in'. Contains-each_once same_hash same_hash-Decides (wanted H (half_of u 0) 0) h in')

    pub refusal-tree : pair_refusal H u root faces ≡ tree_refusal H u t
    refusal-tree = refusal-is t root are.well are.plain are.top (first_misfit H (beside (wanted_hashes H u) faces) (half_of u 0)) half-misfit

    pub known-tree : pair_refusal H u root faces ≡ None → flat_map (known_at H) (places H (half_of u 0) 0) ≡ map (info_of H) (known_cells H (half_of u 0) t 0)
    known-tree = known-is t root are.well are.plain are.top (first_misfit H (beside (wanted_hashes H u) faces) (half_of u 0)) half-misfit

  -- by the root's face and the faces beside the hashes wanted below it
  module _ (t : Tree) (root : ChildInfo) (top : FaceView) (faces : List (Option FaceView)) (are : AreBelow H t u root top faces) where
    misfit-below : Matches 0 (info_of H t) (info_of H (half_of u 0)) → misfit_under H top (beside (wanted_hashes_below H u) faces) (half_of u 0) ≡ misfit H (half_of u 0) t 0
    misfit-below same =
        misfit-under H top (beside (wanted_hashes_below H u) faces) (wanted_hashes_below H u) t are.found (half_of u 0) (old t root are.well are.plain are.shown) are.face
        (λ h in'. Contains-each_once same_hash same_hash-Decides (flat_map (wanted_at H) (drop 1 (places H (half_of u 0) 0))) h in')

    pub refusal-tree_below : refusal_below H u root top faces ≡ tree_refusal H u t
    refusal-tree_below = refusal-is t root are.well are.plain are.shown (misfit_under H top (beside (wanted_hashes_below H u) faces) (half_of u 0)) misfit-below

    pub known-tree_below : refusal_below H u root top faces ≡ None → flat_map (known_at H) (places H (half_of u 0) 0) ≡ map (info_of H) (known_cells H (half_of u 0) t 0)
    known-tree_below = known-is t root are.well are.plain are.shown (misfit_under H top (beside (wanted_hashes_below H u) faces) (half_of u 0)) misfit-below

-- the new half of an update of mask 0 has no level above 1
pub mask-new : (H : List ℕ → Hash256) (u : Tree) → IsWellFormed H u → kind_of H u ≡ Some Update → mask_of H u ≡ 0 → mask_of H (half_of u 1) < 2
mask-new H u well is_update plain =
    let f = face_of H u in
    let halved : all_masks f.kids / 2 ≡ 0 = sym (ap (λ kind. mask_by_kind kind (data_of f.bits) f.kids) is_update) ∙ sym (ap (λ k. k.mask) (info_of-face_of H u)) ∙ plain in
    let bound : (kid_at f 1).mask ≤ all_masks f.kids = joined-bound 0 f.kids 1 no_info (omega (arith, ((IsGoodFace-face_of H u well).fit.update is_update).refs)) in
    let same : mask_of H (half_of u 1) ≡ (kid_at f 1).mask = ap (λ k. k.mask) (sym (kid-half H u well is_update 1 (omega arith))) in
    omega arith

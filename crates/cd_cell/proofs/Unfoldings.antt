-- Laws of unfolded entries: their infos and faces are those of the cells, and how a list of infos is filled from
-- the last entry downwards.
use Rattle.std.proofs.Common.{◌≡◌, ℕ, zero, suc, ◌+◌, ◌-◌, ◌<◌, true, false, List, [], ◌∷◌, length, get_or, set, drop, map, refl, ap, sym, ◌∙◌, add-zero, arith}
use Rattle.std.specs.Prelude.{nat_lt, if◌then◌else◌}
use Rattle.std.proofs.lemmas.Bool.{lt-ltb}
use Rattle.std.proofs.lemmas.List.{get_or_default, get_or-drop, drop_more, drop-set}
use Rattle.cd_base.specs.declared.hash.Hash256.{Hash256}
use Rattle.cd_cell.specs.declared.info.ChildInfo.{ChildInfo}
use Rattle.cd_cell.specs.FaceView.{FaceView}
use Rattle.cd_cell.specs.Levels.{info_of_face}
use Rattle.cd_cell.specs.Tree.{Tree, trees_of, info_of, infos_of, face_of}
use Rattle.cd_cell.specs.Unfolding.{Entry, no_tree, behind, tree_of_entry, unfold_from, unfolding_of, face_of_entry, infos_from, faces_from}

-- a look-up in a mapped list
pub get_or-mapped : {A B : Type 0} (f : A → B) (xs : List A) (k : ℕ) (d : A) → get_or (map f xs) k (f d) ≡ f (get_or xs k d)
get_or-mapped f [] k d = refl
get_or-mapped f (x ∷ xs) zero d = refl
get_or-mapped f (x ∷ xs) (suc k) d = get_or-mapped f xs k d

-- what stands behind an entry, in a mapped list
behind-mapped : {A B : Type 0} (f : A → B) (i : ℕ) (xs : List A) (d : A) (r : ℕ) → behind i (map f xs) (f d) r ≡ f (behind i xs d r)
behind-mapped f i xs d r =
    let at : ℕ = r - (i + 1) in
    elim (nat_lt i r) as (λ b. (if b then get_or (map f xs) at (f d) else f d) ≡ f (if b then get_or xs at d else d)) [
      | true ↦ get_or-mapped f xs at d
      | false ↦ refl
    ]

module _ (H : List ℕ → Hash256) where
  -- what the children show is looked up as the children are
  kids-looked_up : (i : ℕ) (later : List Tree) (refs : List ℕ) → map (behind i (map (info_of H) later) (info_of H no_tree)) refs ≡ infos_of H (trees_of (map (behind i later no_tree) refs))
  kids-looked_up i later [] = refl
  kids-looked_up i later (r ∷ rs) =
      let head = behind-mapped (info_of H) i later no_tree r in
      let tail = kids-looked_up i later rs in
      cc

  -- the face of an entry is that of its cell
  pub face_of_entry-is : (i : ℕ) (e : Entry) (later : List Tree) → face_of_entry H i e (map (info_of H) later) ≡ face_of H (tree_of_entry i e later)
  face_of_entry-is i e later = ap (λ ks. record { exotic = e.exotic; bits = e.bits; kids = ks }) (kids-looked_up i later e.refs)

  -- the infos of the entries are those of their cells
  pub infos_from-is : (i : ℕ) (es : List Entry) → infos_from H i es ≡ map (info_of H) (unfold_from i es)
  unfolding infos_from unfold_from
  infos_from-is i [] = refl
  infos_from-is i (e ∷ es) =
      let later = unfold_from (i + 1) es in
      ap (λ ks. info_of_face H (face_of_entry H i e ks) ∷ ks) (infos_from-is (i + 1) es)
      ∙ ap (λ f. info_of_face H f ∷ map (info_of H) later) (face_of_entry-is i e later)

  -- the faces of the entries are those of their cells
  pub faces_from-is : (i : ℕ) (es : List Entry) → faces_from H i es ≡ map (face_of H) (unfold_from i es)
  unfolding faces_from unfold_from
  faces_from-is i [] = refl
  faces_from-is i (e ∷ es) =
      let later = unfold_from (i + 1) es in
      ap (λ ks. face_of_entry H i e ks ∷ faces_from H (i + 1) es) (infos_from-is (i + 1) es)
      ∙ ap (λ f. f ∷ faces_from H (i + 1) es) (face_of_entry-is i e later)
      ∙ ap (λ fs. face_of H (tree_of_entry i e later) ∷ fs) (faces_from-is (i + 1) es)

  -- what the entries show follows from their faces
  pub infos_from-faces : (i : ℕ) (es : List Entry) → infos_from H i es ≡ map (info_of_face H) (faces_from H i es)
  unfolding infos_from faces_from
  infos_from-faces i [] = refl
  infos_from-faces i (e ∷ es) = ap (λ ks. info_of_face H (face_of_entry H i e (infos_from H (i + 1) es)) ∷ ks) (infos_from-faces (i + 1) es)

  pub length-infos_from : (i : ℕ) (es : List Entry) → length (infos_from H i es) ≡ length es
  unfolding infos_from
  length-infos_from i [] = refl
  length-infos_from i (e ∷ es) = ap suc (length-infos_from (i + 1) es)

  pub length-faces_from : (i : ℕ) (es : List Entry) → length (faces_from H i es) ≡ length es
  unfolding faces_from
  length-faces_from i [] = refl
  length-faces_from i (e ∷ es) = ap suc (length-faces_from (i + 1) es)

  -- an entry and those behind it
  drop-infos_from-at : (k i n : ℕ) (es : List Entry) → i + k ≡ n → drop k (infos_from H i es) ≡ infos_from H n (drop k es)
  unfolding infos_from
  drop-infos_from-at zero i n es e = ap (λ m. infos_from H m es) (let same : i ≡ n = omega arith in same)
  drop-infos_from-at (suc k) i n [] e = refl
  drop-infos_from-at (suc k) i n (x ∷ es) e = drop-infos_from-at k (i + 1) n es (let next : i + 1 + k ≡ n = omega arith in next)

  pub drop-infos_from : (k : ℕ) (es : List Entry) → drop k (infos_from H 0 es) ≡ infos_from H k (drop k es)
  drop-infos_from k es = drop-infos_from-at k 0 k es (omega arith)

  drop-faces_from-at : (k i n : ℕ) (es : List Entry) → i + k ≡ n → drop k (faces_from H i es) ≡ faces_from H n (drop k es)
  unfolding faces_from
  drop-faces_from-at zero i n es e = ap (λ m. faces_from H m es) (let same : i ≡ n = omega arith in same)
  drop-faces_from-at (suc k) i n [] e = refl
  drop-faces_from-at (suc k) i n (x ∷ es) e = drop-faces_from-at k (i + 1) n es (let next : i + 1 + k ≡ n = omega arith in next)

  pub drop-faces_from : (k : ℕ) (es : List Entry) → drop k (faces_from H 0 es) ≡ faces_from H k (drop k es)
  drop-faces_from k es = drop-faces_from-at k 0 k es (omega arith)

  pub faces_from-cons : (i : ℕ) (e : Entry) (es : List Entry) → faces_from H i (e ∷ es) ≡ face_of_entry H i e (infos_from H (i + 1) es) ∷ faces_from H (i + 1) es
  unfolding faces_from
  faces_from-cons i e es = refl

  -- the last entry has nothing behind it
  pub infos_from-end : (i : ℕ) → infos_from H i [] ≡ []
  unfolding infos_from
  infos_from-end i = refl

  pub faces_from-end : (i : ℕ) → faces_from H i [] ≡ []
  unfolding faces_from
  faces_from-end i = refl

  -- the face of entry k among all of them, over what those behind it show
  pub faces_from-at : (k : ℕ) (es : List Entry) (d : Entry) (e : FaceView) → k < length es → get_or (faces_from H 0 es) k e ≡ face_of_entry H k (get_or es k d) (drop (k + 1) (infos_from H 0 es))
  unfolding faces_from
  faces_from-at k es d e below =
      let rest = drop-faces_from k es ∙ ap (faces_from H k) (drop_more es k d below) in
      ap (λ n. get_or (faces_from H 0 es) n e) (sym (add-zero k))
      ∙ sym (get_or-drop k (faces_from H 0 es) 0 e)
      ∙ ap (λ fs. get_or fs 0 e) rest
      ∙ ap (face_of_entry H k (get_or es k d)) (sym (drop-infos_from (k + 1) es))

  -- what entry i shows, put before what those behind it show
  pub infos_from-set : (i : ℕ) (es : List Entry) (infos : List ChildInfo) (d : Entry) → i < length es → length infos ≡ length es → drop (i + 1) infos ≡ infos_from H (i + 1) (drop (i + 1) es) → drop i (set infos i (info_of_face H (face_of_entry H i (get_or es i d) (drop (i + 1) infos)))) ≡ infos_from H i (drop i es)
  unfolding infos_from
  infos_from-set i es infos d below long rest =
      let in' : i < length infos = omega arith in
      let here = drop-set infos i (info_of_face H (face_of_entry H i (get_or es i d) (drop (i + 1) infos))) in' in
      let there = drop_more es i d below in
      here
      ∙ ap (λ later. info_of_face H (face_of_entry H i (get_or es i d) later) ∷ later) rest
      ∙ ap (infos_from H i) (sym there)

  -- the face of entry i, put before the faces of those behind it
  pub faces_from-set : (i : ℕ) (es : List Entry) (infos : List ChildInfo) (faces : List FaceView) (d : Entry) → i < length es → length faces ≡ length es → drop (i + 1) infos ≡ infos_from H (i + 1) (drop (i + 1) es) → drop (i + 1) faces ≡ faces_from H (i + 1) (drop (i + 1) es) → drop i (set faces i (face_of_entry H i (get_or es i d) (drop (i + 1) infos))) ≡ faces_from H i (drop i es)
  unfolding faces_from
  faces_from-set i es infos faces d below long rest rest_faces =
      let in' : i < length faces = omega arith in
      let here = drop-set faces i (face_of_entry H i (get_or es i d) (drop (i + 1) infos)) in' in
      let there = drop_more es i d below in
      here
      ∙ ap (λ later. face_of_entry H i (get_or es i d) later ∷ drop (i + 1) faces) rest
      ∙ ap (λ fs. face_of_entry H i (get_or es i d) (infos_from H (i + 1) (drop (i + 1) es)) ∷ fs) rest_faces
      ∙ ap (faces_from H i) (sym there)

-- a later number names the element of that number
pub behind-drop : {A : Type 0} (i : ℕ) (xs : List A) (absent d : A) (r : ℕ) → i < r → r < length xs → behind i (drop (i + 1) xs) absent r ≡ get_or xs r d
behind-drop i xs absent d r later below =
    ap (λ b. if b then get_or (drop (i + 1) xs) (r - (i + 1)) absent else absent) (lt-ltb i r later)
    ∙ get_or-drop (i + 1) xs (r - (i + 1)) absent
    ∙ ap (λ k. get_or xs k absent) (let same : i + 1 + (r - (i + 1)) ≡ r = omega arith in same)
    ∙ get_or_default xs r absent d below

drop-unfold_from-at : (k i n : ℕ) (es : List Entry) → i + k ≡ n → drop k (unfold_from i es) ≡ unfold_from n (drop k es)
unfolding unfold_from
drop-unfold_from-at zero i n es e = ap (λ m. unfold_from m es) (let same : i ≡ n = omega arith in same)
drop-unfold_from-at (suc k) i n [] e = refl
drop-unfold_from-at (suc k) i n (x ∷ es) e = drop-unfold_from-at k (i + 1) n es (let next : i + 1 + k ≡ n = omega arith in next)

pub drop-unfold_from : (k : ℕ) (es : List Entry) → drop k (unfold_from 0 es) ≡ unfold_from k (drop k es)
drop-unfold_from k es = drop-unfold_from-at k 0 k es (omega arith)

pub length-unfold_from : (i : ℕ) (es : List Entry) → length (unfold_from i es) ≡ length es
unfolding unfold_from
length-unfold_from i [] = refl
length-unfold_from i (e ∷ es) = ap suc (length-unfold_from (i + 1) es)

-- entry k among all of them, over those behind it
pub unfolding_of-is : (k : ℕ) (es : List Entry) (d : Entry) → k < length es → unfolding_of es k ≡ tree_of_entry k (get_or es k d) (drop (k + 1) (unfold_from 0 es))
unfolding unfold_from
unfolding_of-is k es d below =
    let rest = drop-unfold_from k es ∙ ap (unfold_from k) (drop_more es k d below) in
    let first = get_or-drop k (unfold_from 0 es) 0 no_tree in
    ap (λ n. get_or (unfold_from 0 es) n no_tree) (sym (add-zero k))
    ∙ sym first
    ∙ ap (λ ts. get_or ts 0 no_tree) rest
    ∙ ap (tree_of_entry k (get_or es k d)) (sym (drop-unfold_from (k + 1) es))

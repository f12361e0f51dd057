-- Laws of own cells with the joined cell of two states behind them, by their faces.
use Rattle.std.proofs.Common.{◌≡◌, ℕ, zero, suc, ◌+◌, ◌<◌, ◌≤◌, Bool, true, false, List, [], ◌∷◌, ◌++◌, map, All, Contains, None, refl, ap, sym, ◌∙◌, subst, inl, inr, ⊎_elim, ◌⊎◌, arith}
use Rattle.std.proofs.lemmas.List.Elements.{All-cons, All-nil, Contains-append_cases, Contains-append_left, Contains-append_right}
use Rattle.cd_base.specs.declared.hash.Hash256.{Hash256}
use Rattle.cd_cell.specs.declared.info.ChildInfo.{ChildInfo}
use Rattle.cd_cell.specs.declared.new_cell.NewCell.{NewCell}
use Rattle.cd_cell.specs.FaceView.{FaceView}
use Rattle.cd_cell.specs.Infos.{info_hash, info_depth}
use Rattle.cd_cell.specs.Levels.{info_of_face}
use Rattle.cd_cell.specs.Steady.{IsSteady}
use Rattle.cd_cell.specs.GoodFace.{IsGoodFace}
use Rattle.cd_cell.specs.Tree.{Tree, info_of, face_of}
use Rattle.cd_cell.specs.Clashes.{clash_of}
use Rattle.cd_cell.specs.Listings.{IsValid, old_cells, known_infos, Fits}
use Rattle.cd_cell.specs.Updates.{half_of}
use Rattle.cd_cell.proofs.Subtrees.{Contains-first, Contains-cases, Contains-nil}
use Rattle.cd_cell.proofs.Heights.{IsSteady-info_of_face}
use Rattle.cd_cell.specs.Equality.{same_face}
use Rattle.cd_update.specs.EachOnce.{each_once}
use Rattle.cd_update.specs.Pairing.{upto, IsOldInfo}
use Rattle.cd_update.specs.Grafts.{own_faces, foreign_hash}
use Rattle.cd_update.specs.Hides.{hides}
use Rattle.cd_update.proofs.HalfVisits.{IsUpdateTree}
use Rattle.cd_update.proofs.OldInfos.{whole_face}
use Rattle.cd_prepare.specs.NewCells.{AreListed}
use Rattle.cd_prepare.specs.Merged.{split_of, listed_if}
use Rattle.cd_prepare.proofs.NewLists.{HasParent, IsValid-faces, known-listed, Fits-faces}
use Rattle.cd_prepare.proofs.UpdateLaws.{old-shown, AreFacesOf, each-face}
use Rattle.cd_prepare.proofs.OwnFaces.{root, WasHidden, kids-shown, root-shown, clear-faces, good-faces, steady-kids, parents, parent-at, hides-place, root-is}

-- ---- what the joined cell shows

level_0-steady : (k : ChildInfo) → IsSteady (upto 0 k)
level_0-steady k = record {
  small = omega arith;
  hashes = λ l low off. hash l low;
  depths = λ l low off. depth l low;
}
  where
    hash : (l : ℕ) → l < 3 → info_hash (upto 0 k) (l + 1) ≡ info_hash (upto 0 k) l
    hash zero low = refl
    hash (suc zero) low = refl
    hash (suc (suc zero)) low = refl
    hash (suc (suc (suc l))) low = absurd (omega arith)

    depth : (l : ℕ) → l < 3 → info_depth (upto 0 k) (l + 1) ≡ info_depth (upto 0 k) l
    depth zero low = refl
    depth (suc zero) low = refl
    depth (suc (suc zero)) low = refl
    depth (suc (suc (suc l))) low = absurd (omega arith)

pub split-steady : (left right : ChildInfo) → All IsSteady (split_of left right).kids
split-steady left right =
    All-cons IsSteady (upto 0 left) (upto 0 right ∷ []) (level_0-steady left) (All-cons IsSteady (upto 0 right) [] (level_0-steady right) (All-nil IsSteady))

-- a good face over steady kids shows what an old cell may
pub face-old : (H : List ℕ → Hash256) (f : FaceView) → IsGoodFace f → All IsSteady f.kids → IsOldInfo (info_of_face H f)
face-old H f good kids =
    let steady = IsSteady-info_of_face H f good.fit (λ k x in'. (kids k x in').small) in
    record { whole = whole_face H f steady.small; steady = steady; low = low }
  where
    low : (l : ℕ) → l ≤ 3 → info_depth (info_of_face H f) l ≤ 1024
    low zero in' = good.fit.depths 0 in'
    low (suc zero) in' = good.fit.depths 1 in'
    low (suc (suc zero)) in' = good.fit.depths 2 in'
    low (suc (suc (suc zero))) in' = good.fit.depths 3 in'
    low (suc (suc (suc (suc l)))) in' = absurd (omega arith)

-- ---- with one cell more

pub with-cases : {A : Type 0} (xs : List A) (given : Bool) (top x : A) → Contains (xs ++ listed_if given top) x → Contains xs x ⊎ ((given ≡ true) × (top ≡ x))
with-cases xs given top x h =
    ⊎_elim inl (λ later. inr (go given later)) (Contains-append_cases xs (listed_if given top) x h)
  where
    go : (b : Bool) → Contains (listed_if b top) x → (b ≡ true) × (top ≡ x)
    go true later = (refl, ⊎_elim (λ same. same) (λ none. absurd (Contains-nil x none)) (Contains-cases top [] x later))
    go false later = absurd (Contains-nil x later)

module _ {H : List ℕ → Hash256} {u : Tree} (update : IsUpdateTree H u) (known : List ChildInfo) (old : All IsOldInfo known) (none : foreign_hash H known (half_of u 1) ≡ None) (own : List FaceView) (are : own ≡ own_faces H known (half_of u 1)) where
  module _ (top : FaceView) (good : IsGoodFace top) (steady : All IsSteady top.kids) where
    abbrev given : Bool
    given = hides H (info_of_face H top) (half_of u 1)

    module _ (faces : List FaceView) (made : faces ≡ own ++ listed_if given top) where
      cases : (f : FaceView) → Contains faces f → Contains own f ⊎ ((given ≡ true) × (top ≡ f))
      cases f h = with-cases own given top f (subst (λ fs. Contains fs f) made h)

      own-there : (f : FaceView) → Contains own f → Contains faces f
      own-there f h = subst (λ fs. Contains fs f) (sym made) (Contains-append_left own (listed_if given top) f h)

      pub good-merged : (f : FaceView) → Contains faces f → IsGoodFace f
      good-merged f h = ⊎_elim (λ here. good-faces update known old none own are f here) (λ joined. subst IsGoodFace joined.1 good) (cases f h)

      steady-merged : (f : FaceView) → Contains faces f → All IsSteady f.kids
      steady-merged f h =
          ⊎_elim (λ here. steady-kids update known old none own are f here) (λ joined. subst (λ (x : FaceView). All IsSteady x.kids) joined.1 steady) (cases f h)

      lifted : (k : ChildInfo) → (k ≡ root update known old none) ⊎ ((g : FaceView) × Contains own g × Contains g.kids k) → (k ≡ root update known old none) ⊎ ((g : FaceView) × Contains faces g × Contains g.kids k)
      lifted k h = ⊎_elim inl (λ parent. inr (parent.0, own-there parent.0 parent.1, parent.2)) h

      parents-merged : (f : FaceView) → Contains faces f → HasParent H faces (root update known old none) f
      parents-merged f h =
          ⊎_elim
          (λ here. lifted (info_of_face H f) (parents update known old none own are f here))
          (λ joined.
          let place = hides-place update known old none own are (info_of_face H top) (face-old H top good steady) joined.0 in
          subst (λ k. (k ≡ root update known old none) ⊎ ((g : FaceView) × Contains faces g × Contains g.kids k)) (place.2 ∙ ap (info_of_face H) joined.1)
          (lifted _ (parent-at update known old none own are place.0 place.1)))
          (cases f h)

      -- the cells in their order are what a prepared value keeps, below the grafted root
      pub valid-merged : (cells : List NewCell) → AreListed H faces cells → clash_of H faces ≡ None → (r : ChildInfo) (cs : List NewCell) → r ≡ root update known old none → cs ≡ cells → IsValid H r cs
      valid-merged cells listed clear r cs is are_cells =
          let root_is = root-is update known old none in
          subst (λ x. IsValid H x cs) (sym is)
          (subst (IsValid H (root update known old none)) (sym are_cells)
          (IsValid-faces H faces cells listed (root update known old none) good-merged steady-merged (clear-faces H faces clear) parents-merged root_is.0 root_is.2))

      -- they fit over old trees: each kid of the joined cell is an old cell's, and so is what is known but for the joined
      -- cell itself
      module _ (cells : List NewCell) (listed : AreListed H faces cells) (olds : List Tree) (known_is : (k : ChildInfo) → Contains known k → (info_of_face H top ≡ k) ⊎ ((s : Tree) × Contains (old_cells olds) s × (info_of H s ≡ k))) (kid_is : (k : ChildInfo) → Contains top.kids k → (s : Tree) × Contains (old_cells olds) s × (info_of H s ≡ k)) where
        old-there : (k : ChildInfo) → (s : Tree) × Contains (old_cells olds) s × (info_of H s ≡ k) → Contains (known_infos H cells olds) k
        old-there k s = subst (Contains (known_infos H cells olds)) s.2 (old-shown H cells olds s.0 s.1)

        top-there : given ≡ true → Contains faces top
        top-there e =
            subst (λ fs. Contains fs top) (sym made)
            (Contains-append_right own (listed_if given top) top (subst (λ x. Contains (listed_if x top) top) (sym e) (Contains-first top [])))

        shown-there : (k : ChildInfo) → ((f : FaceView) × Contains own f × (info_of_face H f ≡ k)) ⊎ WasHidden update known old none own are k → Contains (known_infos H cells olds) k
        shown-there k h =
            ⊎_elim
            (λ here. subst (Contains (known_infos H cells olds)) here.2 (known-listed H faces cells listed olds here.0 (own-there here.0 here.1)))
            (λ hidden.
            ⊎_elim
            (λ same.
            let is_given : given ≡ true = ap (λ x. hides H x (half_of u 1)) same ∙ hidden.1 in
            subst (Contains (known_infos H cells olds)) same (known-listed H faces cells listed olds top (top-there is_given)))
            (old-there k)
            (known_is k hidden.0))
            h

        pub fits-merged : (r : ChildInfo) (cs : List NewCell) → r ≡ root update known old none → cs ≡ cells → Fits H r cs olds
        fits-merged r cs is are_cells =
            subst (λ x. Fits H x cs olds) (sym is)
            (subst (λ xs. Fits H (root update known old none) xs olds) (sym are_cells)
            (Fits-faces H faces cells listed (root update known old none) olds
            (shown-there (root update known old none) (root-shown update known old none own are))
            (λ f h k kid.
            ⊎_elim
            (λ here. shown-there k (kids-shown update known old none own are f here k kid))
            (λ joined. old-there k (kid_is k (subst (λ (x : FaceView). Contains x.kids k) (sym joined.1) kid)))
            (cases f h))))

-- ---- the listed cells by their trees

pub merged-faces_of : (H : List ℕ → Hash256) (own : List Tree) (given : Bool) (t : Tree) (faces : List FaceView) → faces ≡ each_once same_face (map (face_of H) own) ++ listed_if given (face_of H t) → AreFacesOf H (own ++ listed_if given t) faces
merged-faces_of H own given t faces made =
    let new = each_once same_face (map (face_of H) own) in
    let each = each-face H own new refl in
    record {
      there = λ c h.
          subst (λ fs. Contains fs (face_of H c)) (sym made)
          (⊎_elim
          (λ here. Contains-append_left new (listed_if given (face_of H t)) (face_of H c) (each.there c here))
          (λ joined.
          Contains-append_right new (listed_if given (face_of H t)) (face_of H c)
          (subst (λ e. Contains (listed_if e (face_of H t)) (face_of H c)) (sym joined.0) (subst (λ x. Contains (face_of H t ∷ []) (face_of H x)) joined.1 (Contains-first (face_of H t) []))))
          (with-cases own given t c h));
      back = λ f h.
          ⊎_elim
          (λ here. let c = each.back f here in (c.0, Contains-append_left own (listed_if given t) c.0 c.1, c.2))
          (λ joined. (t, Contains-append_right own (listed_if given t) t (subst (λ e. Contains (listed_if e t) t) (sym joined.0) (Contains-first t [])), joined.1))
          (with-cases new given (face_of H t) f (subst (λ fs. Contains fs f) made h));
    }

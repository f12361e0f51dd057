-- Laws of the cells of a tree as they are listed.
use Rattle.std.proofs.Common.{◌≡◌, ℕ, zero, suc, ◌+◌, ◌*◌, ◌^◌, ◌<◌, Bool, true, false, List, [], ◌∷◌, ◌++◌, length, map, reverse, get_or, take, drop, Result, Ok, Err, IfOk, OnOk, refl, sym, ap, ap₂, ◌∙◌, arith}
use Rattle.std.proofs.Math.Nat.{pow-suc}
use Rattle.std.proofs.lemmas.List.{append-nil, append_assoc, map-append, reverse-append, length-map, length-reverse, length-append, get_or_push, length_push, take_at, drop_at}
use Rattle.cd_cell.specs.declared.info.ChildInfo.{ChildInfo}
use Rattle.cd_cell.specs.FaceView.{FaceView}
use Rattle.cd_cell.specs.Levels.{info_of_face}
use Rattle.cd_cell.specs.Tree.{Tree, Trees, cell, no_trees, tree_and, subtrees, subtrees_of_all, info_of, face_of}
use Rattle.cd_gen.specs.declared.cell.Cell.{Cell}
use Rattle.cd_gen.specs.States.{sha, over, full, pruned}
use Rattle.cd_gen.specs.Listing.{turned, faces_of, infos_of, faces, pruned_face, at_level_0, IsListed, IsListedAfter}
use Rattle.cd_gen.proofs.PrunedLaws.{over-shows, alone-shows}

-- ---- a cell and those below it

abbrev pair : Bool → List Bool → Tree → Tree → Tree
pair exotic bits left right = cell exotic bits (tree_and left (tree_and right no_trees))

module _ {A : Type 0} (f : Tree → A) where
  pub turned-alone : (exotic : Bool) (bits : List Bool) → turned f (cell exotic bits no_trees) ≡ f (cell exotic bits no_trees) ∷ []
  unfolding turned
  turned-alone exotic bits = refl

  pub turned-last : (exotic : Bool) (bits : List Bool) (ts : Trees) → turned f (cell exotic bits ts) ≡ reverse (map f (subtrees_of_all ts)) ++ f (cell exotic bits ts) ∷ []
  unfolding turned
  turned-last exotic bits ts = reverse-append (f (cell exotic bits ts) ∷ []) (map f (subtrees_of_all ts))

  pub turned-pair : (exotic : Bool) (bits : List Bool) (left right : Tree)
      → turned f (cell exotic bits (tree_and left (tree_and right no_trees))) ≡ turned f right ++ (turned f left ++ f (cell exotic bits (tree_and left (tree_and right no_trees))) ∷ [])
  unfolding turned
  turned-pair exotic bits left right =
      let root = f (pair exotic bits left right) ∷ [] in
      turned-last exotic bits (tree_and left (tree_and right no_trees))
      ∙ ap (λ ts. reverse (map f (subtrees left ++ ts)) ++ root) (append-nil (subtrees right))
      ∙ ap (λ xs. reverse xs ++ root) (map-append f (subtrees left) (subtrees right))
      ∙ ap (λ xs. xs ++ root) (reverse-append (map f (subtrees left)) (map f (subtrees right)))
      ∙ append_assoc (reverse (map f (subtrees right))) (reverse (map f (subtrees left))) root

  pub length-turned : (t : Tree) → length (turned f t) ≡ length (subtrees t)
  unfolding turned
  length-turned t = length-reverse (map f (subtrees t)) ∙ length-map (subtrees t) f

  -- the root is the last
  pub turned-root : (t : Tree) (k : ℕ) (d : A) → length (turned f t) ≡ k + 1 → get_or (turned f t) k d ≡ f t
  turned-root (cell exotic bits ts) k d long =
      let e = turned-last exotic bits ts in
      let below = reverse (map f (subtrees_of_all ts)) in
      ap (λ xs. get_or xs k d) e ∙ get_or_push below (f (cell exotic bits ts)) d k (omega (arith, ap length e, length_push below (f (cell exotic bits ts))))

  pub turned-some : (t : Tree) → 0 < length (turned f t)
  turned-some (cell exotic bits ts) =
      let below = reverse (map f (subtrees_of_all ts)) in
      omega (arith, ap length (turned-last exotic bits ts), length_push below (f (cell exotic bits ts)))

  pub turned-right : (left right : Tree) (n : ℕ) → length (turned f right) ≡ n → take n (turned f (over left right)) ≡ turned f right
  turned-right left right n long = ap (take n) (turned-pair _ _ left right) ∙ take_at (turned f right) (turned f left ++ f (over left right) ∷ []) n long

  pub turned-left : (left right : Tree) (n m : ℕ) → length (turned f right) ≡ n → length (turned f left) ≡ m → take m (drop n (turned f (over left right))) ≡ turned f left
  turned-left left right n m long long' =
      ap (λ xs. take m (drop n xs)) (turned-pair _ _ left right)
      ∙ ap (take m) (drop_at (turned f right) (turned f left ++ f (over left right) ∷ []) n long)
      ∙ take_at (turned f left) (f (over left right) ∷ []) m long'

-- ---- the size of a full tree

length-full : (number chain seqno levels first : ℕ) → length (subtrees (full number chain seqno levels first)) + 1 ≡ 2 ^ levels * 2
unfolding full
length-full number chain seqno zero first = refl
length-full number chain seqno (suc levels) first =
    let left = full number chain seqno levels first in
    let right = full number chain seqno levels (first + 2 ^ levels) in
    let l = length-full number chain seqno levels first in
    let r = length-full number chain seqno levels (first + 2 ^ levels) in
    let none : length (subtrees right ++ []) ≡ length (subtrees right) = ap length (append-nil (subtrees right)) in
    let both : length (subtrees left ++ (subtrees right ++ [])) ≡ length (subtrees left) + length (subtrees right ++ []) = length-append (subtrees left) (subtrees right ++ []) in
    let twice : 2 ^ suc levels ≡ 2 ^ levels * 2 = pow-suc 2 levels in
    omega (arith, l, r, none, both, twice)

pub length-infos_of : (number chain seqno levels first : ℕ) → length (infos_of (full number chain seqno levels first)) + 1 ≡ 2 ^ levels * 2
length-infos_of number chain seqno levels first =
    let long = length-turned (info_of sha) (full number chain seqno levels first) in
    omega (arith, long, length-full number chain seqno levels first)

-- ---- cells listed one behind another

info_of-face : (t : Tree) → info_of_face sha (face_of sha t) ≡ info_of sha t
info_of-face (cell exotic bits ts) = refl

-- faces of cells over two others that show the same
abbrev pair_of : Bool → List Bool → ChildInfo → ChildInfo → FaceView
pair_of exotic bits left right = record { exotic = exotic; bits = bits; kids = left ∷ right ∷ [] }

pair_face : (exotic : Bool) (bits : List Bool) (l left k right : ChildInfo) → l ≡ left → k ≡ right → pair_of exotic bits l k ≡ pair_of exotic bits left right
pair_face exotic bits l left k right e e' = ap₂ (pair_of exotic bits) e e'

-- a cell without children
pub listed-alone : {E : Type 0} (r : Result ChildInfo E) (exotic : Bool) (bits : List Bool) (face : FaceView) (old new : List Cell) → face ≡ face_of sha (cell exotic bits no_trees)
    → OnOk r (faces new ≡ faces old ++ face ∷ []) → IfOk r (λ info. info ≡ info_of_face sha face) → IfOk r (λ info. IsListed (cell exotic bits no_trees) old new info)
listed-alone (Ok info) exotic bits face old new is listed root = record {
  cells = listed ∙ ap (λ x. faces old ++ x ∷ []) is ∙ ap (λ xs. faces old ++ xs) (sym (turned-alone (face_of sha) exotic bits));
  root = root ∙ ap (info_of_face sha) is;
}
listed-alone (Err e) exotic bits face old new is listed root = tt

-- a cell behind both of its children
pub listed-pair : {E : Type 0} (r : Result ChildInfo E) (exotic : Bool) (bits : List Bool) (left right : Tree) (face : FaceView) (a b c d : List Cell) (l k : ChildInfo)
    → IsListed right a b k → IsListed left b c l → face ≡ record { exotic = exotic; bits = bits; kids = l ∷ k ∷ [] }
    → OnOk r (faces d ≡ faces c ++ face ∷ []) → IfOk r (λ info. info ≡ info_of_face sha face) → IfOk r (λ info. IsListed (cell exotic bits (tree_and left (tree_and right no_trees))) a d info)
listed-pair (Ok info) exotic bits left right face a b c d l k first second is listed root =
    let t = pair exotic bits left right in
    let whole : face ≡ face_of sha t = is ∙ pair_face exotic bits l (info_of sha left) k (info_of sha right) second.root first.root in
    record {
      cells =
          listed
          ∙ ap (λ x. faces c ++ x ∷ []) whole
          ∙ ap (λ xs. xs ++ face_of sha t ∷ []) (second.cells ∙ ap (λ xs. xs ++ faces_of left) first.cells)
          ∙ append_assoc (faces a ++ faces_of right) (faces_of left) (face_of sha t ∷ [])
          ∙ append_assoc (faces a) (faces_of right) (faces_of left ++ face_of sha t ∷ [])
          ∙ ap (λ xs. faces a ++ xs) (sym (turned-pair (face_of sha) exotic bits left right));
      root = root ∙ ap (info_of_face sha) whole;
    }
listed-pair (Err e) exotic bits left right face a b c d l k first second is listed root = tt

-- the cells of a full tree show the same at each level
pub full-plain : (number chain seqno levels first : ℕ) → at_level_0 (info_of sha (full number chain seqno levels first)) ≡ info_of sha (full number chain seqno levels first)
unfolding full
full-plain number chain seqno zero first = alone-shows _
full-plain number chain seqno (suc levels) first =
    let left = full number chain seqno levels first in
    let right = full number chain seqno levels (first + 2 ^ levels) in
    over-shows (info_of sha left) (info_of sha right)
    ∙ ap₂ (λ x y. info_of_face sha (pair_of false [] x y)) (full-plain number chain seqno levels first) (full-plain number chain seqno levels (first + 2 ^ levels))

-- a pruned branch in the place of a state's tree, whose cells are kept as they are
pub after-hidden : {E : Type 0} (r : Result ChildInfo E) (state : Tree) (face : FaceView) (old new : List Cell) (before after : List ChildInfo) (root : ChildInfo) → root ≡ info_of sha state → at_level_0 (info_of sha state) ≡ info_of sha state
    → face ≡ pruned_face root → at_level_0 (info_of_face sha face) ≡ at_level_0 root
    → OnOk r (faces new ≡ faces old ++ face ∷ []) → IfOk r (λ info. info ≡ info_of_face sha face) → after ≡ before ++ infos_of state
    → IfOk r (λ info. IsListedAfter (pruned state) state old new before after info)
after-hidden (Ok info) state face old new before after root root-is flat is shows listed info-is kept =
    let all = listed-alone {E = ⊥} (Ok info) true _ face old new (is ∙ ap pruned_face root-is) listed info-is in
    record {
      cells = all.cells;
      root = all.root;
      kept = kept;
      plain = ap at_level_0 info-is ∙ shows ∙ ap at_level_0 root-is ∙ flat;
    }
after-hidden (Err e) state face old new before after root root-is flat is shows listed info-is kept = tt

-- the same where what the cells of a state show is kept beside
pub after-alone : {E : Type 0} (r : Result ChildInfo E) (bits : List Bool) (face : FaceView) (old new : List Cell) (before after : List ChildInfo) → face ≡ face_of sha (cell false bits no_trees)
    → OnOk r (faces new ≡ faces old ++ face ∷ []) → IfOk r (λ info. after ≡ before ++ at_level_0 info ∷ []) → IfOk r (λ info. info ≡ info_of_face sha face)
    → IfOk r (λ info. IsListedAfter (cell false bits no_trees) (cell false bits no_trees) old new before after info)
after-alone (Ok info) bits face old new before after is listed kept root =
    let t = cell false bits no_trees in
    let all = listed-alone {E = ⊥} (Ok info) false bits face old new is listed root in
    let plain : at_level_0 info ≡ info_of sha t = ap at_level_0 all.root ∙ alone-shows bits in
    record {
      cells = all.cells;
      root = all.root;
      kept = kept ∙ ap (λ x. before ++ x ∷ []) plain ∙ ap (λ xs. before ++ xs) (sym (turned-alone (info_of sha) false bits));
      plain = plain;
    }
after-alone (Err e) bits face old new before after is listed kept root = tt

pub after-pair : {E : Type 0} (r : Result ChildInfo E) (left right left' right' : Tree) (face : FaceView) (a b c d : List Cell) (p q s w : List ChildInfo) (l k : ChildInfo)
    → IsListedAfter right right' a b p q k → IsListedAfter left left' b c q s l → face ≡ record { exotic = false; bits = []; kids = l ∷ k ∷ [] }
    → OnOk r (faces d ≡ faces c ++ face ∷ []) → IfOk r (λ info. w ≡ s ++ at_level_0 info ∷ []) → IfOk r (λ info. info ≡ info_of_face sha face)
    → IfOk r (λ info. IsListedAfter (over left right) (over left' right') a d p w info)
after-pair (Ok info) left right left' right' face a b c d p q s w l k first second is listed kept root =
    let t = over left' right' in
    let right-listed : IsListed right a b k = record { cells = first.cells; root = first.root } in
    let left-listed : IsListed left b c l = record { cells = second.cells; root = second.root } in
    let all = listed-pair {E = ⊥} (Ok info) false [] left right face a b c d l k right-listed left-listed is listed root in
    let plain : at_level_0 info ≡ info_of sha t = ap at_level_0 (root ∙ ap (info_of_face sha) is) ∙ over-shows l k ∙ ap₂ (λ x y. info_of_face sha (pair_of false [] x y)) second.plain first.plain in
    record {
      cells = all.cells;
      root = all.root;
      kept =
          kept
          ∙ ap (λ x. s ++ x ∷ []) plain
          ∙ ap (λ xs. xs ++ info_of sha t ∷ []) (second.kept ∙ ap (λ xs. xs ++ infos_of left') first.kept)
          ∙ append_assoc (p ++ infos_of right') (infos_of left') (info_of sha t ∷ [])
          ∙ append_assoc p (infos_of right') (infos_of left' ++ info_of sha t ∷ [])
          ∙ ap (λ xs. p ++ xs) (sym (turned-pair (info_of sha) false [] left' right'));
      plain = plain;
    }
after-pair (Err e) left right left' right' face a b c d p q s w l k first second is listed kept root = tt

-- ---- cells that alone are listed

pub map-reverse : {A B : Type 0} (f : A → B) (xs : List A) → map f (reverse xs) ≡ reverse (map f xs)
map-reverse f [] = refl
map-reverse f (x ∷ xs) =
    ap (map f) (reverse-append (x ∷ []) xs)
    ∙ map-append f (reverse xs) (x ∷ [])
    ∙ ap (λ ys. ys ++ f x ∷ []) (map-reverse f xs)
    ∙ sym (reverse-append (f x ∷ []) (map f xs))

infos-by_faces : (cells : List Cell) → map (λ (c : Cell). c.info) cells ≡ map (info_of_face sha) (faces cells)
infos-by_faces [] = refl
infos-by_faces (c ∷ cells) = ap₂ (λ x xs. x ∷ xs) c.shows (infos-by_faces cells)

infos-by_trees : (ts : List Tree) → map (info_of_face sha) (map (face_of sha) ts) ≡ map (info_of sha) ts
infos-by_trees [] = refl
infos-by_trees (t ∷ ts) = ap₂ (λ x xs. x ∷ xs) (info_of-face t) (infos-by_trees ts)

pub first-listed : (t : Tree) (old new : List Cell) (info : ChildInfo) → old ≡ [] → IsListed t old new info → faces new ≡ faces_of t
first-listed t old new info none listed = listed.cells ∙ ap (λ cells. faces cells ++ faces_of t) none

pub first-infos : (t : Tree) (cells : List Cell) → faces cells ≡ faces_of t → map (λ (c : Cell). c.info) cells ≡ infos_of t
unfolding turned
first-infos t cells listed =
    infos-by_faces cells
    ∙ ap (map (info_of_face sha)) listed
    ∙ map-reverse (info_of_face sha) (map (face_of sha) (subtrees t))
    ∙ ap reverse (infos-by_trees (subtrees t))

-- Laws of the joined tree of two states.
use Rattle.std.proofs.Common.{◌≡◌, ℕ, zero, suc, ◌+◌, ◌<◌, ◌≤◌, max, false, [], ◌∷◌, bit_or, refl, ap, ap₂, sym, ◌∙◌, subst, ⊎_elim, List, arith}
use Rattle.cd_base.specs.declared.hash.Hash256.{Hash256}
use Rattle.cd_cell.specs.declared.info.ChildInfo.{ChildInfo}
use Rattle.cd_cell.specs.Masks.{is_significant}
use Rattle.cd_cell.specs.Infos.{info_depth}
use Rattle.cd_cell.specs.FaceView.{FaceView}
use Rattle.cd_cell.specs.Levels.{mask_of_face, plain_depth, depth_of_face}
use Rattle.cd_cell.specs.GoodFace.{IsGoodFace}
use Rattle.cd_cell.specs.Tree.{Tree, subtrees, info_of, face_of, mask_of, height_of, depth_at, IsWellFormed}
use Rattle.cd_cell.specs.Listings.{old_cells}
use Rattle.cd_cell.specs.Joined.{joined_tree, joined_face}
use Rattle.cd_cell.proofs.Subtrees.{Contains-cases, Contains-nil, IsWellFormed-from}
use Rattle.cd_cell.proofs.Heights.{depth_of_face-same, height_of-is}

-- ---- the face

module _ (left right : ChildInfo) where
  abbrev face : FaceView
  face = joined_face left right

  -- its depth at level 0 is one more than the greater one
  pub depth-joined_face : depth_of_face face 0 ≡ max (info_depth left 0 + 1) (info_depth right 0 + 1)
  unfolding plain_depth
  depth-joined_face = omega arith

  module _ (plain_left : left.mask ≡ 0) (plain_right : right.mask ≡ 0) where
    pub mask-joined_face : mask_of_face face ≡ 0
    mask-joined_face = ap₂ (λ m n. bit_or (bit_or 0 m) n) plain_left plain_right

    no_level : (l : ℕ) → l < 3 → is_significant 0 (l + 1) ≡ false
    no_level zero below = refl
    no_level (suc zero) below = refl
    no_level (suc (suc zero)) below = refl
    no_level (suc (suc (suc l))) below = absurd (omega arith)

    -- and so it is at each level
    pub depths-joined_face : (l : ℕ) → l ≤ 3 → depth_of_face face l ≡ depth_of_face face 0
    depths-joined_face zero low = refl
    depths-joined_face (suc l) low =
        let off = subst (λ m. is_significant m (l + 1) ≡ false) (sym mask-joined_face) (no_level l (omega arith)) in
        let next : suc l ≡ l + 1 = omega arith in
        ap (depth_of_face face) next ∙ depth_of_face-same face l (omega arith) off ∙ depths-joined_face l (omega arith)

    -- the face is good where neither state is of the greatest depth
    pub IsGoodFace-joined_face : info_depth left 0 < 1024 → info_depth right 0 < 1024 → IsGoodFace face
    IsGoodFace-joined_face low_left low_right = record {
      bits = omega arith;
      kids = omega arith;
      fit = record {
        known = λ e. cc e;
        pruned = λ e. absurd (cc e);
        library = λ e. absurd (cc e);
        proof = λ e. absurd (cc e);
        update = λ e. absurd (cc e);
        depths = λ l low. omega (arith, depths-joined_face l low, depth-joined_face);
      };
    }

-- ---- the tree

module _ (H : List ℕ → Hash256) (a b : Tree) where
  pub face_of-joined_tree : face_of H (joined_tree a b) ≡ joined_face (info_of H a) (info_of H b)
  face_of-joined_tree = refl

  -- the cells below its root are those of both states
  pub subtrees-joined_tree : subtrees (joined_tree a b) ≡ joined_tree a b ∷ old_cells (a ∷ b ∷ [])
  subtrees-joined_tree = refl

  module _ (good_a : IsWellFormed H a) (good_b : IsWellFormed H b) (plain_a : mask_of H a ≡ 0) (plain_b : mask_of H b ≡ 0) where
    pub mask_of-joined_tree : mask_of H (joined_tree a b) ≡ 0
    mask_of-joined_tree = mask-joined_face (info_of H a) (info_of H b) plain_a plain_b

    pub IsWellFormed-joined_tree : depth_at H a 0 < 1024 → depth_at H b 0 < 1024 → IsWellFormed H (joined_tree a b)
    IsWellFormed-joined_tree low_a low_b =
        IsWellFormed-from H (joined_tree a b) (IsGoodFace-joined_face (info_of H a) (info_of H b) plain_a plain_b low_a low_b)
        (λ c h.
        ⊎_elim
        (λ first. subst (IsWellFormed H) first good_a)
        (λ later. ⊎_elim (λ second. subst (IsWellFormed H) second good_b) (λ none. absurd (Contains-nil c none)) (Contains-cases b [] c later))
        (Contains-cases a (b ∷ []) c h))

    pub height_of-joined_tree : depth_at H a 0 < 1024 → depth_at H b 0 < 1024 → height_of H (joined_tree a b) ≡ max (height_of H a + 1) (height_of H b + 1)
    height_of-joined_tree low_a low_b = omega (arith, height_of-is H (joined_tree a b) (IsWellFormed-joined_tree low_a low_b))

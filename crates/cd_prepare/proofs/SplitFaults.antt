-- Two states beside what their roots show, once their joined cell isn't too deep: which fault comes, and what is paired.
use Rattle.std.proofs.Common.{◌≡◌, ℕ, ◌<◌, List, [], ◌∷◌, ◌++◌, map, Contains, Bool, true, false, Option, Some, None, refl, ap, ap₂, sym, ◌∙◌, subst, inl, inr, ⊎_elim, ◌⊎◌, arith}
use Rattle.std.specs.Prelude.{if◌then◌else◌, nat_lt}
use Rattle.std.specs.Option.{option_or}
use Rattle.std.proofs.lemmas.Bool.{ltb-false}
use Rattle.cd_base.specs.declared.hash.Hash256.{Hash256}
use Rattle.cd_cell.specs.declared.info.ChildInfo.{ChildInfo}
use Rattle.cd_cell.specs.FaceView.{FaceView}
use Rattle.cd_cell.specs.Infos.{info_depth}
use Rattle.cd_cell.specs.Levels.{info_of_face}
use Rattle.cd_cell.specs.Tree.{Tree, info_of, face_of, mask_of, IsWellFormed}
use Rattle.cd_cell.specs.Updates.{half_of, known_of}
use Rattle.cd_update.specs.EachOnce.{each_once}
use Rattle.cd_update.specs.Hides.{hides}
use Rattle.cd_cell.specs.Equality.{same_info}
use Rattle.cd_cell.specs.Listings.{old_cells}
use Rattle.cd_cell.specs.Joined.{joined_tree, joined_face}
use Rattle.cd_cell.proofs.Subtrees.{Contains-cases, Contains-map, flat_map-listed, subtree-itself}
use Rattle.cd_cell.proofs.Heights.{IsSteady-info_of}
use Rattle.cd_cell.proofs.JoinedTrees.{mask_of-joined_tree, IsWellFormed-joined_tree}
use Rattle.cd_update.specs.Pairing.{upto}
use Rattle.cd_update.specs.PairingBelow.{refusal_below, AreBelow}
use Rattle.cd_update.proofs.OldInfos.{matched, whole-info_of}
use Rattle.cd_prepare.specs.declared.prepare_fault.PrepareFault.{PrepareFault}
use Rattle.cd_prepare.specs.declared.prepare_fault.PrepareFault.TheVariants.{SplitDeep}
use Rattle.cd_prepare.specs.Applied.{grafted_faces, fault_by, new_faces, fault_over}
use Rattle.cd_prepare.proofs.MergedTrees.{AreStates}
use Rattle.cd_prepare.proofs.UpdateLaws.{known-cell}
use Rattle.cd_prepare.specs.Merged.{split_of, split_depth, deep_fault, listed_if, split_fault, is_given, merged_fault, AreOfBoth}

module _ (H : List ℕ → Hash256) (u : Tree) (left right : ChildInfo) (faces : List (Option FaceView)) (face : FaceView) (info : ChildInfo) (deep : deep_fault left right ≡ None) (face_is : face ≡ split_of left right) (info_is : info ≡ info_of_face H face) where
  pub split-is : split_fault H u left right faces ≡ fault_by H u (refusal_below H u info face faces) (grafted_faces H u ++ listed_if (hides H info (half_of u 1)) face)
  split-is =
      let fault : ChildInfo → FaceView → Option PrepareFault = λ k f. fault_by H u (refusal_below H u k f faces) (grafted_faces H u ++ listed_if (hides H k (half_of u 1)) f) in
      ap (λ o. option_or o (fault (info_of_face H (split_of left right)) (split_of left right))) deep
      ∙ ap (λ f. fault (info_of_face H f) f) (sym face_is)
      ∙ ap (λ k. fault k face) (sym info_is)

-- the depths leave room for the joined cell
low-states : (left right : ChildInfo) → deep_fault left right ≡ None → (info_depth left 0 < 1024) × (info_depth right 0 < 1024)
low-states left right none = go (nat_lt 1024 (split_depth left right)) refl none
  where
    go : (over : Bool) → nat_lt 1024 (split_depth left right) ≡ over → (if over then Some (SplitDeep (split_depth left right)) else None) ≡ None → (info_depth left 0 < 1024) × (info_depth right 0 < 1024)
    go true e none = absurd (cc none)
    go false e none = let low = ltb-false 1024 (split_depth left right) e in (omega (arith, low), omega (arith, low))

-- a state shows what it shows at level 0
state-info : (H : List ℕ → Hash256) (t : Tree) → IsWellFormed H t → mask_of H t ≡ 0 → upto 0 (info_of H t) ≡ info_of H t
state-info H t well plain =
    let k = info_of H t in
    sym
    (matched k k 0 (omega arith) (whole-info_of H t well) (IsSteady-info_of H t well) (omega (arith, plain))
    (record { masks = refl; hashes = λ l low. refl; depths = λ l low. refl }))

module _ {H : List ℕ → Hash256} {u a b : Tree} {left right : ChildInfo} {faces : List (Option FaceView)} (are : AreOfBoth H u a b left right faces) where
  pub both-deep : deep_fault (info_of H a) (info_of H b) ≡ deep_fault left right
  both-deep = ap₂ deep_fault (sym are.left_is) (sym are.right_is)

  pub split-face : split_of left right ≡ face_of H (joined_tree a b)
  split-face =
      ap₂ (λ l r. joined_face (upto 0 l) (upto 0 r)) are.left_is are.right_is
      ∙ ap₂ joined_face (state-info H a are.well_left are.plain_left) (state-info H b are.well_right are.plain_right)

  module _ (deep : deep_fault left right ≡ None) where
    pub merged-is : merged_fault H u a b ≡ fault_over H u (joined_tree a b) (new_faces H u (joined_tree a b) ++ listed_if (is_given H u a b) (face_of H (joined_tree a b)))
    merged-is = ap (λ o. option_or o (fault_over H u (joined_tree a b) (new_faces H u (joined_tree a b) ++ listed_if (is_given H u a b) (face_of H (joined_tree a b))))) (both-deep ∙ deep)

    pub states : AreStates H a b
    states =
        let low = low-states left right deep in
        record {
          well_left = are.well_left;
          well_right = are.well_right;
          plain_left = are.plain_left;
          plain_right = are.plain_right;
          low_left = omega (arith, low.0, ap (λ k. info_depth k 0) are.left_is);
          low_right = omega (arith, low.1, ap (λ k. info_depth k 0) are.right_is);
        }

    pub below : (face : FaceView) (info : ChildInfo) → face ≡ split_of left right → info ≡ info_of_face H face → AreBelow H (joined_tree a b) u info face faces
    below face info face_is info_is = record {
      well = IsWellFormed-joined_tree H a b are.well_left are.well_right are.plain_left are.plain_right states.low_left states.low_right;
      plain = mask_of-joined_tree H a b are.well_left are.well_right are.plain_left are.plain_right;
      shown = info_is ∙ ap (info_of_face H) (face_is ∙ split-face);
      face = face_is ∙ split-face;
      found = are.found;
    }

-- ---- what is known of the joined tree

module _ (H : List ℕ → Hash256) (u a b : Tree) where
  -- what is known is what its root shows, or a cell of a state
  pub known-both : (known : List ChildInfo) → known ≡ each_once same_info (map (info_of H) (known_of H u (joined_tree a b))) → (face : FaceView) → face ≡ face_of H (joined_tree a b) → (k : ChildInfo) → Contains known k → (info_of_face H face ≡ k) ⊎ ((s : Tree) × Contains (old_cells (a ∷ b ∷ [])) s × (info_of H s ≡ k))
  known-both known are face is k h =
      let cell = known-cell H u (joined_tree a b) known are k h in
      ⊎_elim
      (λ same. inl (ap (info_of_face H) is ∙ ap (info_of H) same ∙ cell.2))
      (λ old. inr (cell.0, old, cell.2))
      (Contains-cases (joined_tree a b) (old_cells (a ∷ b ∷ [])) cell.0 cell.1)

pub kid-state : (H : List ℕ → Hash256) (a b : Tree) (face : FaceView) → face ≡ face_of H (joined_tree a b) → (k : ChildInfo) → Contains face.kids k → (s : Tree) × Contains (old_cells (a ∷ b ∷ [])) s × (info_of H s ≡ k)
kid-state H a b face is k kid =
    let state = Contains-map (info_of H) (a ∷ b ∷ []) k (subst (λ (f : FaceView). Contains f.kids k) is kid) in
    (state.0, flat_map-listed (a ∷ b ∷ []) state.0 state.0 state.1 (subtree-itself state.0), state.2)

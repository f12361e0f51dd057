-- Laws of two states: the faces of both, where they are free of clashes together.
use Rattle.std.proofs.Common.{◌≡◌, ℕ, Bool, true, false, true≢false, not, if◌then◌else◌, List, [], ◌∷◌, map, Contains, Option, Some, None, refl, ap, sym, ◌∙◌, subst, ⊎_elim}
use Rattle.std.specs.Prelude.{find}
use Rattle.std.specs.Option.{option_map, option_map_or, option_or}
use Rattle.cd_base.specs.declared.hash.Hash256.{Hash256}
use Rattle.cd_cell.specs.declared.info.ChildInfo.{ChildInfo}
use Rattle.cd_cell.specs.declared.new_cell.NewCell.{NewCell}
use Rattle.cd_cell.specs.FaceView.{FaceView}
use Rattle.cd_cell.specs.PreparedView.{PreparedView}
use Rattle.cd_cell.specs.Tree.{Tree, subtrees, face_of, rep_of}
use Rattle.cd_cell.specs.Equality.{same_face, same_face-Decides}
use Rattle.cd_cell.specs.Export.{distinct_cells}
use Rattle.cd_cell.specs.Listings.{new_cell_of, old_cells}
use Rattle.cd_cell.proofs.Subtrees.{Contains-cases, Contains-nil, Contains-mapped, flat_map-cases}
use Rattle.cd_cell.proofs.ExportOrder.{Contains-distinct_cells}
use Rattle.cd_update.specs.Pairing.{beside, wanted_hashes_below}
use Rattle.cd_prepare.specs.Merged.{AreOfBoth}
use Rattle.inspect_updates.specs.OldStates.{face_in, state_of, IsState}
use Rattle.inspect_updates.proofs.OldStateLaws.{beside-mapped, face_in-subtree, well_formed-good}
use Rattle.inspect_merged.specs.BothStates.{clash_between, clashes_with, face_in_both}

-- where no cell clashes, none of them does
clash_free : (left right : List NewCell) → clash_between left right ≡ None → (c : NewCell) → Contains right c → clashes_with left c ≡ false
clash_free left [] none c h = absurd (Contains-nil c h)
clash_free left (x ∷ xs) none c h = go (clashes_with left x) refl none (λ rest later. clash_free left xs rest c later)
  where
    go : (b : Bool) → clashes_with left x ≡ b → option_map (λ (d : NewCell). d.hash) (if b then Some x else find (clashes_with left) xs) ≡ None → (clash_between left xs ≡ None → Contains xs c → clashes_with left c ≡ false) → clashes_with left c ≡ false
    go true is bad behind = absurd (cc bad)
    go false is rest behind = ⊎_elim (λ same. ap (clashes_with left) (sym same) ∙ is) (λ later. behind rest later) (Contains-cases x xs c h)

-- a cell that doesn't clash has the face of the cell of its hash
same_unless_clash : (o : Option FaceView) (f g : FaceView) → option_map_or (λ face. not (same_face face g)) o false ≡ false → o ≡ Some f → f ≡ g
same_unless_clash None f g none is = absurd (cc is)
same_unless_clash (Some x) f g none is = go (same_face x g) refl none
  where
    go : (b : Bool) → same_face x g ≡ b → not b ≡ false → f ≡ g
    go true same none = cc (is) ∙ (same_face-Decides x g).0 same
    go false same none = absurd (true≢false none)

module _ (H : List ℕ → Hash256) (l r : PreparedView) (left : IsState H l) (right : IsState H r) (together : clash_between l.cells r.cells ≡ None) where
  face-right : (s : Tree) → Contains (subtrees (state_of H r)) s → face_in_both l.cells r.cells (rep_of H s) ≡ Some (face_of H s)
  face-right s sub = go (face_in l.cells (rep_of H s)) refl
    where
      listed : Contains r.cells (new_cell_of H s)
      listed = subst (λ cs. Contains cs (new_cell_of H s)) (sym right.all) (Contains-mapped (new_cell_of H) (distinct_cells H (state_of H r)) s (Contains-distinct_cells H (state_of H r) right.clear s sub))

      go : (o : Option FaceView) → face_in l.cells (rep_of H s) ≡ o → option_or o (face_in r.cells (rep_of H s)) ≡ Some (face_of H s)
      go None is = face_in-subtree H r right s sub
      go (Some f) is = ap Some (same_unless_clash (face_in l.cells (rep_of H s)) f (face_of H s) (clash_free l.cells r.cells together (new_cell_of H s) listed) is)

  face-left : (s : Tree) → Contains (subtrees (state_of H l)) s → face_in_both l.cells r.cells (rep_of H s) ≡ Some (face_of H s)
  face-left s sub = ap (λ o. option_or o (face_in r.cells (rep_of H s))) (face_in-subtree H l left s sub)

  -- each cell of both states is found by its hash
  face-both : (s : Tree) → Contains (old_cells (state_of H l ∷ state_of H r ∷ [])) s → face_in_both l.cells r.cells (rep_of H s) ≡ Some (face_of H s)
  face-both s sub =
      let from = flat_map-cases (state_of H l ∷ state_of H r ∷ []) s sub in
      ⊎_elim
      (λ same. face-left s (subst (λ t. Contains (subtrees t) s) (sym same) from.2))
      (λ later. ⊎_elim
      (λ same. face-right s (subst (λ t. Contains (subtrees t) s) (sym same) from.2))
      (λ none. absurd (Contains-nil from.0 none))
      (Contains-cases (state_of H r) [] from.0 later))
      (Contains-cases (state_of H l) (state_of H r ∷ []) from.0 from.1)

  -- the faces that are found for the hashes wanted below the joined cell are those of the states
  pub AreOfBoth-states : l.root.mask ≡ 0 → r.root.mask ≡ 0 → (u : Tree) (faces : List (Option FaceView)) → faces ≡ map (face_in_both l.cells r.cells) (wanted_hashes_below H u) → AreOfBoth H u (state_of H l) (state_of H r) l.root r.root faces
  AreOfBoth-states plain_l plain_r u faces are = record {
    well_left = well_formed-good H (state_of H l) left.good;
    well_right = well_formed-good H (state_of H r) right.good;
    plain_left = ap (λ (i : ChildInfo). i.mask) (sym left.top) ∙ plain_l;
    plain_right = ap (λ (i : ChildInfo). i.mask) (sym right.top) ∙ plain_r;
    left_is = left.top;
    right_is = right.top;
    found = λ s sub wanted.
        ap (λ fs. beside (wanted_hashes_below H u) fs (rep_of H s)) are
        ∙ beside-mapped (face_in_both l.cells r.cells) (wanted_hashes_below H u) (rep_of H s) wanted
        ∙ face-both s sub;
  }

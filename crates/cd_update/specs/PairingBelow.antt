-- Trusted: an old half beside its root's face, which is given, and the faces that were found for the hashes wanted below it.
use Rattle.std.specs.Prelude.{◌≡◌, ℕ, List, Contains, Option, Some, drop}
use Rattle.std.specs.List.{flat_map}
use Rattle.std.specs.Option.{option_or, option_map}
use Rattle.cd_base.specs.declared.hash.Hash256.{Hash256}
use Rattle.cd_cell.specs.declared.info.ChildInfo.{ChildInfo}
use Rattle.cd_cell.specs.FaceView.{FaceView}
use Rattle.cd_cell.specs.Levels.{stated_hash}
use Rattle.cd_cell.specs.CellFaults.{stated_depth_of_kid}
use Rattle.cd_cell.specs.Tree.{Tree, children, subtrees, info_of, face_of, rep_of, mask_of, IsWellFormed}
use Rattle.cd_cell.specs.Updates.{Misfit, UpdateRefusal, old_half, half_of}
use Rattle.cd_update.specs.EachOnce.{first_of}
use Rattle.cd_cell.specs.Places.{places}
use Rattle.cd_update.specs.Pairing.{beside, misfit_at, root_refusal, wanted_hashes_below}

module _ (H : List ℕ → Hash256) where
  -- the first cell of an old half, in preorder, that doesn't agree: the half's root with the face that is given for it,
  -- or a cell below with what was found for it
  abbrev pub misfit_under : FaceView → (Hash256 → Option FaceView) → Tree → Option Misfit
  misfit_under top look half =
      option_or (misfit_at H (λ hash. Some top) (record { tree = half; depth = 0 }))
      (first_of (misfit_at H look) (drop 1 (places H half 0)))

  -- why an update isn't paired with an old root of this face and the faces beside the hashes wanted below it
  abbrev pub refusal_below : Tree → ChildInfo → FaceView → List (Option FaceView) → Option UpdateRefusal
  refusal_below u root top faces =
      option_or (root_refusal (stated_hash (face_of H u) 1) (stated_depth_of_kid (face_of H u) 0) root)
      (option_map old_half (misfit_under top (beside (wanted_hashes_below H u) faces) (half_of u 0)))

  -- they are those of an old tree: beside each wanted hash that is the rep of a cell below its root stands that cell's
  -- face
  pub record AreBelow (t u : Tree) (root : ChildInfo) (top : FaceView) (faces : List (Option FaceView)) : Type 0 where
    pub well : IsWellFormed H t
    pub plain : mask_of H t ≡ 0
    pub shown : root ≡ info_of H t
    pub face : top ≡ face_of H t
    pub found : (s : Tree) → Contains (flat_map subtrees (children t)) s → Contains (wanted_hashes_below H u) (rep_of H s) → beside (wanted_hashes_below H u) faces (rep_of H s) ≡ Some (face_of H s)

-- Trusted: updates applied to an old tree, and what preparing one answers.
use Rattle.std.specs.Prelude.{◌≡◌, ℕ, List, [], ◌∷◌, map, Contains, Option, Ok}
use Rattle.std.specs.Option.{option_or, option_map}
use Rattle.cd_base.specs.declared.hash.Hash256.{Hash256}
use Rattle.cd_cell.specs.declared.info.ChildInfo.{ChildInfo}
use Rattle.cd_cell.specs.declared.new_cell.NewCell.{NewCell}
use Rattle.cd_cell.specs.FaceView.{FaceView}
use Rattle.cd_cell.specs.Levels.{stated_hash}
use Rattle.cd_cell.specs.Tree.{Tree, subtrees, info_of, face_of}
use Rattle.cd_cell.specs.Equality.{same_face}
use Rattle.cd_cell.specs.Export.{export_cmp, sorted_distinct, AreClashFree}
use Rattle.cd_cell.specs.Listings.{new_cell_of, Fits, IsOldOrListed, tree_of}
use Rattle.cd_cell.specs.Updates.{UpdateRefusal, old_hash, old_depth, old_half, foreign, half_of, refusal_of, applied, new_cells}
use Rattle.cd_cell.specs.Clashes.{clash_of}
use Rattle.cd_update.specs.EachOnce.{each_once}
use Rattle.cd_update.specs.Pairing.{met_infos, pair_refusal}
use Rattle.cd_update.specs.Grafts.{own_faces, foreign_hash}
use Rattle.cd_prepare.specs.declared.prepare_fault.PrepareFault.{PrepareFault}
use Rattle.cd_prepare.specs.declared.prepare_fault.PrepareFault.TheVariants.{OldHash, OldDepth, OldHalf, Foreign, NewClash}

abbrev pub fault_of_refusal : UpdateRefusal → PrepareFault
fault_of_refusal (old_hash stated real) = OldHash stated real
fault_of_refusal (old_depth stated real) = OldDepth stated real
fault_of_refusal (old_half misfit) = OldHalf misfit.hash misfit.stored misfit.shown
fault_of_refusal (foreign hash) = Foreign hash

-- the least hash that two different new cells share
abbrev pub clash_fault : (List ℕ → Hash256) → List FaceView → Option PrepareFault
clash_fault H faces = option_map (λ hash. NewClash hash) (clash_of H faces)

-- ---- by the faces that stand beside the wanted hashes

module _ (H : List ℕ → Hash256) (u : Tree) where
  -- the hashes that an update states of the old tree and of the new one
  abbrev pub stated_old : Hash256
  stated_old = stated_hash (face_of H u) 1

  abbrev pub stated_new : Hash256
  stated_new = stated_hash (face_of H u) 33

  -- the faces of the new half's own cells over what the old half meets
  abbrev pub grafted_faces : List FaceView
  grafted_faces = own_faces H (met_infos H (half_of u 0)) (half_of u 1)

  -- why an update isn't prepared: the first refusal of pairing or of grafting, or else a clash of two listed cells
  abbrev pub fault_by : Option UpdateRefusal → List FaceView → Option PrepareFault
  fault_by paired listed =
      option_or (option_map fault_of_refusal paired)
      (option_or (option_map (λ hash. Foreign hash) (foreign_hash H (met_infos H (half_of u 0)) (half_of u 1))) (clash_fault H listed))

  abbrev pub faces_fault : ChildInfo → List (Option FaceView) → Option PrepareFault
  faces_fault root faces = fault_by (pair_refusal H u root faces) grafted_faces

-- ---- over an old tree

module _ (H : List ℕ → Hash256) (u t : Tree) where
  -- the faces of the new cells, each once
  abbrev pub new_faces : List FaceView
  new_faces = each_once same_face (map (face_of H) (new_cells H u t))

  -- why an update isn't prepared over an old tree: the first refusal, or else a clash of two listed cells
  abbrev pub fault_over : List FaceView → Option PrepareFault
  fault_over listed = option_or (option_map fault_of_refusal (refusal_of H u t)) (clash_fault H listed)

  abbrev pub update_fault : Option PrepareFault
  update_fault = fault_over new_faces

  -- a root and listed cells are those of the update applied to the old tree: they fit over that, and stand for the new
  -- tree where the old tree and the new cells together are free of clashes; each cell of the new tree is an old one or is
  -- listed
  pub record IsUpdateApplied (root : ChildInfo) (cells : List NewCell) : Type 0 where
    pub tree : Tree
    pub is_applied : applied H u t ≡ Ok tree
    pub root_is : root ≡ info_of H tree
    pub cells_are : cells ≡ map (new_cell_of H) (sorted_distinct (export_cmp H) (new_cells H u t))
    pub fits : Fits H root cells (t ∷ [])
    pub stands : AreClashFree H (t ∷ new_cells H u t) → tree_of H root cells (t ∷ []) ≡ tree
    pub known : (s : Tree) → Contains (subtrees tree) s → IsOldOrListed H cells (t ∷ []) s

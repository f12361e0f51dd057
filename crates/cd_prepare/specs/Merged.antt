-- Trusted: updates applied to the joined tree of two states, and what preparing one answers.
use Rattle.std.specs.Prelude.{◌≡◌, ℕ, ◌+◌, max, nat_lt, Bool, if◌then◌else◌, List, [], ◌∷◌, ◌++◌, map, Contains, Option, Some, None, Ok}
use Rattle.std.specs.Option.{option_or}
use Rattle.cd_base.specs.declared.hash.Hash256.{Hash256}
use Rattle.cd_cell.specs.declared.limits.TheConstants.{GREATEST_DEPTH}
use Rattle.cd_cell.specs.declared.info.ChildInfo.{ChildInfo}
use Rattle.cd_cell.specs.declared.new_cell.NewCell.{NewCell}
use Rattle.cd_cell.specs.FaceView.{FaceView}
use Rattle.cd_cell.specs.Infos.{info_depth}
use Rattle.cd_cell.specs.Levels.{info_of_face}
use Rattle.cd_cell.specs.Tree.{Tree, subtrees, info_of, face_of, rep_of, mask_of, IsWellFormed}
use Rattle.cd_cell.specs.Export.{export_cmp, sorted_distinct, AreClashFree}
use Rattle.cd_cell.specs.Listings.{new_cell_of, old_cells, Fits, IsOldOrListed, tree_of}
use Rattle.cd_cell.specs.Joined.{joined_tree, joined_face}
use Rattle.cd_cell.specs.Updates.{half_of, applied, new_cells}
use Rattle.cd_update.specs.Hides.{hides}
use Rattle.cd_update.specs.Pairing.{beside, upto, wanted_hashes_below}
use Rattle.cd_update.specs.PairingBelow.{refusal_below}
use Rattle.cd_prepare.specs.declared.prepare_fault.PrepareFault.{PrepareFault}
use Rattle.cd_prepare.specs.declared.prepare_fault.PrepareFault.TheVariants.{SplitDeep}
use Rattle.cd_prepare.specs.Applied.{grafted_faces, fault_by, new_faces, fault_over}

-- ---- by what two states show, and by the faces that stand beside the hashes wanted below the root

-- the face of the joined cell, by what both show at level 0: a state has no other level
abbrev pub split_of : ChildInfo → ChildInfo → FaceView
split_of left right = joined_face (upto 0 left) (upto 0 right)

-- the depth of the joined cell
abbrev pub split_depth : ChildInfo → ChildInfo → ℕ
split_depth left right = max (info_depth left 0) (info_depth right 0) + 1

-- no cell has a depth over the greatest one
abbrev pub deep_fault : ChildInfo → ChildInfo → Option PrepareFault
deep_fault left right = if nat_lt GREATEST_DEPTH (split_depth left right) then Some (SplitDeep (split_depth left right)) else None

-- a joined cell, where it is listed
abbrev pub listed_if : {A : Type 0} → Bool → A → List A
listed_if given joined = if given then joined ∷ [] else []

module _ (H : List ℕ → Hash256) (u : Tree) (left right : ChildInfo) where
  -- the faces of the own cells, and that of the joined cell where the new half hides it: there the graft has it
  abbrev pub merged_faces : List FaceView
  merged_faces = grafted_faces H u ++ listed_if (hides H (info_of_face H (split_of left right)) (half_of u 1)) (split_of left right)

  -- why an update isn't prepared over two states
  abbrev pub split_fault : List (Option FaceView) → Option PrepareFault
  split_fault faces =
      option_or (deep_fault left right)
      (fault_by H u (refusal_below H u (info_of_face H (split_of left right)) (split_of left right) faces) merged_faces)

-- ---- over the trees of two states

module _ (H : List ℕ → Hash256) (u a b : Tree) where
  abbrev pub joined : Tree
  joined = joined_tree a b

  -- the new half hides the joined cell: the graft has it there, since of the known cells the old root is the first
  abbrev pub is_given : Bool
  is_given = hides H (info_of H joined) (half_of u 1)

  -- the new cells, and the joined cell where the graft has it
  abbrev pub merged_cells : List Tree
  merged_cells = new_cells H u joined ++ listed_if is_given joined

  -- why an update isn't prepared over the joined tree: it is too deep, or the first refusal, or else a clash of two
  -- listed cells
  abbrev pub merged_fault : Option PrepareFault
  merged_fault =
      option_or (deep_fault (info_of H a) (info_of H b))
      (fault_over H u joined (new_faces H u joined ++ listed_if is_given (face_of H joined)))

  -- what is given are two states and faces: beside each hash wanted below the root that is the rep of a cell of a state
  -- stands that cell's face
  pub record AreOfBoth (left right : ChildInfo) (faces : List (Option FaceView)) : Type 0 where
    pub well_left : IsWellFormed H a
    pub well_right : IsWellFormed H b
    pub plain_left : mask_of H a ≡ 0
    pub plain_right : mask_of H b ≡ 0
    pub left_is : left ≡ info_of H a
    pub right_is : right ≡ info_of H b
    pub found : (s : Tree) → Contains (old_cells (a ∷ b ∷ [])) s → Contains (wanted_hashes_below H u) (rep_of H s) → beside (wanted_hashes_below H u) faces (rep_of H s) ≡ Some (face_of H s)

  -- a root and listed cells are those of the update applied to the joined tree: they fit over the two states, and stand
  -- for the new tree where the states and the listed cells together are free of clashes; each cell of the new tree is one
  -- of a state or is listed
  pub record IsMergeApplied (root : ChildInfo) (cells : List NewCell) : Type 0 where
    pub tree : Tree
    pub is_applied : applied H u joined ≡ Ok tree
    pub root_is : root ≡ info_of H tree
    pub cells_are : cells ≡ map (new_cell_of H) (sorted_distinct (export_cmp H) merged_cells)
    pub fits : Fits H root cells (a ∷ b ∷ [])
    pub stands : AreClashFree H (a ∷ b ∷ merged_cells) → tree_of H root cells (a ∷ b ∷ []) ≡ tree
    pub known : (s : Tree) → Contains (subtrees tree) s → IsOldOrListed H cells (a ∷ b ∷ []) s

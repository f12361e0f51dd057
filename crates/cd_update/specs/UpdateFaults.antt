-- Trusted: the bags that have a Merkle update, by the trees of their roots.
use Rattle.std.specs.Prelude.{◌≡◌, ℕ, ◌<◌, nat_lt, Bool, true, false, if◌then◌else◌, List, [], ◌∷◌, length, Option, Some, None}
use Rattle.cd_base.specs.declared.hash.Hash256.{Hash256}
use Rattle.cd_cell.specs.declared.kind.Kind.{Kind}
use Rattle.cd_cell.specs.declared.kind.Kind.TheVariants.{Update}
use Rattle.cd_cell.specs.FaceView.{FaceView}
use Rattle.cd_cell.specs.Levels.{kind_of_face, mask_of_face}
use Rattle.cd_cell.specs.Tree.{Tree, kind_of, mask_of}
use Rattle.cd_cell.specs.Bags.{face_at}
use Rattle.cd_update.specs.declared.update_fault.UpdateFault.{UpdateFault}
use Rattle.cd_update.specs.declared.update_fault.UpdateFault.TheVariants.{NotUpdate, Level}

abbrev pub is_update : Option Kind → Bool
is_update (Some Update) = true
is_update _ = false

abbrev pub level_fault : ℕ → Option UpdateFault
level_fault m = if nat_lt 0 m then Some (Level m) else None

-- what keeps some trees from being one update of mask 0
abbrev pub fault_of_trees : (List ℕ → Hash256) → List Tree → Option UpdateFault
fault_of_trees H [] = Some NotUpdate
fault_of_trees H (t ∷ []) = if is_update (kind_of H t) then level_fault (mask_of H t) else Some NotUpdate
fault_of_trees H (t ∷ s ∷ ts) = Some NotUpdate

-- the entry is a Merkle update of mask 0
pub record IsUpdateEntry (cells : List FaceView) (root : ℕ) : Type 0 where
  pub there : root < length cells
  pub kind : kind_of_face (face_at cells root) ≡ Some Update
  pub plain : mask_of_face (face_at cells root) ≡ 0

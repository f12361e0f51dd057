-- Trusted: the faces of well-formed cells, as a fact for each kind (TVM documentation, "Cells").
use Rattle.std.specs.Prelude.{◌≡◌, ◌≢◌, ℕ, ◌+◌, ◌*◌, ◌≤◌, length, Some, None}
use Rattle.cd_cell.specs.declared.limits.TheConstants.{GREATEST_DEPTH}
use Rattle.cd_cell.specs.declared.kind.Kind.TheVariants.{Pruned, Library, Proof, Update}
use Rattle.cd_cell.specs.Masks.{bit_count}
use Rattle.cd_cell.specs.Infos.{info_hash, info_depth}
use Rattle.cd_cell.specs.FaceView.{FaceView}
use Rattle.cd_cell.specs.Levels.{kind_of_face, stated_hash, depth_of_face}
use Rattle.cd_cell.specs.CellFaults.{kid_at, second_byte, stated_depth_of_kid}

-- a pruned branch: a mask of 1 to 7, and a hash and a depth for each of its bits
pub record IsPrunedFace (f : FaceView) : Type 0 where
  pub refs : length f.kids ≡ 0
  pub some_level : 1 ≤ second_byte f
  pub three_levels : second_byte f ≤ 7
  pub bits : length f.bits ≡ 16 + 272 * bit_count (second_byte f)

-- a library reference: a hash
pub record IsLibraryFace (f : FaceView) : Type 0 where
  pub refs : length f.kids ≡ 0
  pub bits : length f.bits ≡ 264

-- what is stated of the child in a place is the child's at level 0
pub record StatesKid (f : FaceView) (place : ℕ) : Type 0 where
  pub hash : stated_hash f (1 + 32 * place) ≡ info_hash (kid_at f place) 0
  pub depth : stated_depth_of_kid f place ≡ info_depth (kid_at f place) 0

pub record IsProofFace (f : FaceView) : Type 0 where
  pub refs : length f.kids ≡ 1
  pub bits : length f.bits ≡ 280
  pub kid : StatesKid f 0

pub record IsUpdateFace (f : FaceView) : Type 0 where
  pub refs : length f.kids ≡ 2
  pub bits : length f.bits ≡ 552
  pub before : StatesKid f 0
  pub after : StatesKid f 1

-- the face of a cell whose children are well-formed is fit exactly where the cell is well-formed
pub record IsFaceFit (f : FaceView) : Type 0 where
  pub known : kind_of_face f ≢ None
  pub pruned : kind_of_face f ≡ Some Pruned → IsPrunedFace f
  pub library : kind_of_face f ≡ Some Library → IsLibraryFace f
  pub proof : kind_of_face f ≡ Some Proof → IsProofFace f
  pub update : kind_of_face f ≡ Some Update → IsUpdateFace f
  pub depths : (l : ℕ) → l ≤ 3 → depth_of_face f l ≤ GREATEST_DEPTH

-- Inner: the cells that a plan finds, before they are put in order.
use Rattle.std.specs.Prelude.{◌≡◌, ◌⊎◌, ℕ, ◌<◌, ◌≤◌, ◌++◌, List, length, map, take, slice_index_or, All, Contains, Option, Some}
use Rattle.std.specs.BTreeMap.{BTreeMap, btree_map_len, IsOrdered}
use Rattle.cd_base.specs.declared.hash.Hash256.{Hash256}
use Rattle.cd_cell.specs.declared.info.ChildInfo.{ChildInfo}
use Rattle.cd_cell.specs.declared.limits.TheConstants.{MOST_CELLS}
use Rattle.cd_cell.specs.declared.new_cell.NewCell.{NewCell}
use Rattle.cd_cell.specs.FaceView.{FaceView}
use Rattle.cd_cell.specs.GoodFace.{IsGoodFace}
use Rattle.cd_cell.specs.Infos.{no_hash}
use Rattle.cd_cell.specs.Bags.{face_at}
use Rattle.cd_cell.specs.Tree.{Tree, subtrees}
use Rattle.cd_event.specs.Pins.{IsState}
use Rattle.cd_event.specs.declared.faults.LookFault.TheVariants as look
use Rattle.cd_looks.specs.Answers.{IsFaceAt, face_or_empty}
use Rattle.cd_slices.specs.declared.faults.PlanFault.{PlanFault}
use Rattle.cd_slices.specs.declared.faults.PlanFault.TheVariants as plan
use Rattle.cd_slices.specs.declared.gather.Gathered.{Gathered}
use Rattle.cd_cell.specs.declared.export_key.ExportRank.{ExportRank}
use Rattle.cd_cell.specs.Keys.{rank_cmp}
use Rattle.cd_slices.specs.Ranks.{rank_of_info, rank_of, IsPlaced, IsKnown}

abbrev pub hash_at : Gathered → ℕ → Hash256
hash_at all place = slice_index_or all.hashes.items place no_hash

abbrev pub found_at : Gathered → ℕ → FaceView
found_at all place = face_at all.faces.items place

-- each known cell has its place and its rank, and what the looked at ones show of their children is known
pub record IsGathered (all : Gathered) : Type 0 where
  pub few : length all.hashes.items ≤ MOST_CELLS
  pub ordered : IsOrdered rank_cmp all.places
  pub counted : btree_map_len all.places ≡ length all.hashes.items
  pub ranked : (place : ℕ) → place < length all.hashes.items → (rank : ExportRank) × IsPlaced all.places rank place × (rank.hash ≡ hash_at all place)
  pub placed : (rank : ExportRank) (place : ℕ) → IsPlaced all.places rank place → (place < length all.hashes.items) × (hash_at all place ≡ rank.hash)
  pub seen : length all.faces.items ≤ length all.hashes.items
  pub good : All IsGoodFace all.faces.items
  pub closed : (place : ℕ) (kid : ChildInfo) → place < length all.faces.items → Contains (found_at all place).kids kid → IsKnown all.places (rank_of_info kid)

-- what was known stays so, in its place
pub record Grows (old new : Gathered) : Type 0 where
  pub longer : length old.hashes.items ≤ length new.hashes.items
  pub hashes : (place : ℕ) → place < length old.hashes.items → hash_at new place ≡ hash_at old place
  pub known : (rank : ExportRank) → IsKnown old.places rank → IsKnown new.places rank

-- only the ranks of cells that show one of these have come
abbrev pub AddsOnly : (ChildInfo → Type 0) → BTreeMap ExportRank ℕ → BTreeMap ExportRank ℕ → Type 0
AddsOnly from old new = (rank : ExportRank) → IsKnown new rank → IsKnown old rank ⊎ ((info : ChildInfo) × from info × (rank_of_info info ≡ rank))

-- what the children of these faces show
abbrev pub IsKidOf : List FaceView → ChildInfo → Type 0
IsKidOf faces info = (place : ℕ) × (place < length faces) × Contains (face_at faces place).kids info

-- the faces that a look gave
abbrev pub given_faces : List (Option FaceView) → List FaceView
given_faces found = map face_or_empty found

-- too many ranks are known, or memory ran out
abbrev pub IsTakingFault : PlanFault → BTreeMap ExportRank ℕ → Type 0
IsTakingFault (plan.TooMany limit) places = (limit ≡ MOST_CELLS) × (MOST_CELLS < btree_map_len places) × IsOrdered rank_cmp places
IsTakingFault (plan.Look fault) places = ⊥
IsTakingFault plan.Memory places = Unit {0}

-- the same, or a look's keeper failed
abbrev pub IsGatherFault : PlanFault → BTreeMap ExportRank ℕ → Type 0
IsGatherFault (plan.TooMany limit) places = (limit ≡ MOST_CELLS) × (MOST_CELLS < btree_map_len places) × IsOrdered rank_cmp places
IsGatherFault (plan.Look fault) places = fault ≡ look.Keeper
IsGatherFault plan.Memory places = Unit {0}

module _ (H : List ℕ → Hash256) where
  -- each known rank is that of a cell of the tree
  abbrev pub AreRanksOf : Tree → BTreeMap ExportRank ℕ → Type 0
  AreRanksOf t places = (rank : ExportRank) → IsKnown places rank → (s : Tree) × Contains (subtrees t) s × (rank_of H s ≡ rank)

  -- the known cells are those of the told tree, and so are the faces
  pub record AreTold (told : Option Tree) (all : Gathered) : Type 0 where
    pub ranks : (t : Tree) → told ≡ Some t → AreRanksOf t all.places
    pub faces : (place : ℕ) → place < length all.faces.items → IsFaceAt H told (hash_at all place) (found_at all place)

  -- all cells of the told tree are known, and their faces
  pub record AreWhole (told : Option Tree) (root : ChildInfo) (all : Gathered) : Type 0 where
    pub state : (t : Tree) → told ≡ Some t → IsState H t
    pub cells : AreTold told all
    pub top : IsKnown all.places (rank_of_info root)
    pub done : length all.faces.items ≡ length all.hashes.items

-- a known cell as it is listed
abbrev pub cell_in : List FaceView → ExportRank × ℕ → NewCell
cell_in faces entry = record { hash = entry.0.hash; face = face_at faces entry.1 }

-- what the first so many children show was taken in
pub record TakesKids (old new : Gathered) (kids : List ChildInfo) (count : ℕ) : Type 0 where
  pub whole : IsGathered new
  pub grows : Grows old new
  pub faces : new.faces.items ≡ old.faces.items
  pub known : (place : ℕ) (d : ChildInfo) → place < count → IsKnown new.places (rank_of_info (slice_index_or kids place d))
  pub adds : AddsOnly (Contains kids) old.places new.places

-- the first so many faces were taken in
pub record TakesFaces (old new : Gathered) (found : List (Option FaceView)) (count : ℕ) : Type 0 where
  pub whole : IsGathered new
  pub grows : Grows old new
  pub faces : new.faces.items ≡ old.faces.items ++ given_faces (take count found)
  pub adds : AddsOnly (IsKidOf (given_faces found)) old.places new.places

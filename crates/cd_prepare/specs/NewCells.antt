-- Inner: own cells of an update by their faces, listed in the order of an export.
use Rattle.std.specs.Prelude.{◌≡◌, ℕ, ◌<◌, List, length, slice_index_or, Contains, AllPairs}
use Rattle.std.specs.declared.cmp.Ordering.TheVariants.{Less}
use Rattle.cd_base.specs.declared.hash.Hash256.{Hash256}
use Rattle.cd_cell.specs.declared.info.ChildInfo.{ChildInfo}
use Rattle.cd_cell.specs.declared.new_cell.NewCell.{NewCell}
use Rattle.cd_cell.specs.FaceView.{FaceView}
use Rattle.cd_cell.specs.CellFaults.{no_info}
use Rattle.cd_cell.specs.Levels.{rep_of_face}
use Rattle.cd_cell.specs.Listings.{listing_cmp}
use Rattle.cd_cell.specs.declared.export_key.ExportKey.{ExportKey}
use Rattle.cd_cell.specs.Keys.{export_key}

-- the keys of cells by what they show, in their places
pub record AreKeys (infos : List ChildInfo) (keys : List ExportKey) (count : ℕ) : Type 0 where
  pub counted : length keys ≡ count
  pub made : (k : ℕ) (d : ExportKey) → k < count → slice_index_or keys k d ≡ export_key (slice_index_or infos k no_info) k

-- a face as it is listed
abbrev pub new_cell_with : (List ℕ → Hash256) → FaceView → NewCell
new_cell_with H face = record { hash = rep_of_face H face; face = face }

-- these faces in the order of an export
pub record AreListed (H : List ℕ → Hash256) (faces : List FaceView) (cells : List NewCell) : Type 0 where
  pub ordered : AllPairs (λ a b. listing_cmp a b ≡ Less) cells
  pub within : (c : NewCell) → Contains cells c → (face : FaceView) × Contains faces face × (c ≡ new_cell_with H face)
  pub whole : (face : FaceView) → Contains faces face → Contains cells (new_cell_with H face)

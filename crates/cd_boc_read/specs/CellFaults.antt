-- Trusted: what is wrong with the cells of a bag, once their texts are read: from the last cell downwards the first
-- fault of each, and then the least hash that two different cells have.
use Rattle.std.specs.Prelude.{ℕ, ◌+◌, Bool, true, not, ◌&&◌, ◌==◌, List, [], ◌∷◌, Option, Some, None, is_some, if◌then◌else◌}
use Rattle.std.specs.Option.{option_or, option_map}
use Rattle.std.specs.Str.{bytes_eq}
use Rattle.cd_base.specs.declared.hash.Hash256.{Hash256}
use Rattle.cd_cell.specs.declared.info.ChildInfo.{ChildInfo}
use Rattle.cd_cell.specs.FaceView.{FaceView}
use Rattle.cd_cell.specs.Levels.{mask_of_face, info_of_face}
use Rattle.cd_cell.specs.CellFaults.{first_byte, face_fault}
use Rattle.cd_cell.specs.StoredText.{stored_text}
use Rattle.cd_cell.specs.Unfolding.{infos_from, faces_from}
use Rattle.cd_cell.specs.Clashes.{clash_of}
use Rattle.cd_boc_write.specs.CellTexts.{Text, entries_of_texts}
use Rattle.cd_boc_read.specs.declared.bag_fault.BagFault.{BagFault}
use Rattle.cd_boc_read.specs.declared.bag_fault.BagFault.TheVariants.{PrunedHashes, Cell, MaskDiffers, StoredHash, Clash}

-- the fault, where the test fails
abbrev pub unless : Bool → BagFault → Option BagFault
unless holds fault = if holds then None else Some fault

-- whether the text stores hashes of an exotic cell whose first byte is that of a pruned branch
abbrev pub stores_pruned : Text → FaceView → Bool
stores_pruned t f = (t.entry.exotic && is_some t.stored) && (first_byte f == 1)

-- what is stored, if anything is, is what the cell shows
abbrev pub is_shown : Option (List ℕ) → ChildInfo → Bool
is_shown None info = true
is_shown (Some bytes) info = bytes_eq bytes (stored_text info)

module _ (H : List ℕ → Hash256) where
  -- the first fault of the cell with this number, by its text and its face
  abbrev pub cell_fault : ℕ → Text → FaceView → Option BagFault
  cell_fault number t f =
      option_or (unless (not (stores_pruned t f)) (PrunedHashes number))
      (option_or (option_map (Cell number) (face_fault f))
      (option_or (unless (t.mask == mask_of_face f) (MaskDiffers number))
      (unless (is_shown t.stored (info_of_face H f)) (StoredHash number))))

  -- the first fault of the cells from the last one downwards, of which the first has this number
  unfoldable pub cells_fault : ℕ → List Text → List FaceView → Option BagFault
  cells_fault number [] fs = None
  cells_fault number (t ∷ ts) [] = None
  cells_fault number (t ∷ ts) (f ∷ fs) = option_or (cells_fault (number + 1) ts fs) (cell_fault number t f)

  -- the faces of the cells that have these texts, and what they show
  abbrev pub faces_of_texts : List Text → List FaceView
  faces_of_texts ts = faces_from H 0 (entries_of_texts ts)

  abbrev pub infos_of_texts : List Text → List ChildInfo
  infos_of_texts ts = infos_from H 0 (entries_of_texts ts)

  -- the first fault of a cell, from the last one downwards
  abbrev pub fault_of_cells : List Text → Option BagFault
  fault_of_cells ts = cells_fault 0 ts (faces_of_texts ts)

  -- the first fault of all the cells
  abbrev pub fault_of_texts : List Text → Option BagFault
  fault_of_texts ts = option_or (fault_of_cells ts) (option_map Clash (clash_of H (faces_of_texts ts)))

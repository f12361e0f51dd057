-- Trusted: the export text of listed cells: a bag of all of them with an index and a checksum, without cache bits and without
-- stored hashes, whose one root is the first (TL-B, `serialized_boc`).
use Rattle.std.specs.Prelude.{ℕ, ◌^◌, true, false, List, [], ◌∷◌, ◌++◌, length, map, find, position, nat_lt, None, unwrap_or}
use Rattle.cd_base.specs.declared.hash.Hash256.{Hash256}
use Rattle.cd_cell.specs.declared.info.ChildInfo.{ChildInfo}
use Rattle.cd_cell.specs.declared.new_cell.NewCell.{NewCell}
use Rattle.cd_cell.specs.Infos.{rep_of_info}
use Rattle.cd_cell.specs.FaceView.{FaceView}
use Rattle.cd_cell.specs.Levels.{mask_of_face}
use Rattle.cd_cell.specs.Tree.{Tree}
use Rattle.cd_cell.specs.Equality.{same_hash}
use Rattle.cd_cell.specs.Export.{distinct_cells}
use Rattle.cd_cell.specs.Listings.{new_cell_of}
use Rattle.cd_boc_write.specs.declared.shape.Shape.{Shape}
use Rattle.cd_boc_write.specs.Frames.{Frame, shape_text, counts_text, numbers_text, frame_text}
use Rattle.cd_boc_write.specs.CellTexts.{Text, texts_text, ends_from}

-- the least number of bytes, from 1 to 8, in which a number has room
unfoldable pub width_of : ℕ → ℕ
width_of n = unwrap_or (find (λ width. nat_lt n (256 ^ width)) (1 ∷ 2 ∷ 3 ∷ 4 ∷ 5 ∷ 6 ∷ 7 ∷ 8 ∷ [])) 8

-- the first place at which this hash is listed, or 0
unfoldable pub place_among : List NewCell → Hash256 → ℕ
place_among cells hash = unwrap_or (position (λ c. same_hash c.hash hash) cells) 0

-- the text of a cell whose children have these numbers; nothing is stored
abbrev pub text_of_face : FaceView → List ℕ → Text
text_of_face face refs = record { entry = record { exotic = face.exotic; bits = face.bits; refs = refs }; mask = mask_of_face face; stored = None }

-- among listed cells the children are numbered by the places of their representation hashes
abbrev pub refs_among : List NewCell → List ChildInfo → List ℕ
refs_among cells kids = map (λ kid. place_among cells (rep_of_info kid)) kids

abbrev pub text_of_cell : List NewCell → NewCell → Text
text_of_cell cells c = text_of_face c.face (refs_among cells c.face.kids)

abbrev pub export_texts : List NewCell → List Text
export_texts cells = map (text_of_cell cells) cells

-- the shape of an export, whose numbers are of `size` and whose offsets of `off_bytes` bytes
abbrev pub export_shape : ℕ → ℕ → Shape
export_shape size off_bytes = record { size = size; off_bytes = off_bytes; has_index = true; has_crc = true; has_cache_bits = false }

-- the least sizes that do, one root, which is the first cell, and an index of the ends of the cells
unfoldable pub export_frame : List NewCell → Frame
export_frame cells =
    let size = width_of (length cells) in
    let bytes = texts_text size (export_texts cells) in
    record { shape = export_shape size (width_of (length bytes)); cells = length cells; roots = 0 ∷ []; index = ends_from size 0 (export_texts cells); cell_data = bytes }

abbrev pub export_text : List NewCell → List ℕ
export_text cells = frame_text (export_frame cells)

-- the export text of a tree
abbrev pub bag_of : (List ℕ → Hash256) → Tree → List ℕ
bag_of H t = export_text (map (new_cell_of H) (distinct_cells H t))

-- all that stands before the cell data
unfoldable pub header_text : Shape → ℕ → List ℕ → List ℕ → ℕ → List ℕ
header_text shape cells roots index total =
    shape_text shape ++ counts_text shape cells (length roots) total ++ numbers_text shape.size roots ++ numbers_text shape.off_bytes index

abbrev pub header_of : Frame → List ℕ
header_of f = header_text f.shape f.cells f.roots f.index (length f.cell_data)

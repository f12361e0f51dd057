-- Inner: what the code's structs are, without where they lie in memory.
use Rattle.std.specs.Prelude.{◌≡◌, ◌≢◌, ℕ, List, ◌++◌, map, take, slice_index_or, Option, MatchOption}
use Rattle.std.specs.Borrow.{Bor}
use Rattle.std.specs.Option.{option_map}
use Rattle.cd_cell.specs.declared.info.ChildInfo.{ChildInfo}
use Rattle.cd_cell.specs.FaceView.{FaceView}
use Rattle.cd_cell.specs.CellFaults.{no_info}
use Rattle.cd_cell.specs.Tree.{Tree}
use Rattle.cd_cell.specs.Unfolding.{unfolding_of}
use Rattle.cd_boc_write.specs.Frames.{Frame}
use Rattle.cd_boc_write.specs.CellTexts.{Text, entries_of_texts}
use Rattle.cd_boc_read.specs.declared.cell_text.CellText.{CellText}
use Rattle.cd_boc_read.specs.declared.frame_text.FrameText.{FrameText}
use Rattle.cd_boc_read.specs.declared.bag_text.BagText.{BagText}
use Rattle.cd_boc_read.specs.Reading.{FrameParts, frame_of}

-- the numbers of the children
abbrev pub refs_view : CellText → List ℕ
refs_view t = take t.count t.refs

abbrev pub text_view : CellText → Text
text_view t = record {
  entry = record { exotic = t.exotic; bits = t.bits; refs = refs_view t };
  mask = t.mask;
  stored = option_map (λ s. s.now) t.stored;
}

abbrev pub text_views : List CellText → List Text
text_views ts = map text_view ts

abbrev pub parts_view : FrameText → FrameParts
parts_view f =
    record { shape = f.shape; cells = f.cells; roots = f.roots.items; index = f.index.now; cell_data = f.cell_data.now }

abbrev pub bag_view : BagText → Frame × List Text
bag_view b = (frame_of (parts_view b.frame), text_views b.texts.items)

-- the trees of the roots, as the texts of the cells unfold
abbrev pub roots_unfolded : Frame × List Text → List Tree
roots_unfolded bag = map (unfolding_of (entries_of_texts bag.1)) bag.0.roots

-- the face of a cell, by what all cells show
abbrev pub face_among : List ChildInfo → CellText → FaceView
face_among infos t =
    record { exotic = t.exotic; bits = t.bits; kids = map (λ number. slice_index_or infos number no_info) (refs_view t) }

-- what is left behind a front, where the bytes begin with it
abbrev pub IsBehind : List ℕ → List ℕ → Option (Bor (List ℕ)) → Type 0
IsBehind bytes front left =
    MatchOption left ((rest : List ℕ) → bytes ≢ front ++ rest) (λ rest. bytes ≡ front ++ rest.now)

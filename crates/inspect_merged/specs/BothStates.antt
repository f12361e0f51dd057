-- Trusted: two states beside each other: the first clash of their cells, and the faces of both.
use Rattle.std.specs.Prelude.{Bool, false, not, List, Option, find}
use Rattle.std.specs.Option.{option_map, option_map_or, option_or}
use Rattle.cd_base.specs.declared.hash.Hash256.{Hash256}
use Rattle.cd_cell.specs.declared.new_cell.NewCell.{NewCell}
use Rattle.cd_cell.specs.FaceView.{FaceView}
use Rattle.cd_cell.specs.Equality.{same_face}
use Rattle.inspect_updates.specs.OldStates.{face_in}

-- listed cells have another cell of the hash of this one
abbrev pub clashes_with : List NewCell → NewCell → Bool
clashes_with cells c = option_map_or (λ face. not (same_face face c.face)) (face_in cells c.hash) false

-- the hash of the first cell on the right that clashes with one on the left
abbrev pub clash_between : List NewCell → List NewCell → Option Hash256
clash_between left right = option_map (λ c. c.hash) (find (clashes_with left) right)

-- the face of the first cell of a hash, on the left or else on the right
abbrev pub face_in_both : List NewCell → List NewCell → Hash256 → Option FaceView
face_in_both left right hash = option_or (face_in left hash) (face_in right hash)

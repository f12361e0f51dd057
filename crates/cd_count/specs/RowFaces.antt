-- Inner: the face in a row, wherever it stands.
use Rattle.cd_cell.specs.FaceView.{FaceView}
use Rattle.cd_count.specs.declared.row_face.Place.{Place}
use Rattle.cd_count.specs.declared.row_face.Place.TheVariants.{Listed, Read}

abbrev pub face_at : Place → FaceView
face_at (Listed face) = face.now
face_at (Read face) = face.value

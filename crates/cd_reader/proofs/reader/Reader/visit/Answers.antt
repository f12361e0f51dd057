use Rattle.std.proofs.Common.{◌≡◌, Some, None, sym, ap, subst}
use Rattle.cd_cell.specs.FaceView.{FaceView}
use Rattle.cd_cell.specs.GoodFace.{IsGoodFace}
use Rattle.cd_looks.specs.Answers.{face_or_empty}
use Rattle.cd_looks.proofs.EmptyCell.{face_given}
use Rattle.cd_reader.proofs.reader.Reader.visit.Goals as goal

pub returns-in-Ok-clause-face : goal.returns-in-Ok-clause-face
returns-in-Ok-clause-face g c = λ t s is here same.
    rw c.face_or_empty.ensures.value (face_given c.in-Ok.found _ (c.in-Ok.ensures.face t s is here same))

pub returns-in-Ok-clause-good : goal.returns-in-Ok-clause-good
returns-in-Ok-clause-good g c = c.face_or_empty.ensures.good c.in-Ok.ensures.good

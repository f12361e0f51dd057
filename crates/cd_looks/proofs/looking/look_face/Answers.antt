use Rattle.std.proofs.Common.{◌∙◌}
use Rattle.cd_looks.proofs.EmptyCell.{face_given}
use Rattle.cd_looks.proofs.looking.look_face.Goals as goal

pub returns-in-Ok-clause-face : goal.returns-in-Ok-clause-face
returns-in-Ok-clause-face g c = λ t s told is here. c.face_or_empty.ensures.value ∙ face_given c.in-Ok.found _ (c.in-Ok.ensures.face t s told is here)

use Rattle.std.proofs.Common.{◌≡◌, sym, subst, rules}
use Rattle.cd_cell.specs.GoodFace.{IsGoodFace}
use Rattle.cd_looks.specs.Answers.{empty_face}
use Rattle.cd_looks.proofs.EmptyCell.{empty_is_good}
use Rattle.cd_looks.proofs.looking.face_or_empty.Goals as goal

pub returns-in-None-clause-good : goal.returns-in-None-clause-good
returns-in-None-clause-good c = λ _. let same : c.new.result ≡ empty_face = search rules in subst IsGoodFace (sym same) empty_is_good

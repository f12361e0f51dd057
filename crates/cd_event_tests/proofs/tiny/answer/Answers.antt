use Rattle.std.proofs.Common.{sym, subst}
use Rattle.cd_cell.specs.GoodFace.{IsGoodFace}
use Rattle.cd_event_tests.proofs.States.{empty_is_good}
use Rattle.cd_event_tests.proofs.tiny.answer.Goals as goal

pub returns-then-eq-clause-good : goal.returns-then-eq-clause-good
returns-then-eq-clause-good g c = subst IsGoodFace (sym c.empty_face-face.ensures) (empty_is_good g.H.Hash32.digest_of)

use Rattle.std.proofs.Common.{sym, subst}
use Rattle.cd_cell.specs.Fit.{IsFaceFit}
use Rattle.cd_event_tests.proofs.States.{empty_fits}
use Rattle.cd_event_tests.proofs.tiny.empty_info.Goals as goal

pub face_info-requires : goal.face_info-requires
face_info-requires g c = subst IsFaceFit (sym c.empty_face.ensures) (empty_fits g.H.Hash32.digest_of)

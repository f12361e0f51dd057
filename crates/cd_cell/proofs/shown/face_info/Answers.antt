-- What a fit face shows is flat.
use Rattle.std.proofs.Common.{sym, subst}
use Rattle.cd_cell.specs.Steady.{IsFlat}
use Rattle.cd_cell.proofs.Heights.{IsFlat-info_of_face}
use Rattle.cd_cell.proofs.shown.face_info.Goals as goal

pub returns-in-Some-Pruned-clause-flat : goal.returns-in-Some-Pruned-clause-flat
returns-in-Some-Pruned-clause-flat g c =
    subst IsFlat (sym c.pruned_info.ensures) (IsFlat-info_of_face g.H.Hash32.digest_of c.args.face.now c.requires)

pub returns-in-Some-clause-flat : goal.returns-in-Some-clause-flat
returns-in-Some-clause-flat g c =
    subst IsFlat (sym c.plain_info.ensures) (IsFlat-info_of_face g.H.Hash32.digest_of c.args.face.now c.requires)

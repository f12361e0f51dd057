use Rattle.std.proofs.Common.{◌≡◌, rules}
use Rattle.cd_cell.specs.Equality.{same_face, iff_from_same_face}
use Rattle.cd_cell.proofs.face.FacePartialEq.eq.Goals as goal

pub returns-then-eq-clause-value : goal.returns-then-eq-clause-value
returns-then-eq-clause-value c =
    let test : c.eq-then-eq.result ≡ same_face c.args.self.now c.args.other.now = search rules in
    iff_from_same_face _ _ _ test

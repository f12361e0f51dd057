use Rattle.std.proofs.Common.{◌≡◌, ◌≤◌, length, Some, ap, arith}
use Rattle.cd_cell.specs.CellFaults.{face_fault}
use Rattle.cd_cell.proofs.FitLemmas.{IsFaceFit_from, face_fault-fit}
use Rattle.cd_cell.proofs.WellFormedCells.{passed, refused}
use Rattle.cd_cell.proofs.face.Face.check.Goals as goal

pub returns-in_err-kind-clause-tree : goal.returns-in_err-kind-clause-tree
returns-in_err-kind-clause-tree c = λ H t is kids.
    let form = c.in_err-kind.ensures.exact in
    let fault : face_fault c.args.self.now ≡ Some c.in_err-kind.field-0.0 = rw form in
    refused H c.args.self.now c.from_residual.result c.in_err-kind.field-0.0 t c.from_residual.ensures.0 fault is

pub returns-clause-fit : goal.returns-clause-fit
returns-clause-fit c =
    let exact = c.in_ok-kind.ensures.exact in
    IsFaceFit_from c.args.self.now exact.0 (rw (← c.greatest-depth.ensures) c.if-depth-gt-GREATEST_DEPTH.false)

pub returns-clause-good : goal.returns-clause-good
returns-clause-good c =
    let exact = c.in_ok-kind.ensures.exact in
    record {
      bits = omega (arith, c.len.ensures.few, c.len.ensures.value, ap length c.bits.ensures);
      kids = omega (arith, c.refs.ensures.few, c.refs.ensures.value);
      fit = IsFaceFit_from c.args.self.now exact.0 (rw (← c.greatest-depth.ensures) c.if-depth-gt-GREATEST_DEPTH.false);
    }

pub returns-clause-tree : goal.returns-clause-tree
returns-clause-tree c = λ H t is kids.
    let exact = c.in_ok-kind.ensures.exact in
    let fit = IsFaceFit_from c.args.self.now exact.0 (rw (← c.greatest-depth.ensures) c.if-depth-gt-GREATEST_DEPTH.false) in
    let long : length c.args.self.now.bits ≤ 1023 = omega (arith, c.len.ensures.few, c.len.ensures.value, ap length c.bits.ensures) in
    let few : length c.args.self.now.kids ≤ 4 = omega (arith, c.refs.ensures.few, c.refs.ensures.value) in
    passed H c.args.self.now t is long few (face_fault-fit c.args.self.now fit) kids

use Rattle.std.proofs.Common.{sym, ◌∙◌}
use Rattle.std.proofs.lemmas.Bool.{true≢false, not-true, not-false}
use Rattle.cd_cell.specs.Equality.{same_hash-Decides, same_face, same_face-Decides}
use Rattle.cd_cell.proofs.ClashLaws.{face_read}
use Rattle.cd_cell.proofs.clashes.clash.Goals as goal

pub returns-then-eq-clause-agree : goal.returns-then-eq-clause-agree
returns-then-eq-clause-agree c = λ e reps.
    let fs = c.args.faces.now in
    let a = face_read fs c.args.a.1 c.index-faces-a.result c.requires.left c.index-faces-a.is in
    let b = face_read fs c.args.b.1 c.index-faces-b.result c.requires.right c.index-faces-b.is in
    let same = (same_face-Decides c.index-faces-a.result c.index-faces-b.result).0 (not-false (same_face c.index-faces-a.result c.index-faces-b.result) (sym c.ne.ensures ∙ e)) in
    sym a ∙ same ∙ b

pub returns-then-eq-clause-differ : goal.returns-then-eq-clause-differ
returns-then-eq-clause-differ c = λ e.
    let fs = c.args.faces.now in
    let a = face_read fs c.args.a.1 c.index-faces-a.result c.requires.left c.index-faces-a.is in
    let b = face_read fs c.args.b.1 c.index-faces-b.result c.requires.right c.index-faces-b.is in (
      (same_hash-Decides c.args.a.0 c.args.b.0).0 (sym c.eq.ensures ∙ c.if-eq.true),
      λ same. true≢false (sym ((same_face-Decides c.index-faces-a.result c.index-faces-b.result).1 (a ∙ same ∙ sym b)) ∙ not-true (same_face c.index-faces-a.result c.index-faces-b.result) (sym c.ne.ensures ∙ e)),
    )

-- Equal faces, equal hashes and equal cells are one thing in a bag.
use Rattle.cd_cell.proofs.BagLaws.{told-bag}
use Rattle.cd_cell.proofs.bag.Bag.same.Goals as goal

pub returns-clause-value : goal.returns-clause-value
returns-clause-value g c =
    let bag = c.args.self.now in
    (told-bag g.H.Hash32.digest_of bag.cells bag.refs bag.roots c.face.ensures.kept c.args.a c.args.b c.face.result.now c.face-2.result.now c.eq.result c.requires.a c.requires.b c.face.ensures.cell c.face-2.ensures.cell c.eq.ensures.value).0

pub returns-clause-reps : goal.returns-clause-reps
returns-clause-reps g c =
    let bag = c.args.self.now in
    (told-bag g.H.Hash32.digest_of bag.cells bag.refs bag.roots c.face.ensures.kept c.args.a c.args.b c.face.result.now c.face-2.result.now c.eq.result c.requires.a c.requires.b c.face.ensures.cell c.face-2.ensures.cell c.eq.ensures.value).1

use Rattle.std.specs.Prelude.{Contains}
use Rattle.cd_slices.specs.Gathering.{IsKidOf, given_faces}
use Rattle.cd_slices.proofs.PlaceLaws.{adds-more}
use Rattle.cd_slices.proofs.GatherLaws.{faces-more, kid-of-given}
use Rattle.cd_slices.proofs.gather.Gathered.take_all.Goals as goal

pub returns-in_err-take_in-clause-places : goal.returns-in_err-take_in-clause-places
returns-in_err-take_in-clause-places c =
    let found = c.args.found.now in
    let face = c.face_or_empty.result in
    adds-more (IsKidOf (given_faces found)) (Contains face.kids) c.args.self.now.places c.loop-face.self.places c.take_in.new.self.places
    (kid-of-given found c.loop-face.face-index c.face-item.result face c.loop-face-test.true c.face-item.is c.face_or_empty.ensures.value) c.loop-face.invariant.adds c.take_in.ensures.places

pub loop-face-preserved : goal.loop-face-preserved
loop-face-preserved c =
    let taken = c.in_ok-take_in.ensures in
    faces-more c.args.self.now c.loop-face.self c.take_in.new.self c.args.found.now c.loop-face.face-index c.face-item.result c.face_or_empty.result c.loop-face.invariant c.loop-face-test.true c.face-item.is c.face_or_empty.ensures.value
    taken.whole taken.grows taken.faces taken.places

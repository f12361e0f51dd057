use Rattle.cd_slices.specs.Gathering.{TakesFaces}
use Rattle.cd_slices.proofs.gather.Gathered.take_all.Given as goal

abbrev pub invariant-loop-face : goal.invariant-loop-face
invariant-loop-face l = TakesFaces l.fn.self l.self l.found l.face-index

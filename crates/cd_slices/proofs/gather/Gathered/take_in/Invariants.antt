use Rattle.cd_slices.specs.Gathering.{TakesKids}
use Rattle.cd_slices.proofs.gather.Gathered.take_in.Given as goal

abbrev pub invariant-loop-kid : goal.invariant-loop-kid
invariant-loop-kid l = TakesKids l.fn.self l.self l.kid-items l.kid-index

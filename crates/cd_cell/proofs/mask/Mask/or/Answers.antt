use Rattle.std.proofs.Common.{arith}
use Rattle.std.proofs.lemmas.Nat.{or_lt}
use Rattle.cd_cell.proofs.mask.Mask.or.Goals as goal

pub invariant_of-result : goal.invariant_of-result
invariant_of-result c = omega (arith, or_lt 3 c.self.inside.0 c.other.inside.0 (omega arith) (omega arith))

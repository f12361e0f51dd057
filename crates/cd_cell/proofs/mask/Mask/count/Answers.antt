use Rattle.std.proofs.Common.{arith}
use Rattle.cd_cell.proofs.MaskLemmas.{ones-mask}
use Rattle.cd_cell.proofs.mask.Mask.count.Goals as goal

pub returns-clause-value : goal.returns-clause-value
returns-clause-value c = rw (← c.self.view_is) (ones-mask c.self.inside.0 c.self.invariant)

pub returns-clause-small : goal.returns-clause-small
returns-clause-small c = omega (arith, ones-mask c.self.inside.0 c.self.invariant)

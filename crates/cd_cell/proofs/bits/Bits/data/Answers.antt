use Rattle.cd_cell.proofs.BitLemmas.{take-text}
use Rattle.cd_cell.proofs.bits.Bits.data.Goals as goal

pub returns-clause-value : goal.returns-clause-value
returns-clause-value c = rw (c.div_ceil.ensures, ← c.self.view_is) (take-text c.self.inside.len c.self.inside.bytes c.self.invariant)

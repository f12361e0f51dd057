use Rattle.std.proofs.Common.{arith}
use Rattle.cd_cell.proofs.BitLemmas.{slice_get-first_bits}
use Rattle.cd_cell.proofs.bits.Bits.bit.Goals as goal

pub returns : goal.returns
returns c =
    rw (← c.self.view_is) (slice_get-first_bits c.self.inside.len c.args.at c.self.inside.bytes (omega arith) (omega (arith, c.self.told, c.self.invariant.few)))

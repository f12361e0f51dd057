use Rattle.std.proofs.Common.{arith}
use Rattle.cd_cell.proofs.BitLemmas.{first_bits-filled, IsBitText-filled}
use Rattle.cd_cell.proofs.bits.Bits.from_slice.Goals as goal

pub invariant_of-result : goal.invariant_of-result
invariant_of-result c = IsBitText-filled c.args.len c.args.bytes.now c.text_of.result (omega arith) (omega arith) c.text_of.ensures

pub returns-clause-value : goal.returns-clause-value
returns-clause-value c = first_bits-filled c.args.len c.args.bytes.now c.text_of.result (omega arith) c.text_of.ensures

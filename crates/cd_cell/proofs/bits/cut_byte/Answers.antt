use Rattle.std.proofs.Common.{arith}
use Rattle.cd_cell.proofs.BitLemmas.{cut_byte-masked}
use Rattle.cd_cell.proofs.bits.cut_byte.Goals as goal

pub returns : goal.returns
returns c = cut_byte-masked c.args.byte c.args.kept (omega arith) c.requires

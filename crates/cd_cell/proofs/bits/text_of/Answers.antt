use Rattle.std.proofs.Common.{arith}
use Rattle.cd_cell.proofs.BitLemmas.{text-whole, text-cut}
use Rattle.cd_cell.proofs.bits.text_of.Goals as goal

pub returns-then-kept-gt0 : goal.returns-then-kept-gt0
returns-then-kept-gt0 c =
    rw c.cut_byte.ensures (text-cut c.args.len c.args.bytes.now c.put.new.buffer (λ i. omega (arith, c.type_inv.bytes i)) c.requires.few c.requires.enough c.put.ensures c.if-kept-gt0.true)

pub returns-else-kept-gt0 : goal.returns-else-kept-gt0
returns-else-kept-gt0 c = text-whole c.args.len c.args.bytes.now c.put.new.buffer (λ i. omega (arith, c.type_inv.bytes i)) c.requires.few c.requires.enough c.put.ensures (omega arith)

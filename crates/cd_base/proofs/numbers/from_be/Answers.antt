use Rattle.std.proofs.Common.{length, take, arith, length-take}
use Rattle.cd_base.proofs.NumberLaws.{IsBytes-take, from_big-lt, from_big-fits}
use Rattle.cd_base.proofs.numbers.from_be.Goals as goal

pub overflow_mul-value : goal.overflow_mul-value
overflow_mul-value c =
    omega (arith, from_big-fits c.args.bytes.now c.loop-byte.byte-index (λ i. omega (arith, c.type_inv.bytes i)) (omega arith) (omega arith))

pub overflow_add-value : goal.overflow_add-value
overflow_add-value c =
    omega (arith, from_big-fits c.args.bytes.now c.loop-byte.byte-index (λ i. omega (arith, c.type_inv.bytes i)) (omega arith) (omega arith))

pub returns-clause-fits : goal.returns-clause-fits
returns-clause-fits c =
    let bytes = c.args.bytes.now in
    let read = take c.loop-byte.byte-index bytes in
    omega (arith, from_big-lt read (length bytes) (IsBytes-take _ bytes (λ i. omega (arith, c.type_inv.bytes i))) (omega (arith, length-take c.loop-byte.byte-index bytes)))

use Rattle.std.proofs.Common.{◌≡◌, ◌-◌, ◌+◌, length, drop, length-drop, arith, ap, sym}
use Rattle.std.proofs.Math.Seq.{drop-length}
use Rattle.cd_base.specs.Numbers.{from_little}
use Rattle.cd_base.proofs.NumberLaws.{IsBytes-drop, from_little-lt, from_little-fits, from_little-more}
use Rattle.cd_base.proofs.numbers.from_le.Goals as goal

pub loop-i-init : goal.loop-i-init
unfolding from_little
loop-i-init c = ap from_little (sym (drop-length c.args.bytes.now))

pub overflow_mul-value : goal.overflow_mul-value
overflow_mul-value c =
    let last : c.loop-i.i - 1 + 1 ≡ c.loop-i.i = omega arith in
    omega (arith, rw last at (from_little-fits c.args.bytes.now (c.loop-i.i - 1) (λ i. omega (arith, c.type_inv.bytes i)) (omega arith) (omega arith)))

pub overflow_add-value : goal.overflow_add-value
overflow_add-value c =
    let last : c.loop-i.i - 1 + 1 ≡ c.loop-i.i = omega arith in
    omega (arith, rw last at (from_little-fits c.args.bytes.now (c.loop-i.i - 1) (λ i. omega (arith, c.type_inv.bytes i)) (omega arith) (omega arith)))

pub loop-i-preserved : goal.loop-i-preserved
loop-i-preserved c =
    let last : c.loop-i.i - 1 + 1 ≡ c.loop-i.i = omega arith in
    let more = rw last at (from_little-more c.args.bytes.now (c.loop-i.i - 1) (omega arith)) in
    omega (arith, more)

pub returns-clause-fits : goal.returns-clause-fits
returns-clause-fits c =
    let bytes = c.args.bytes.now in
    let read = drop c.loop-i.i bytes in
    omega (arith, from_little-lt read (length bytes) (IsBytes-drop _ bytes (λ i. omega (arith, c.type_inv.bytes i))) (omega (arith, length-drop c.loop-i.i bytes)))

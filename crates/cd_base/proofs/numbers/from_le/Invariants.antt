use Rattle.std.proofs.Common.{◌≡◌, drop}
use Rattle.cd_base.specs.Numbers.{from_little}
use Rattle.cd_base.proofs.numbers.from_le.Given as goal

abbrev pub invariant-loop-i : goal.invariant-loop-i
invariant-loop-i l = l.value ≡ from_little (drop l.i l.bytes)

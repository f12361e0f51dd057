use Rattle.std.proofs.Common.{◌≡◌, take}
use Rattle.cd_base.specs.Numbers.{from_big}
use Rattle.cd_base.proofs.numbers.from_be.Given as goal

abbrev pub invariant-loop-byte : goal.invariant-loop-byte
invariant-loop-byte l = l.value ≡ from_big (take l.byte-index l.bytes)

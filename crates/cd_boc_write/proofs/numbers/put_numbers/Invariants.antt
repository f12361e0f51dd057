use Rattle.std.proofs.Common.{◌≡◌, ◌++◌, take}
use Rattle.cd_boc_write.specs.Frames.{numbers_text}
use Rattle.cd_boc_write.proofs.numbers.put_numbers.Given as goal

abbrev pub invariant-loop-number : goal.invariant-loop-number
invariant-loop-number l = l.out.items ≡ l.initial.out.items ++ numbers_text l.width (take l.number-index l.numbers)

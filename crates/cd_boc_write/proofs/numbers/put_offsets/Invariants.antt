use Rattle.std.proofs.Common.{◌≡◌, ◌++◌, take}
use Rattle.cd_boc_write.specs.Frames.{numbers_text}
use Rattle.cd_boc_write.proofs.numbers.put_offsets.Given as goal

abbrev pub invariant-loop-offset : goal.invariant-loop-offset
invariant-loop-offset l = l.out.items ≡ l.initial.out.items ++ numbers_text l.width (take l.offset-index l.offsets)

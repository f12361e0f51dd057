use Rattle.std.proofs.Common.{◌≡◌, fold, length}
use Rattle.cd_base.specs.Checksum.{crc_byte}
use Rattle.cd_base.specs.Numbers.{IsBytes}
use Rattle.cd_base.proofs.checksum.register_after.Given as goal

abbrev pub invariant-loop-rest : goal.invariant-loop-rest
invariant-loop-rest l = record {
  register : fold crc_byte l.register l.rest ≡ fold crc_byte l.fn.register l.bytes;
  rest : IsBytes l.rest;
}

abbrev pub decreases-loop-rest : goal.decreases-loop-rest
decreases-loop-rest l = length l.rest

use Rattle.std.proofs.Common.{◌≡◌, fold, take}
use Rattle.cd_base.specs.Checksum.{crc_byte}
use Rattle.cd_base.proofs.checksum.after_each.Given as goal

abbrev pub invariant-loop-byte : goal.invariant-loop-byte
invariant-loop-byte l = l.register ≡ fold crc_byte l.fn.register (take l.byte-index l.bytes)

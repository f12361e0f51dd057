-- Trusted: CRC-32C, the checksum of RFC 3720 (appendix B.4), bit by bit: the lowest bit of a byte comes first.
use Rattle.std.specs.Prelude.{◌≡◌, ℕ, zero, suc, ◌*◌, ◌/◌, ◌%◌, List, fold, bit_xor}
use Rattle.std.specs.Int.Bits.{xor_assoc, xor_self, xor_zero_r}
use Rattle.std.proofs.Common.{ap, ◌∙◌}

-- The register after one bit more. The polynomial is 1edc6f41, with its bits turned round, and goes in where a 1 drops out.
abbrev pub crc_bit : ℕ → ℕ
crc_bit register = bit_xor (register / 2) (register % 2 * 0x82f63b78)

unfoldable pub crc_bits : ℕ → ℕ → ℕ
crc_bits zero register = register
crc_bits (suc count) register = crc_bits count (crc_bit register)

abbrev pub crc_byte : ℕ → ℕ → ℕ
crc_byte register byte = crc_bits 8 (bit_xor register byte)

-- the register is all ones before the first byte, and is turned over after the last
abbrev pub crc32c : List ℕ → ℕ
crc32c bytes = bit_xor (fold crc_byte 0xffffffff bytes) 0xffffffff

-- the checksum of bytes of which that of their front is known already
abbrev pub crc32c_after : ℕ → List ℕ → ℕ
crc32c_after front bytes = bit_xor (fold crc_byte (bit_xor front 0xffffffff) bytes) 0xffffffff

-- what is turned over twice is as it was
pub turned_back : (register : ℕ) → bit_xor (bit_xor register 0xffffffff) 0xffffffff ≡ register
turned_back register =
    xor_assoc register 0xffffffff 0xffffffff ∙ ap (bit_xor register) (xor_self 0xffffffff) ∙ xor_zero_r register

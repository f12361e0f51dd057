use Rattle.std.proofs.Common.{◌≡◌, ◌/◌, ◌%◌, get_or, ap, sym, ◌∙◌, arith}
use Rattle.cd_base.specs.Checksum.{crc_bits}
use Rattle.cd_base.proofs.ChecksumLaws.{crc_bits-four}
use Rattle.cd_base.proofs.checksum.after_four.Goals as goal

pub returns : goal.returns
returns c =
    let n = c.args.register in
    let bytes = c.to_le_bytes.ensures in
    let first : c.entry.result ≡ crc_bits 32 (n % 256) = c.entry.ensures ∙ ap (λ b. crc_bits 32 (get_or b 0 0)) bytes in
    let second : c.entry-2.result ≡ crc_bits 24 (n / 256 % 256) = c.entry-2.ensures ∙ ap (λ b. crc_bits 24 (get_or b 1 0)) bytes in
    let third : c.entry-3.result ≡ crc_bits 16 (n / 65536 % 256) = c.entry-3.ensures ∙ ap (λ b. crc_bits 16 (get_or b 2 0)) bytes in
    let fourth : c.entry-4.result ≡ crc_bits 8 (n / 16777216 % 256) = c.entry-4.ensures ∙ ap (λ b. crc_bits 8 (get_or b 3 0)) bytes in
    rw (first, second, third, fourth) (sym (crc_bits-four n (omega arith)))

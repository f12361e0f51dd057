use Rattle.std.proofs.Common.{◌≡◌, ◌/◌, get_or, bit_and, bit_xor, ap, sym, ◌∙◌, arith}
use Rattle.std.proofs.lemmas.List.Sums.{fold_more}
use Rattle.cd_base.specs.Checksum.{crc_bits, crc_byte}
use Rattle.cd_base.proofs.ChecksumLaws.{crc_byte-table}
use Rattle.cd_base.proofs.checksum.after_each.Goals as goal

pub loop-byte-preserved : goal.loop-byte-preserved
loop-byte-preserved c =
    let bytes = c.args.bytes.now in
    let i = c.loop-byte.byte-index in
    let byte = get_or bytes i 0 in
    let table = crc_byte-table c.loop-byte.register byte (omega (arith, c.type_inv.bytes i)) in
    let step = fold_more crc_byte c.args.register bytes i 0 c.loop-byte-test.true in
    let register = c.loop-byte.invariant in
    let low : c.entry.result ≡ crc_bits 8 (bit_and (bit_xor c.loop-byte.register byte) 255) =
    c.entry.ensures ∙ ap (λ b. crc_bits 8 (bit_and (bit_xor c.loop-byte.register b) 255)) c.from.ensures in
    ap (λ x. bit_xor x (c.loop-byte.register / 256)) low ∙ sym table ∙ ap (λ r. crc_byte r byte) register ∙ sym step

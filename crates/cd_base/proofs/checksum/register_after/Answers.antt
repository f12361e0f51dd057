use Rattle.std.proofs.Common.{◌∙◌, ap, fold, drop, subst, sym}
use Rattle.std.proofs.lemmas.List.{take_rest}
use Rattle.cd_base.specs.Checksum.{crc_byte}
use Rattle.cd_base.specs.Numbers.{IsBytes}
use Rattle.cd_base.proofs.NumberLaws.{IsBytes-drop}
use Rattle.cd_base.proofs.ChecksumLaws.{fold-crc_byte_four}
use Rattle.cd_base.proofs.checksum.register_after.Goals as goal

pub loop-rest-preserved : goal.loop-rest-preserved
loop-rest-preserved c =
    let rest = c.loop-rest.rest.now in
    let more = take_rest rest 4 in
    let four = fold-crc_byte_four c.loop-rest.register c.from_le_bytes.result rest c.loop-rest.invariant.rest c.in-len4-up.len_at_least c.from_le_bytes.ensures in
    record {
      register = ap (fold crc_byte c.after_four-register.result) more ∙ ap (λ r. fold crc_byte r (drop 4 rest)) c.after_four-register.ensures ∙ four ∙ c.loop-rest.invariant.register;
      rest = subst IsBytes (sym more) (IsBytes-drop 4 rest c.loop-rest.invariant.rest);
    }

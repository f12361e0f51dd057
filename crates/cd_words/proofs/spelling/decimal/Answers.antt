use Rattle.std.proofs.Common.{sym, ◌∙◌}
use Rattle.cd_block.proofs.Numbers.{parsed_is}
use Rattle.cd_words.proofs.spelling.decimal.Goals as goal

pub returns : goal.returns
returns c =
    let plain = rw c.as_bytes.ensures.value at (sym c.is_plain.ensures ∙ c.if-not-is_plain.false) in
    c.ok.ensures.value ∙ parsed_is 64 c.args.text.now c.parse.result c.parse.ensures.value.0 plain

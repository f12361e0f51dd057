use Rattle.std.proofs.lemmas.Str.Pattern.{strip_prefix_char}
use Rattle.cd_block.proofs.Signs.{behind_is}
use Rattle.cd_words.proofs.line.behind.Goals as goal

pub returns : goal.returns
returns c =
    behind_is c.args.sign c.args.text.now c.strip_prefix.result (strip_prefix_char c.args.sign c.args.text.now c.strip_prefix.result c.strip_prefix.ensures.cases c.requires)

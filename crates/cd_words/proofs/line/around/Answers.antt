use Rattle.std.proofs.lemmas.Str.Pattern.{split_parts}
use Rattle.cd_block.proofs.Signs.{around_is}
use Rattle.cd_words.proofs.line.around.Goals as goal

pub returns : goal.returns
returns c =
    around_is c.args.sign c.args.text.now c.split_once.result (split_parts c.args.sign c.args.text.now c.split_once.result c.split_once.ensures.cases c.requires)

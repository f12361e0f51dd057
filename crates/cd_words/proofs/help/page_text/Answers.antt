use Rattle.std.proofs.lemmas.Result.{IfOk-weaker}
use Rattle.cd_words.proofs.help.page_text.Goals as goal

pub returns : goal.returns
returns c = IfOk-weaker c.with_line_end.result _ _ (λ text e. (_, e)) c.with_line_end.ensures

use Rattle.std.proofs.Common.{map, string_bytes}
use Rattle.cd_words.specs.Views.{line_in}
use Rattle.cd_words.proofs.PlainLaws.{plain_is_taken, plain_refusal}
use Rattle.cd_words.proofs.reading.read_words.Goals as goal

pub returns-in-Err-clause-plain : goal.returns-in-Err-clause-plain
returns-in-Err-clause-plain c = λ line plain e.
    plain_refusal line (map string_bytes c.args.words.now) c.in-Err.fault plain e c.in-Err.ensures.refused

pub returns-in-Ok-clause-plain : goal.returns-in-Ok-clause-plain
returns-in-Ok-clause-plain c = λ line plain e.
    plain_is_taken line (map string_bytes c.args.words.now) (line_in c.in-Ok.line) c.command_of.result plain e
    c.in-Ok.ensures.found.line_is c.command_of.ensures.found c.command_of.ensures.full

use Rattle.std.proofs.Common.{◌≡◌, drop, map}
use Rattle.std.specs.Prelude.{string_bytes}
use Rattle.cd_words.specs.Lines.{words_said, nothing_said}
use Rattle.cd_words.specs.Views.{said_now}
use Rattle.cd_words.proofs.line.words_said.Given as goal

abbrev pub invariant-loop-word : goal.invariant-loop-word
invariant-loop-word l =
    words_said l.command nothing_said (map string_bytes l.words)
    ≡ words_said l.command (said_now l.given.items l.due) (map string_bytes (drop l.word-index l.words))

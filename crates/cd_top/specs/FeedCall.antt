-- Trusted: how the command `gen` ends: what each status says of the output.
use Rattle.std.specs.Prelude.{ℕ, List}
use Rattle.cd_base.specs.declared.sink.Sink.{Ghosts as SinkGhosts}
use Rattle.cd_feed.specs.Feeds.{feed_text}
use Rattle.cd_gen.specs.Generated.{feed_of}
use Rattle.cd_command.specs.declared.status.Status.{Status}
use Rattle.cd_command.specs.Printing.{TextEnds}

-- the text of the feed of a number
abbrev pub text_of_feed : ℕ → List ℕ
text_of_feed number = feed_text (feed_of number)

abbrev pub FeedEnds : {O : Type 0} → SinkGhosts O → ℕ → O → O → Status → Type 0
FeedEnds o number = TextEnds o (text_of_feed number)

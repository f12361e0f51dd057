use Rattle.std.proofs.Common.{◌≡◌, ◌++◌, take, string_bytes}
use Rattle.inspect_feed.specs.FeedTexts.{phase_lines, numbered}
use Rattle.inspect_feed.proofs.texts.text_of.Given as goal

abbrev pub invariant-loop-number : goal.invariant-loop-number
invariant-loop-number l = string_bytes l.text ≡ string_bytes l.initial.text ++ numbered phase_lines 0 (take l.number l.feed.phases)

use Rattle.std.proofs.Common.{◌≡◌, ◌++◌, take, string_bytes}
use Rattle.inspect_feed.specs.FeedTexts.{worker_lines}
use Rattle.inspect_feed.proofs.texts.push_worker.Given as goal

abbrev pub invariant-loop-number : goal.invariant-loop-number
invariant-loop-number l = string_bytes l.text ≡ string_bytes l.initial.text ++ worker_lines l.phase l.worker (take l.number l.tasks)

use Rattle.std.proofs.Common.{◌≡◌, ◌++◌, take, string_bytes}
use Rattle.inspect_feed.specs.FeedTexts.{worker_lines, numbered}
use Rattle.inspect_feed.proofs.texts.push_phase.Given as goal

abbrev pub invariant-loop-worker : goal.invariant-loop-worker
invariant-loop-worker l = string_bytes l.text ≡ string_bytes l.initial.text ++ numbered (worker_lines l.number) 0 (take l.worker l.phase.workers)

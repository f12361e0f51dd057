use Rattle.std.proofs.Common.{◌≡◌, take}
use Rattle.std.specs.List.{sum_by}
use Rattle.inspect_feed.specs.FeedTexts.{phase_tasks}
use Rattle.inspect_feed.proofs.texts.tasks_of.Given as goal

abbrev pub invariant-loop-phase : goal.invariant-loop-phase
invariant-loop-phase l = l.count ≡ sum_by phase_tasks (take l.phase-index l.feed.phases)

use Rattle.std.proofs.Common.{◌≡◌, length, take}
use Rattle.std.specs.List.{sum_by}
use Rattle.inspect_feed.proofs.texts.tasks_of_phase.Given as goal

abbrev pub invariant-loop-tasks : goal.invariant-loop-tasks
invariant-loop-tasks l = l.count ≡ sum_by length (take l.tasks-index l.phase.workers)

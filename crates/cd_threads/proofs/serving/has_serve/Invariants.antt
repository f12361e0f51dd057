use Rattle.std.proofs.Common.{◌≡◌, take}
use Rattle.cd_lanes.specs.Lanes.{serves}
use Rattle.cd_threads.proofs.serving.has_serve.Given as goal

abbrev pub invariant-loop-task : goal.invariant-loop-task
invariant-loop-task l = serves (take l.task-index l.tasks) ≡ 0

use Rattle.std.proofs.Common.{◌≡◌, ◌++◌, take}
use Rattle.std.specs.List.{flat_map}
use Rattle.cd_feed.specs.Feeds.{task_text}
use Rattle.cd_feed.proofs.writing.put_tasks.Given as goal

abbrev pub invariant-loop-task : goal.invariant-loop-task
invariant-loop-task l = l.out ≡ l.fn.out ++ flat_map task_text (take l.task-index l.tasks)

use Rattle.std.proofs.Common.{◌≡◌, ◌-◌, ◌≤◌, length}
use Rattle.cd_feed.specs.declared.feed_fault.FeedFault.TheVariants.{Task}
use Rattle.cd_feed.specs.FeedReading.{each_from, task_at, tasks_at}
use Rattle.cd_feed.proofs.FeedLoops.{behind}
use Rattle.cd_feed.proofs.reading.tasks_at.Given as goal

abbrev pub invariant-loop-task : goal.invariant-loop-task
invariant-loop-task l = record {
  read : behind l.tasks.items (each_from (λ task. task_at l.total (Task l.phase l.worker task)) l.task (l.count - l.task) (record { served = l.seen; bytes = l.rest }))
      ≡ tasks_at l.total l.phase l.worker l.count (record { served = l.served; bytes = l.bytes });
  shorter : length l.rest ≤ length l.bytes;
}

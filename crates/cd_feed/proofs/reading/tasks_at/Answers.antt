use Rattle.std.proofs.Common.{arith}
use Rattle.cd_feed.specs.declared.feed_fault.FeedFault.TheVariants.{Task}
use Rattle.cd_feed.specs.FeedReading.{task_at, tasks_at}
use Rattle.cd_feed.proofs.FeedLoops.{from_goes_on, from_stops, from_done}
use Rattle.cd_feed.proofs.reading.tasks_at.Goals as goal

pub returns-in-Err-clause-exact : goal.returns-in-Err-clause-exact
returns-in-Err-clause-exact c = λ other. from_stops (λ task. task_at c.args.total (Task c.args.phase c.args.worker task)) c.in-Err.fault c.loop-task.tasks.items c.args.count c.loop-task.task
    (record { served = c.loop-task.seen; bytes = c.loop-task.rest.now }) (tasks_at c.args.total c.args.phase c.args.worker c.args.count (record { served = c.args.served; bytes = c.args.bytes.now }))
    c.loop-task-test.true (c.in-Err.ensures.exact other) c.loop-task.invariant.read

pub loop-task-preserved : goal.loop-task-preserved
loop-task-preserved c = record {
  read = rw c.in_ok-push.ensures.items (from_goes_on (λ task. task_at c.args.total (Task c.args.phase c.args.worker task)) c.loop-task.tasks.items c.args.count c.loop-task.task
      (record { served = c.loop-task.seen; bytes = c.loop-task.rest.now }) (record { served = c.in-Ok.found.1; bytes = c.in-Ok.found.2.now }) c.in-Ok.found.0
      (tasks_at c.args.total c.args.phase c.args.worker c.args.count (record { served = c.args.served; bytes = c.args.bytes.now }))
      c.loop-task-test.true c.in-Ok.ensures.exact c.loop-task.invariant.read);
  shorter = omega (arith, c.in-Ok.ensures.rest, c.loop-task.invariant.shorter);
}

pub returns-clause-exact : goal.returns-clause-exact
returns-clause-exact c = from_done (λ task. task_at c.args.total (Task c.args.phase c.args.worker task)) c.loop-task.tasks.items c.args.count c.loop-task.task
    (record { served = c.loop-task.seen; bytes = c.loop-task.rest.now }) (tasks_at c.args.total c.args.phase c.args.worker c.args.count (record { served = c.args.served; bytes = c.args.bytes.now }))
    c.loop-task-test.false c.loop-task.invariant.read

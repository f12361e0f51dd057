use Rattle.std.proofs.Common.{string_bytes}
use Rattle.inspect_feed.specs.FeedTexts.{task_line}
use Rattle.inspect_feed.proofs.NumberedParts.{numbered-step}
use Rattle.inspect_feed.proofs.texts.push_worker.Goals as goal

pub loop-number-preserved : goal.loop-number-preserved
loop-number-preserved c =
    numbered-step (task_line c.args.phase c.args.worker) c.args.tasks.now c.loop-number.number c.index-tasks-number.result (string_bytes c.args.text.now)
    (string_bytes c.loop-number.text) (string_bytes c.push_task.new.text) c.loop-number-test.true c.index-tasks-number.is c.loop-number.invariant c.in_ok-push_task.ensures

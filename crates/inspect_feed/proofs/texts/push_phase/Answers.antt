use Rattle.std.proofs.Common.{string_bytes, subst, ◌<◌, ◌≡◌, ◌++◌, get_or, length, ap, ◌∙◌}
use Rattle.inspect_feed.specs.FeedTexts.{worker_lines}
use Rattle.inspect_feed.proofs.NumberedParts.{numbered-step}
use Rattle.inspect_feed.proofs.texts.push_phase.Goals as goal

pub loop-worker-preserved : goal.loop-worker-preserved
loop-worker-preserved c =
    let all = c.as_slice-tasks-items.ensures in
    let below = subst (λ xs. c.loop-worker.worker < length xs) all c.loop-worker-test.true in
    let at = subst (λ xs. c.tasks-item.result ≡ get_or xs c.loop-worker.worker c.tasks-item.result) all c.tasks-item.is in
    numbered-step (worker_lines c.args.number) c.args.phase.now.workers c.loop-worker.worker c.tasks-item.result (string_bytes c.args.text.now)
    (string_bytes c.loop-worker.text) (string_bytes c.push_worker.new.text) below at c.loop-worker.invariant
    (c.in_ok-push_worker.ensures ∙ ap (λ tasks. string_bytes c.loop-worker.text ++ worker_lines c.args.number c.loop-worker.worker tasks) c.as_slice.ensures)

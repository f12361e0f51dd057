use Rattle.std.proofs.Common.{string_bytes, subst, ◌<◌, ◌≡◌, get_or, length}
use Rattle.inspect_feed.specs.FeedTexts.{phase_lines}
use Rattle.inspect_feed.proofs.NumberedParts.{numbered-step}
use Rattle.inspect_feed.proofs.texts.text_of.Goals as goal

pub loop-number-preserved : goal.loop-number-preserved
loop-number-preserved c =
    let all = c.as_slice-phase-items.ensures in
    let below = subst (λ xs. c.loop-number.number < length xs) all c.loop-number-test.true in
    let at = subst (λ xs. c.phase-item.result ≡ get_or xs c.loop-number.number c.phase-item.result) all c.phase-item.is in
    numbered-step phase_lines c.args.feed.now.phases c.loop-number.number c.phase-item.result (string_bytes c.in_ok-text.text)
    (string_bytes c.loop-number.text) (string_bytes c.push_phase.new.text) below at c.loop-number.invariant c.in_ok-push_phase.ensures

use Rattle.std.proofs.Common.{string_bytes, ap}
use Rattle.inspect_merged.proofs.RightTexts.{told_of_both}
use Rattle.inspect_merged.proofs.texts.right_text.Goals as goal

pub returns : goal.returns
returns g c =
    let kept = c.in-Ok.ensures.kept in
    told_of_both g.H.Hash32.digest_of c.args.left.whole c.in-Some.right.whole c.in-Ok.both.left.whole c.in-Ok.both.right.whole c.args.lines.now _
    (string_bytes c.in_ok-text.text) (string_bytes c.push_updates.new.text) c.in-len1-up.len_at_least (rw c.in-Some.is at c.in_ok-text.ensures.state)
    (ap (λ state. state.whole) kept.0) (ap (λ state. state.whole) kept.1) c.in-Ok.both.together c.in_ok-push_updates.ensures

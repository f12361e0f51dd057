use Rattle.std.proofs.Common.{string_bytes}
use Rattle.inspect_updates.specs.OldStates.{state_of}
use Rattle.inspect_merged.specs.MergedTexts.{SaysOverBoth}
use Rattle.inspect_updates.proofs.LineParts.{part_of_line}
use Rattle.inspect_merged.proofs.texts.push_update.Goals as goal

pub returns-in-Some : goal.returns-in-Some
returns-in-Some g c =
    let H = g.H.Hash32.digest_of in
    let both = c.args.both.now in
    part_of_line c.push_verdict.result (SaysOverBoth H (state_of H both.left.whole) (state_of H both.right.whole)) c.args.line.now c.in-Some.bytes.items c.deref.result.now
    (string_bytes c.args.text.now) (string_bytes c.push_verdict.new.text) (rw c.in-Some.is at c.in_ok-bytes.ensures.read) c.deref.ensures.value c.push_verdict.ensures

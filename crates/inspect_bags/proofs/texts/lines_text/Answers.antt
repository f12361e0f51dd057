use Rattle.std.proofs.Common.{string_bytes}
use Rattle.inspect_lines.specs.Lines.{SaysOfLine}
use Rattle.inspect_lines.proofs.LineLaws.{made_of_step}
use Rattle.inspect_bags.specs.Texts.{SaysOf}
use Rattle.inspect_bags.proofs.texts.lines_text.Goals as goal

pub loop-line-preserved : goal.loop-line-preserved
loop-line-preserved g c =
    let said = c.in_ok-push_verdict.ensures in
    made_of_step (SaysOfLine (SaysOf g.H.Hash32.digest_of)) c.deref-line-items.result.now c.loop-line.line-index _ (string_bytes c.loop-line.text) said.0
    (string_bytes c.push_verdict.new.text) c.loop-line-test.true c.loop-line.invariant said.1 said.2

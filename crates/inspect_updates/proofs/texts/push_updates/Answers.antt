use Rattle.std.proofs.Common.{ap, ◌∙◌, ◌++◌, append_assoc, refl, string_bytes}
use Rattle.inspect_lines.specs.Lines.{SaysOfLine}
use Rattle.inspect_lines.proofs.LineLaws.{made_of_step}
use Rattle.inspect_updates.specs.OldStates.{state_of}
use Rattle.inspect_updates.specs.UpdateTexts.{SaysOver}
use Rattle.inspect_updates.proofs.texts.push_updates.Goals as goal

pub loop-line-preserved : goal.loop-line-preserved
loop-line-preserved g c =
    let said = c.in_ok-push_update.ensures in
    let made = c.loop-line.invariant in (
      made.0 ++ said.0,
      made_of_step (SaysOfLine (SaysOver g.H.Hash32.digest_of (state_of g.H.Hash32.digest_of c.args.state.now.whole))) c.args.lines.now c.loop-line.line-index _ made.0 said.0
          (made.0 ++ said.0) c.loop-line-test.true made.1 said.1 refl,
      said.2 ∙ ap (λ t. t ++ said.0) made.2 ∙ append_assoc (string_bytes c.args.text.now) made.0 said.0,
    )

use Rattle.std.proofs.Common.{◌≡◌, ◌++◌, ℕ, List, Bor, map, take, string_bytes}
use Rattle.inspect_lines.specs.Lines.{IsMadeOf, SaysOfLine}
use Rattle.inspect_updates.specs.OldStates.{state_of}
use Rattle.inspect_merged.specs.MergedTexts.{SaysOverBoth}
use Rattle.inspect_merged.proofs.texts.push_updates.Given as goal

abbrev pub invariant-loop-line : goal.invariant-loop-line
invariant-loop-line g l =
    let H = g.H.Hash32.digest_of in
    (rest : List ℕ)
    × IsMadeOf (SaysOfLine (SaysOverBoth H (state_of H l.both.left.whole) (state_of H l.both.right.whole))) (map (λ (k : Bor (List ℕ)). k.now) (take l.line-index l.lines)) rest
    × (string_bytes l.text ≡ string_bytes l.initial.text ++ rest)

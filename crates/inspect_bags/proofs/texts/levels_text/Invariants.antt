use Rattle.std.proofs.Common.{ℕ, List, Bor, map, take, string_bytes}
use Rattle.inspect_lines.specs.Lines.{IsMadeOf, SaysOfLine}
use Rattle.inspect_bags.specs.Texts.{ShowsOrSays}
use Rattle.inspect_bags.proofs.texts.levels_text.Given as goal

abbrev pub invariant-loop-line : goal.invariant-loop-line
invariant-loop-line g l = IsMadeOf (SaysOfLine (ShowsOrSays g.H.Hash32.digest_of)) (map (λ (k : Bor (List ℕ)). k.now) (take l.line-index l.line-items)) (string_bytes l.text)

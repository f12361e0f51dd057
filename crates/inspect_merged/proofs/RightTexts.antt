-- What is told of the right state and of the updates behind it, where the states don't clash.
use Rattle.std.proofs.Common.{◌≡◌, ℕ, ◌-◌, ◌≤◌, List, [], ◌∷◌, ◌++◌, Bor, None, map, length, take, drop, get_or, subst, inr, arith}
use Rattle.std.proofs.lemmas.List.{take_all}
use Rattle.cd_base.specs.declared.hash.Hash256.{Hash256}
use Rattle.cd_cell.specs.PreparedView.{PreparedView}
use Rattle.inspect_lines.specs.Lines.{IsMadeOf, SaysOfLine}
use Rattle.inspect_updates.specs.OldStates.{state_of}
use Rattle.inspect_updates.specs.UpdateTexts.{SaysState}
use Rattle.inspect_merged.specs.BothStates.{clash_between}
use Rattle.inspect_merged.specs.MergedTexts.{SaysOverBoth, TellsRight}

module _ (H : List ℕ → Hash256) where
  -- what is told of two states that are those of both
  pub told_of_both : (left right l r : PreparedView) (lines : List (Bor (List ℕ))) (d : Bor (List ℕ)) (part text : List ℕ) → 1 ≤ length lines
      → SaysState H ((get_or lines 0 d).now) part right → l ≡ left → r ≡ right → clash_between l.cells r.cells ≡ None
      → ((rest : List ℕ) × IsMadeOf (SaysOfLine (SaysOverBoth H (state_of H l) (state_of H r))) (map (λ line. line.now) (take (length lines - 1) (drop 1 lines))) rest × (text ≡ part ++ rest))
      → TellsRight H left (map (λ line. line.now) lines) text
  told_of_both left right l r [] d part text some says is_left is_right apart made = absurd (omega arith)
  told_of_both left right l r (second ∷ behind) d part text some says is_left is_right apart (rest, made, is) =
      let whole : take (length (second ∷ behind) - 1) behind ≡ behind = take_all (length (second ∷ behind) - 1) behind (omega arith) in
      let made_of : PreparedView → PreparedView → List (Bor (List ℕ)) → Type 0 =
      λ a b ls. IsMadeOf (SaysOfLine (SaysOverBoth H (state_of H a) (state_of H b))) (map (λ (line : Bor (List ℕ)). line.now) ls) rest in
      inr (
        right,
        part,
        rest,
        says,
        inr (
          subst (λ (k : PreparedView). clash_between k.cells right.cells ≡ None) is_left (subst (λ (k : PreparedView). clash_between l.cells k.cells ≡ None) is_right apart),
          subst (λ k. made_of k right behind) is_left (subst (λ k. made_of l k behind) is_right (subst (λ ls. made_of l r ls) whole made)),
          is,
        ),
      )

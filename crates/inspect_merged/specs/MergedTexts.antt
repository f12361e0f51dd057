-- Trusted: what is printed of Merkle updates of the joined tree of two states.
use Rattle.std.specs.Prelude.{◌≡◌, ◌⊎◌, ℕ, List, [], ◌∷◌, ◌++◌, None, Some, codes}
use Rattle.cd_base.specs.declared.hash.Hash256.{Hash256}
use Rattle.cd_cell.specs.PreparedView.{PreparedView}
use Rattle.cd_cell.specs.Tree.{Tree}
use Rattle.inspect_lines.specs.Lines.{IsLineOf, IsMadeOf, SaysOfLine}
use Rattle.inspect_updates.specs.declared.update_verdict.UpdateVerdict.{UpdateVerdict}
use Rattle.inspect_updates.specs.OldStates.{state_of}
use Rattle.inspect_updates.specs.UpdateTexts.{with_hash, update_text, SaysNoState, SaysState}
use Rattle.inspect_merged.specs.BothStates.{clash_between}
use Rattle.inspect_merged.specs.MergedVerdicts.{IsTrueOverBoth}

-- two different cells of two states have this hash
abbrev pub clash_text : Hash256 → List ℕ
clash_text hash = with_hash (codes "Clash") hash

module _ (H : List ℕ → Hash256) where
  -- a line that says of bytes over the joined tree of two states what is so
  abbrev pub SaysOverBoth : Tree → Tree → List ℕ → List ℕ → Type 0
  SaysOverBoth left right bytes part =
      (verdict : UpdateVerdict) × IsTrueOverBoth H left right bytes verdict × IsLineOf (update_text verdict) part

  -- the line of two states that clash
  abbrev pub SaysClash : PreparedView → PreparedView → List ℕ → Type 0
  SaysClash left right text =
      (hash : Hash256) × (clash_between left.cells right.cells ≡ Some hash) × IsLineOf (Some (clash_text hash)) text

  -- the line of the right state, and lines of the updates behind it; where the right one is none, or the states clash, one line
  abbrev pub TellsRight : PreparedView → List (List ℕ) → List ℕ → Type 0
  TellsRight left [] text = text ≡ []
  TellsRight left (second ∷ behind) text =
      SaysOfLine (SaysNoState H) second text
      ⊎ ((right : PreparedView) × (part rest : List ℕ) × SaysState H second part right
      × (SaysClash left right text
      ⊎ ((clash_between left.cells right.cells ≡ None)
      × IsMadeOf (SaysOfLine (SaysOverBoth (state_of H left) (state_of H right))) behind rest × (text ≡ part ++ rest))))

  -- the line of the left state in the first line, and what is told of the right one; where there is none, its line alone
  abbrev pub TellsMerged : List (List ℕ) → List ℕ → Type 0
  TellsMerged [] text = text ≡ []
  TellsMerged (first ∷ others) text =
      SaysOfLine (SaysNoState H) first text
      ⊎ ((left : PreparedView) × (part rest : List ℕ) × SaysState H first part left
      × TellsRight left others rest × (text ≡ part ++ rest))

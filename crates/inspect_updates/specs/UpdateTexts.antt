-- Trusted: what is printed of Merkle updates: the texts of refusals and verdicts, and the text of lines.
use Rattle.std.specs.Prelude.{◌≡◌, ◌⊎◌, ℕ, List, [], ◌∷◌, ◌++◌, Option, None, Some, Ok, codes}
use Rattle.std.specs.Fmt.{decimal}
use Rattle.hex.specs.Hex.{decode_of, encode_lower}
use Rattle.cd_base.specs.declared.hash.Hash256.{Hash256}
use Rattle.cd_cell.specs.PreparedView.{PreparedView}
use Rattle.cd_cell.specs.Tree.{Tree}
use Rattle.cd_boc_read.specs.Grammar.{Spells}
use Rattle.cd_prepare.specs.declared.prepare_fault.PrepareFault.{PrepareFault}
use Rattle.cd_prepare.specs.declared.prepare_fault.PrepareFault.TheVariants as fault
use Rattle.inspect_lines.specs.Lines.{IsLineOf, IsMadeOf, SaysOfLine}
use Rattle.inspect_bags.specs.declared.verdict.Verdict.TheVariants as said
use Rattle.inspect_bags.specs.Texts.{verdict_text, SaysOf}
use Rattle.inspect_updates.specs.declared.refusal.Refusal.{Refusal}
use Rattle.inspect_updates.specs.declared.refusal.Refusal.TheVariants.{Bag, Update, Prepare}
use Rattle.inspect_updates.specs.declared.update_verdict.UpdateVerdict.{UpdateVerdict}
use Rattle.inspect_updates.specs.declared.update_verdict.UpdateVerdict.TheVariants.{Good, Refused}
use Rattle.inspect_updates.specs.OldStates.{state_of}
use Rattle.inspect_updates.specs.StateFaults.{IsWhyNoState}
use Rattle.inspect_updates.specs.UpdateVerdicts.{IsTrueOver}

-- a name with the fields of a fault behind it
abbrev pub with_hash : List ℕ → Hash256 → List ℕ
with_hash name hash = name ++ codes " { hash: " ++ encode_lower hash.0 ++ codes " }"

-- why an update isn't prepared, with its fields, but for whole faces
abbrev pub fault_text : PrepareFault → List ℕ
fault_text (fault.Roots roots) = codes "Roots { roots: " ++ decimal roots ++ codes " }"
fault_text (fault.Level mask) = codes "Level { mask: " ++ decimal mask ++ codes " }"
fault_text (fault.OldHash stated real) =
    codes "OldHash { stated: " ++ encode_lower stated.0 ++ codes ", real: " ++ encode_lower real.0 ++ codes " }"
fault_text (fault.OldDepth stated real) =
    codes "OldDepth { stated: " ++ decimal stated ++ codes ", real: " ++ decimal real ++ codes " }"
fault_text (fault.OldHalf hash stored shown) = with_hash (codes "OldHalf") hash
fault_text (fault.Foreign hash) = with_hash (codes "Foreign") hash
fault_text (fault.NewClash hash) = with_hash (codes "NewClash") hash
fault_text (fault.SplitDeep depth) = codes "SplitDeep { depth: " ++ decimal depth ++ codes " }"
fault_text fault.Memory = codes "Memory"

-- the text of a refusal; that of most faults of bags isn't told, nor that of bytes that are no update
abbrev pub refusal_text : Refusal → Option (List ℕ)
refusal_text (Bag fault) = verdict_text (said.Refused fault)
refusal_text (Update fault) = None
refusal_text (Prepare fault) = Some (fault_text fault)

-- the text of what is said of bytes over an old state
abbrev pub update_text : UpdateVerdict → Option (List ℕ)
update_text (Good shown new root) =
    Some (codes "ok shown " ++ decimal shown ++ codes " new " ++ decimal new ++ codes " root " ++ encode_lower root.0)
update_text (Refused refusal) = refusal_text refusal

module _ (H : List ℕ → Hash256) where
  -- a line that says why bytes are no state
  abbrev pub SaysNoState : List ℕ → List ℕ → Type 0
  SaysNoState bytes part = (refusal : Refusal) × IsWhyNoState H bytes refusal × IsLineOf (refusal_text refusal) part

  -- a line that says of bytes over an old tree what is so
  abbrev pub SaysOver : Tree → List ℕ → List ℕ → Type 0
  SaysOver tree bytes part = (verdict : UpdateVerdict) × IsTrueOver H tree bytes verdict × IsLineOf (update_text verdict) part

  -- a line has the bag of this state in hexadecimal, and this says of the bag what is so
  pub record SaysState (line part : List ℕ) (value : PreparedView) : Type 0 where
    pub bytes : List ℕ
    pub read : decode_of line ≡ Ok bytes
    pub spelt : Spells H bytes (state_of H value ∷ [])
    pub said : SaysOf H bytes part

  -- the line of the state in the first line, and lines of the updates behind it; where there is no state, its line alone
  abbrev pub TellsUpdates : List (List ℕ) → List ℕ → Type 0
  TellsUpdates [] text = text ≡ []
  TellsUpdates (first ∷ behind) text =
      SaysOfLine SaysNoState first text
      ⊎ ((value : PreparedView) × (part rest : List ℕ) × SaysState first part value
      × IsMadeOf (SaysOfLine (SaysOver (state_of H value))) behind rest × (text ≡ part ++ rest))

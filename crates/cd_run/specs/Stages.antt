-- Inner: what a task does, stage by stage.
use Rattle.std.specs.Prelude.{◌≡◌, ℕ, ◌+◌, Bool, true, false, List, [], ◌∷◌, ◌++◌, sum, Option, Some, None, Result, Ok, Err}
use Rattle.cd_base.specs.declared.hash.Hash256.{Hash256}
use Rattle.cd_base.specs.declared.answers.Memory.{Memory}
use Rattle.cd_block.specs.declared.block.BlockId.{BlockId}
use Rattle.cd_cell.specs.PreparedView.{PreparedView}
use Rattle.cd_event.specs.declared.answers.Pinned.{Pinned}
use Rattle.cd_event.specs.declared.entry.Entry.{Entry}
use Rattle.cd_event.specs.declared.names.Who.{Who}
use Rattle.cd_event.specs.declared.refusal.Refusal.{Refusal}
use Rattle.cd_event.specs.Looks.{looks, failed_look, LooksOn, LooksAndFails}
use Rattle.cd_event.specs.Pins.{Named, find_pin}
use Rattle.cd_event.specs.Turning.{RisesOnly}
use Rattle.cd_run.specs.declared.outcome.Outcome.{Outcome}
use Rattle.cd_run.specs.declared.outcome.Outcome.TheVariants as outcome
use Rattle.cd_run.specs.declared.outcome.TaskRefusal.TheVariants as word
use Rattle.cd_run.specs.declared.pinned.Halt.{Halt}
use Rattle.cd_run.specs.declared.pinned.Halt.TheVariants as halt
use Rattle.cd_run.specs.declared.words.Stop.{Stop}
use Rattle.cd_run.specs.declared.words.Stop.TheVariants as stop
use Rattle.cd_run.specs.Prepared.{HasNoState, IsStateOf}
use Rattle.cd_run.specs.Runs.{has_failed, let_go_end, not_pinned, pinned_as, unpinned_as}
use Rattle.cd_run.specs.Words.{word_of}

module _ {S H : Type 0} (worker faults : S → ℕ) (made : S → List (Entry H)) (goes : S → S
    → Type 0) (named : S → List Named) where
  -- a worker went on, with these pins more and such entries
  pub record Stage (pins : List Named) (Are : List (Entry H) → Type 0) (old new : S) : Type 0 where
    pub same_worker : worker new ≡ worker old
    pub went : goes old new
    pub pinned : named new ≡ named old ++ pins
    pub entries : List (Entry H)
    pub added : made new ≡ made old ++ entries
    pub caused : RisesOnly (has_failed entries) (faults old) (faults new)
    pub are : Are entries

-- the value of the state that a bag has, or why there is none
abbrev pub StateBy : (List ℕ → Hash256) → List ℕ → Result PreparedView Stop → Type 0
StateBy digest bag (Ok p) = IsStateOf digest bag p
StateBy digest bag (Err (stop.Refused why)) = HasNoState digest bag why
StateBy digest bag (Err stop.Memory) = Unit {0}

-- ---- under one pin

-- whether the keeper failed a look of the work
abbrev pub is_halted : {A : Type 0} → Result A Halt → Bool
is_halted (Err halt.Keeper) = true
is_halted _ = false

-- the end of the work; none where memory ran out
abbrev pub work_end : Result Outcome Halt → Option Outcome
work_end (Ok end) = Some end
work_end (Err halt.Keeper) = Some (outcome.Refused word.Keeper)
work_end (Err halt.Memory) = None

module _ {H : Type 0} where
  -- looks under a pin, all of them answered or the last one failed
  abbrev pub AreLooks : (ℕ → Type 0) → Bool → Who → ℕ → List (Entry H) → Type 0
  AreLooks Few false who pin es = (asked : List ℕ) × Few (sum asked) × (es ≡ looks who pin asked)
  AreLooks Few true who pin es = (asked : List ℕ) × (last : ℕ) × Few (sum asked + last)
      × (es ≡ looks who pin asked ++ failed_look who pin last ∷ [])

  -- an unpin behind some work, and the end of both
  abbrev pub LetGoBy : Who → ℕ → Option Outcome → List (Entry H) → Result Outcome Memory → Type 0
  LetGoBy who pin end es (Err memory) = es ≡ []
  LetGoBy who pin (Some end) es (Ok last) = (answer : Option Bool) × (es ≡ unpinned_as who pin answer ∷ [])
      × (last ≡ let_go_end end answer)
  LetGoBy who pin None es (Ok last) = ⊥

module _ {S H : Type 0} (worker faults : S → ℕ) (made : S → List (Entry H)) (goes : S → S
    → Type 0) (named : S → List Named) where
  -- looks under a pin, from a count of hashes to another
  abbrev pub LooksFor : Bool → Who → ℕ → S → S → ℕ → ℕ → Type 0
  LooksFor true who pin old new before after = LooksAndFails worker faults made goes named who pin old new before after
  LooksFor false who pin old new before after = LooksOn worker faults made goes named who pin old new before after

  -- the pin that was answered so came
  pub record Pins (who : Who) (id : BlockId) (old new : S) (pinned : Pinned) : Type 0 where
    pub pin : Named
    pub number : pin.number ≡ pinned.pin
    pub found : find_pin (named new) pinned.pin ≡ Some pin
    pub stage : Stage worker faults made goes named (pin ∷ []) (λ es. es ≡ pinned_as who id pin.number ∷ []) old new

  -- it came, or why not
  abbrev pub PinsBy : Who → BlockId → S → S → Result Pinned Stop → Type 0
  PinsBy who id old new (Ok pinned) = Pins who id old new pinned
  PinsBy who id old new (Err (stop.Refused why)) = Stage worker faults made goes named []
      (λ es. (r : Refusal) × (es ≡ not_pinned who id r ∷ []) × (word_of r ≡ Some why)) old new
  PinsBy who id old new (Err stop.Memory) = Stage worker faults made goes named [] (λ es. es ≡ []) old new

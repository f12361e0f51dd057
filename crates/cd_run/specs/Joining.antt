-- Inner: what the task of a block over two parents does by its pins, stage by stage.
use Rattle.std.specs.Prelude.{◌≡◌, ◌⊎◌, ℕ, Bool, false, ◌==◌, List, [], ◌∷◌, slice_get, Option, Some, None, Result, Ok, Err}
use Rattle.cd_base.specs.declared.hash.Hash256.{Hash256}
use Rattle.cd_base.specs.declared.answers.Memory.{Memory}
use Rattle.cd_block.specs.declared.block.BlockId.{BlockId}
use Rattle.cd_cell.specs.FaceView.{FaceView}
use Rattle.cd_cell.specs.PreparedView.{PreparedView}
use Rattle.cd_cell.specs.Tree.{Tree}
use Rattle.cd_event.specs.declared.names.Who.{Who}
use Rattle.cd_event.specs.declared.entry.Entry.{Entry}
use Rattle.cd_event.specs.Pins.{Named}
use Rattle.cd_feed.specs.declared.feed.Task.TheVariants as task
use Rattle.cd_run.specs.declared.outcome.Outcome.{Outcome}
use Rattle.cd_run.specs.declared.merged_task.Parents.{Parents}
use Rattle.cd_run.specs.declared.words.Stop.{Stop}
use Rattle.cd_run.specs.declared.words.Stop.TheVariants as stop
use Rattle.cd_run.specs.Ends.{stop_end}
use Rattle.cd_run.specs.Prepared.{HasUpdate, IsMergePrepared}
use Rattle.cd_run.specs.Runs.{JoinRun, UnjoinedRun, Did, both_looks, pinned_as, unpinned_as}
use Rattle.cd_run.specs.Stages.{Stage}
use Rattle.cd_run.specs.Merging.{named_as, IsPinned}

-- ---- pins

-- two pins, with what their worker was told of them
pub record ArePinned {H : Type 0} (digest : List ℕ → Hash256)
    (made : List (Entry H)) (named : List Named) (parents : Parents) (a b : Option Tree) : Type 0 where
  pub left : IsPinned digest made named parents.left a
  pub right : IsPinned digest made named parents.right b
  pub apart : (parents.left.pin == parents.right.pin) ≡ false

module _ {S H : Type 0} (digest : List ℕ → Hash256) (worker faults : S → ℕ) (made : S → List (Entry H))
    (goes : S → S → Type 0) (named : S → List Named)
    (who : Who) (left right : BlockId) (old new : S) where
  pub record BothPins (parents : Parents) : Type 0 where
    pub a : Option Tree
    pub b : Option Tree
    pub are_pinned : ArePinned digest (made new) (named new) parents a b
    pub stage : Stage worker faults made goes named
        (named_as parents.left a ∷ (named_as parents.right b ∷ []))
        (λ es. es ≡ pinned_as who left parents.left.pin ∷ (pinned_as who right parents.right.pin ∷ []))
        old new

  -- both pins; or what a task did that has an update and didn't get them
  abbrev pub PinsBoth : Result Parents Stop → Type 0
  PinsBoth (Ok parents) = BothPins parents
  PinsBoth (Err why) =
      (id : BlockId) (tops : List BlockId) (bag : List ℕ) (u : Tree) → HasUpdate digest bag u
      → Did digest worker faults made goes named who (task.Merged id left right tops bag)
      old new (stop_end why)

-- ---- faces

-- each face that was found stays
abbrev pub KeepsFaces : List (Option FaceView) → List (Option FaceView) → Type 0
KeepsFaces before now =
    (k : ℕ) (face : FaceView) → slice_get before k ≡ Some (Some face) → slice_get now k ≡ Some (Some face)

-- where nothing was found stands what was found elsewhere
abbrev pub FillsFaces : List (Option FaceView) → List (Option FaceView) → List (Option FaceView) → Type 0
FillsFaces before others now =
    (k : ℕ) (found : Option FaceView) → slice_get before k ≡ Some None → slice_get others k ≡ Some found
    → slice_get now k ≡ Some found

-- ---- entries under both pins

module _ {H : Type 0} (who : Who) (parents : Parents) where
  -- an unpin of each, or of the first alone or of none where memory ran out
  abbrev pub UnpinsBoth : {A : Type 0} → Result A Memory → List (Entry H) → Type 0
  UnpinsBoth (Ok done) es = (first : Option Bool) × ((second : Option Bool)
      × (es ≡ unpinned_as who parents.left.pin first ∷ (unpinned_as who parents.right.pin second ∷ [])))
  UnpinsBoth (Err memory) es =
      (es ≡ []) ⊎ ((first : Option Bool) × (es ≡ unpinned_as who parents.left.pin first ∷ []))

module _ {H : Type 0} (digest : List ℕ → Hash256) (who : Who) (m n : Named) (u : Tree) where
  -- answered looks, under the left pin and then under the right one
  abbrev pub OnlyBoth : List (Entry H) → Type 0
  OnlyBoth es = (left : List ℕ) × ((right : List ℕ) × (es ≡ both_looks who m n left right))

  -- looks, and a prepared value, or why there is none
  abbrev pub PreparesBoth : Result PreparedView Stop → List (Entry H) → Type 0
  PreparesBoth (Ok p) es = OnlyBoth es × IsMergePrepared digest m n u p
  PreparesBoth (Err (stop.Refused why)) es =
      (id : BlockId) (tops : List BlockId) → UnjoinedRun digest who m n u id tops es why
  PreparesBoth (Err stop.Memory) es = OnlyBoth es

  -- and the merge
  abbrev pub JoinsBy : BlockId → List BlockId → Result Outcome Stop → List (Entry H) → Type 0
  JoinsBy id tops (Ok end) es = JoinRun digest who m n u id tops es end
  JoinsBy id tops (Err (stop.Refused why)) es = UnjoinedRun digest who m n u id tops es why
  JoinsBy id tops (Err stop.Memory) es = OnlyBoth es

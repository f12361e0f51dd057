-- Inner: what the task of a block does by its pins, stage by stage.
use Rattle.std.specs.Prelude.{◌≡◌, ℕ, Bool, true, List, [], ◌∷◌, ◌++◌, Option, Some, None, Result, Ok, Err, IfSome}
use Rattle.cd_base.specs.declared.hash.Hash256.{Hash256}
use Rattle.cd_base.specs.declared.answers.Memory.{Memory}
use Rattle.cd_block.specs.declared.block.BlockId.{BlockId}
use Rattle.cd_cell.specs.PreparedView.{PreparedView}
use Rattle.cd_cell.specs.Tree.{Tree, info_of}
use Rattle.cd_event.specs.declared.names.Who.{Who}
use Rattle.cd_event.specs.declared.answers.Pinned.{Pinned}
use Rattle.cd_event.specs.declared.entry.Entry.{Entry}
use Rattle.cd_event.specs.declared.refusal.Refusal.{Refusal}
use Rattle.cd_event.specs.declared.faults.UnpinFault.{UnpinFault}
use Rattle.cd_event.specs.declared.faults.UnpinFault.TheVariants as unpin
use Rattle.cd_event.specs.Pins.{Named, find_pin, is_live, IsPlain, IsState}
use Rattle.cd_event.specs.Looks.{looks, failed_look}
use Rattle.cd_run.specs.declared.outcome.Outcome.{Outcome}
use Rattle.cd_run.specs.declared.outcome.TaskRefusal.TheVariants as word
use Rattle.cd_run.specs.declared.words.Stop.{Stop}
use Rattle.cd_run.specs.declared.words.Stop.TheVariants as stop
use Rattle.cd_run.specs.Words.{word_of}
use Rattle.cd_run.specs.Ends.{no_memory}
use Rattle.cd_run.specs.Prepared.{IsPrepared}
use Rattle.cd_run.specs.Runs.{MergeRun, UnmergedRun, pinned_as, not_pinned, unpinned_as}
use Rattle.cd_run.specs.Stages.{Stage}

-- ---- pins

-- the pin that was answered so, with this state
abbrev pub named_as : Pinned → Option Tree → Named
named_as pinned tree = record { number = pinned.pin; root = pinned.root; tree = tree }

-- it is live, and has what its worker was told of it
pub record IsPinned {H : Type 0} (digest : List ℕ → Hash256)
    (made : List (Entry H)) (named : List Named) (pinned : Pinned) (tree : Option Tree) : Type 0 where
  pub live : is_live pinned.pin made ≡ true
  pub found : find_pin named pinned.pin ≡ Some (named_as pinned tree)
  pub plain : IsPlain pinned.root
  pub state : IfSome tree (λ t. IsState digest t × (info_of digest t ≡ pinned.root))

module _ {S H : Type 0} (digest : List ℕ → Hash256) (worker faults : S → ℕ) (made : S → List (Entry H))
    (goes : S → S → Type 0) (named : S → List Named) (who : Who) (id : BlockId) (old new : S) where
  -- one pin came, under a new number
  pub record Pins (pinned : Pinned) : Type 0 where
    pub tree : Option Tree
    pub is_pinned : IsPinned digest (made new) (named new) pinned tree
    pub fresh : find_pin (named old) pinned.pin ≡ None
    pub stage : Stage worker faults made goes named (named_as pinned tree ∷ [])
        (λ es. es ≡ pinned_as who id pinned.pin ∷ []) old new

  -- a pin, by its answer
  abbrev pub PinsBy : Result Pinned Stop → Type 0
  PinsBy (Ok pinned) = Pins pinned
  PinsBy (Err (stop.Refused why)) = Stage worker faults made goes named []
      (λ es. (r : Refusal) × (es ≡ not_pinned who id r ∷ []) × (word_of r ≡ Some why)) old new
  PinsBy (Err stop.Memory) = Stage worker faults made goes named [] (λ es. es ≡ []) old new

-- ---- entries under pins

-- an unpin that the keeper fails isn't tried again
abbrev pub unpin_end : UnpinFault → Result (Unit {0}) Memory
unpin_end unpin.NoPin = Err no_memory
unpin_end unpin.Keeper = Ok tt
unpin_end unpin.Memory = Err no_memory

module _ {H : Type 0} (who : Who) (pin : ℕ) where
  -- the entry of an unpin, or none where memory ran out
  abbrev pub UnpinsBy : {A : Type 0} → Result A Memory → List (Entry H) → Type 0
  UnpinsBy (Ok done) es = (answer : Option Bool) × (es ≡ unpinned_as who pin answer ∷ [])
  UnpinsBy (Err memory) es = es ≡ []

  -- answered looks
  abbrev pub OnlyLooks : List (Entry H) → Type 0
  OnlyLooks es = (asked : List ℕ) × (es ≡ looks who pin asked)

  -- and at last one that the keeper failed, or none where memory ran out
  abbrev pub StopsLooks : Stop → List (Entry H) → Type 0
  StopsLooks (stop.Refused why) es = (why ≡ word.Keeper)
      × ((asked : List ℕ) × ((last : ℕ) × (es ≡ looks who pin asked ++ failed_look who pin last ∷ [])))
  StopsLooks stop.Memory es = OnlyLooks es

  abbrev pub LooksBy : {A : Type 0} → Result A Stop → List (Entry H) → Type 0
  LooksBy (Ok found) es = OnlyLooks es
  LooksBy (Err why) es = StopsLooks why es

module _ {H : Type 0} (digest : List ℕ → Hash256) (who : Who) (m : Named) (u : Tree) where
  -- looks, and a prepared value, or why there is none
  abbrev pub PreparesBy : Result PreparedView Stop → List (Entry H) → Type 0
  PreparesBy (Ok p) es = OnlyLooks who m.number es × IsPrepared digest m u p
  PreparesBy (Err (stop.Refused why)) es =
      (id : BlockId) (tops : List BlockId) → UnmergedRun digest who m u id tops es why
  PreparesBy (Err stop.Memory) es = OnlyLooks who m.number es

  -- and the merge
  abbrev pub MergesBy : BlockId → List BlockId → Result Outcome Stop → List (Entry H) → Type 0
  MergesBy id tops (Ok end) es = MergeRun digest who m u id tops es end
  MergesBy id tops (Err (stop.Refused why)) es = UnmergedRun digest who m u id tops es why
  MergesBy id tops (Err stop.Memory) es = OnlyLooks who m.number es

-- Trusted: what the tasks of a feed, done on one thread, make of a core: its new entries, and how each task ended.
use Rattle.std.specs.Prelude.{◌≡◌, ℕ, List, ◌++◌, Option}
use Rattle.cd_base.specs.declared.hash.Hash256.{Hash256}
use Rattle.cd_keeper.specs.Contents.{Contents}
use Rattle.cd_event.specs.declared.entry.Entry.{Entry}
use Rattle.cd_event.specs.Pins.{Named}
use Rattle.cd_event.specs.Turning.{RisesOnly}
use Rattle.cd_core.specs.Cores.{CoreView}
use Rattle.cd_core.specs.Workers.{named_by}
use Rattle.cd_feed.specs.declared.feed.Phase.{Phase}
use Rattle.cd_feed.specs.declared.feed.Task.{Task}
use Rattle.cd_run.specs.declared.outcome.Outcome.{Outcome}
use Rattle.cd_run.specs.Covers.{WorkerBegun, PartBegun, CutEarly}
use Rattle.cd_run.specs.Runs.{has_failed}
use Rattle.cd_lanes.specs.Lanes.{TasksRun}
use Rattle.cd_lanes.specs.Phases.{PartRun, PhasesRun}

-- the journal grew by such entries, and the keeper failed where one of them says so
pub record Grew {K X : Type 0} (faults : K → ℕ) (Are : List (Entry X) → Type 0) (old new : CoreView K X) : Type 0 where
  pub start : new.start ≡ old.start
  pub entries : List (Entry X)
  pub journal : new.journal ≡ old.journal ++ entries
  pub are : Are entries
  pub caused : RisesOnly (has_failed entries) (faults old.keeper) (faults new.keeper)

-- the pins that a worker was given by now
abbrev pub pins_in : {K X : Type 0} → (List ℕ → Hash256) → (K → Option Contents) → CoreView K X → ℕ → List Named
pins_in digest held core worker = named_by digest held worker core.start core.journal

module _ {K X : Type 0} (digest : List ℕ → Hash256) (held : K → Option Contents) (faults : K → ℕ) where
  -- a worker's tasks of a phase were done, all of them, and ended so
  abbrev pub WorkerDone : ℕ → ℕ → List Task → List Outcome → CoreView K X → CoreView K X → Type 0
  WorkerDone phase worker jobs ends old new =
      Grew faults (λ es. TasksRun digest (pins_in digest held new worker) phase worker 0 jobs es ends) old new

  -- the first ones were done, and memory ran out
  abbrev pub WorkerStopped : ℕ → ℕ → List Task → CoreView K X → CoreView K X → Type 0
  WorkerStopped phase worker jobs old new =
      Grew faults (λ es. WorkerBegun digest (pins_in digest held new worker) phase worker 0 jobs es) old new

  -- the same of all workers of a phase
  abbrev pub PhaseDone : ℕ → List (List Task) → List (List Outcome) → CoreView K X → CoreView K X → Type 0
  PhaseDone phase workers ends old new = Grew faults (λ es. PartRun digest (pins_in digest held new) phase workers es ends) old new

  abbrev pub PhaseStopped : ℕ → List (List Task) → CoreView K X → CoreView K X → Type 0
  PhaseStopped phase workers old new = Grew faults (λ es. PartBegun digest (pins_in digest held new) phase workers es) old new

  -- the same of all phases
  abbrev pub FeedDone : List Phase → List (List (List Outcome)) → CoreView K X → CoreView K X → Type 0
  FeedDone phases ends old new = Grew faults (λ es. PhasesRun digest (pins_in digest held new) 0 phases es ends) old new

  abbrev pub FeedStopped : List Phase → CoreView K X → CoreView K X → Type 0
  FeedStopped phases old new = Grew faults (λ es. CutEarly digest (pins_in digest held new) 0 phases es) old new

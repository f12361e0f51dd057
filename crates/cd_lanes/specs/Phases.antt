-- Trusted: what all workers do in the phases of a feed: entries and ends, cut into one part for each phase.
use Rattle.std.specs.Prelude.{◌≡◌, ℕ, ◌+◌, ◌<◌, List, [], ◌∷◌, ◌++◌, length, All, Some, slice_get}
use Rattle.cd_base.specs.declared.hash.Hash256.{Hash256}
use Rattle.cd_event.specs.declared.entry.Entry.{Entry}
use Rattle.cd_event.specs.Pins.{Named}
use Rattle.cd_feed.specs.declared.feed.Phase.{Phase}
use Rattle.cd_feed.specs.declared.feed.Task.{Task}
use Rattle.cd_run.specs.declared.outcome.Outcome.{Outcome}
use Rattle.cd_run.specs.Covers.{of_worker}
use Rattle.cd_lanes.specs.Lanes.{TasksRun}

module _ {X : Type 0} (digest : List ℕ → Hash256) (pins : ℕ → List Named) where
  -- the part of a phase has the entries of each worker's tasks, which ended so, and no other entry
  pub record PartRun (phase : ℕ) (workers : List (List Task)) (part : List (Entry X)) (ends : List (List Outcome))
      : Type 0 where
    pub each : (worker : ℕ) (jobs : List Task) → slice_get workers worker ≡ Some jobs
        → (its : List Outcome) × (slice_get ends worker ≡ Some its)
        × TasksRun digest (pins worker) phase worker 0 jobs (of_worker worker part) its
    pub only : All (λ e. e.who.worker < length workers) part
    pub beside : length ends ≡ length workers

  -- the phases from a number on, one part after another
  abbrev pub PhasesRun : ℕ → List Phase → List (Entry X) → List (List (List Outcome)) → Type 0
  PhasesRun n [] es ends = (es ≡ []) × (ends ≡ [])
  PhasesRun n (p ∷ ps) es ends = (part rest : List (Entry X)) × (first : List (List Outcome))
      × (others : List (List (List Outcome))) × PartRun n p.workers part first × PhasesRun (n + 1) ps rest others
      × (es ≡ part ++ rest) × (ends ≡ first ∷ others)

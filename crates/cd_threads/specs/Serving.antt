-- Inner: the lanes of a phase before and after it, and the clients that one of them has meanwhile.
use Rattle.std.specs.Prelude.{◌≡◌, ℕ, Bool, false, List, [], slice_index_or, Option}
use Rattle.cd_base.specs.declared.hash.Hash256.{Hash256}
use Rattle.cd_event.specs.declared.entry.Entry.{Entry}
use Rattle.cd_event.specs.Pins.{Named}
use Rattle.cd_feed.specs.declared.feed.Task.{Task}
use Rattle.cd_run.specs.declared.outcome.Outcome.{Outcome}
use Rattle.cd_lanes.specs.Lanes.{IsServed}
use Rattle.cd_phases.specs.declared.lane.Lane.{Lane}
use Rattle.cd_phases.specs.Sides.{TasksRan}

module _ {S V : Type 0} {B : V → Type 0} where
  -- a lane of this worker, in which nothing was done
  pub record IsUnused (worker : S → ℕ) (k : ℕ) (lane : Lane S V B) : Type 0 where
    pub its_worker : worker lane.seat ≡ k
    pub place : lane.worker ≡ k
    pub no_ends : lane.outcomes.items ≡ []
    pub no_want : lane.memory ≡ false

  -- what its worker did
  abbrev pub LaneDid : {H : Type 0} → (List ℕ → Hash256) → (S → ℕ) → (S → ℕ) → (S → List (Entry H))
      → (S → S → Type 0) → (S → List Named) → ℕ → ℕ → List Task → Lane S V B → Lane S V B → Type 0
  LaneDid digest worker faults made goes named phase k jobs old new = TasksRan digest worker faults made
      goes named new.memory phase k jobs new.outcomes.items old.seat new.seat

  module _ {C : Type 0} (got : C → Option (List ℕ)) (steady : C → Bool) (digest : List ℕ → Hash256)
      (named : S → List Named) (lanes : List (Lane S V B)) where
    -- the serve of a lane's worker left the clients so
    abbrev pub LaneServed : ℕ → List Task → List Outcome → List C → List C → Type 0
    LaneServed k jobs ends old new = (d : Lane S V B)
        → IsServed got steady digest (named (slice_index_or lanes k d).seat) jobs ends old new

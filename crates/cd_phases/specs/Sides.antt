-- Trusted: a worker's lane before a phase and after it, by the meanings of its turns.
use Rattle.std.specs.Prelude.{◌≡◌, ℕ, ◌≤◌, Bool, true, false, List, [], Option}
use Rattle.cd_base.specs.declared.hash.Hash256.{Hash256}
use Rattle.cd_event.specs.declared.entry.Entry.{Entry}
use Rattle.cd_event.specs.Pins.{Named}
use Rattle.cd_fan.specs.Fans.{HaveGotBytes}
use Rattle.cd_feed.specs.declared.feed.Task.{Task}
use Rattle.cd_feed.specs.Feeds.{IsWorkerFit}
use Rattle.cd_run.specs.declared.outcome.Outcome.{Outcome}
use Rattle.cd_lanes.specs.Lanes.{serves, LeavesAll, WorkerDone, WorkerStopped}
use Rattle.cd_phases.specs.declared.lane.Lane.{Lane}

-- a lane whose clients are `dyn`: V are their tables of methods
module _ {S C V : Type 0} {B : V → Type 0} (worker : S → ℕ) (clients : Lane S V B → List C)
    (got : C → Option (List ℕ)) where
  -- it may begin with these tasks: its turns are its worker's, nothing is told yet, and a serve's clients have got nothing
  pub record IsReady (jobs : List Task) (lane : Lane S V B) : Type 0 where
    pub fit : IsWorkerFit jobs
    pub one : serves jobs ≤ 1
    pub its_worker : worker lane.seat ≡ lane.worker
    pub no_ends : lane.outcomes.items ≡ []
    pub no_want : lane.memory ≡ false
    pub fresh : 1 ≤ serves jobs → HaveGotBytes got 0 (clients lane)

module _ {S H : Type 0} (digest : List ℕ → Hash256) (worker faults : S → ℕ) (made : S
    → List (Entry H)) (goes : S → S → Type 0) (named : S → List Named) where
  -- all tasks were done, and ended so; or memory ran out, the first ones were done, and no end is told
  abbrev pub TasksRan : Bool → ℕ → ℕ → List Task → List Outcome → S → S → Type 0
  TasksRan false phase number jobs ends old new =
      WorkerDone digest worker faults made goes named phase number jobs ends old new
  TasksRan true phase number jobs ends old new =
      (ends ≡ []) × WorkerStopped digest worker faults made goes named phase number jobs old new

  module _ {C V : Type 0} {B : V → Type 0} (clients : Lane S V B → List C) (got : C → Option (List ℕ))
      (steady : C → Bool) where
    -- what a lane's worker did in a phase, and what it left of the clients
    pub record LaneRan (phase : ℕ) (jobs : List Task) (old new : Lane S V B) : Type 0 where
      pub place : new.worker ≡ old.worker
      pub ran : TasksRan new.memory phase old.worker jobs new.outcomes.items old.seat new.seat
      pub served : LeavesAll got steady digest (named new.seat) jobs new.outcomes.items (clients old) (clients new)
      pub untouched : serves jobs ≡ 0 → clients new ≡ clients old

-- Inner: a seat of all numbers, and what it has seen of the phases so far.
use Rattle.std.specs.Prelude.{◌≡◌, ℕ, List, ◌++◌, Option}
use Rattle.cd_base.specs.declared.hash.Hash256.{Hash256}
use Rattle.cd_keeper.specs.Contents.{Contents}
use Rattle.cd_event.specs.declared.entry.Entry.{Entry}
use Rattle.cd_event.specs.Pins.{Named}
use Rattle.cd_gate.specs.Gates.{GateView, SeatView, IsSeatOf, IsWholeSeat}
use Rattle.cd_core.specs.declared.start.CoreStart.{CoreStart}
use Rattle.cd_core.specs.Workers.{named_by}
use Rattle.cd_feed.specs.declared.feed.Phase.{Phase}
use Rattle.cd_feed.specs.declared.feed.Task.{Task}
use Rattle.cd_run.specs.declared.outcome.Outcome.{Outcome}
use Rattle.cd_run.specs.Covers.{PartBegun, CutEarly}
use Rattle.cd_lanes.specs.Phases.{PartRun, PhasesRun}

-- a seat of this core, that has all its numbers
pub record IsAllOf {E S : Type 0} (gate : GateView S) (seat : SeatView E S) : Type 0 where
  pub of : IsSeatOf gate seat
  pub whole : IsWholeSeat gate seat

-- more was seen, which is such
pub record SeenMore {X : Type 0} (Are : List (Entry X) → Type 0) (old new : List (Entry X)) : Type 0 where
  pub entries : List (Entry X)
  pub added : new ≡ old ++ entries
  pub are : Are entries

-- a seat of a shared core
abbrev pub CoreSeat : Type 0 → Type 0 → Type 0
CoreSeat K X = SeatView (Entry X) (CoreStart K)

module _ {K X : Type 0} (digest : List ℕ → Hash256) (held : K → Option Contents)
    (gate : GateView (CoreStart K)) where
  -- the pins that a worker was given, by what a seat has seen
  abbrev pub pins_seen : CoreSeat K X → ℕ → List Named
  pins_seen seat worker = named_by digest held worker gate.start seat.seen

  -- all tasks of a phase were done, and ended so
  abbrev pub PhaseDone : ℕ → List (List Task) → List (List Outcome) → CoreSeat K X → CoreSeat K X → Type 0
  PhaseDone phase workers ends old new =
      SeenMore (λ es. PartRun digest (pins_seen new) phase workers es ends) old.seen new.seen

  -- some workers did their first ones alone, and memory ran out
  abbrev pub PhaseStopped : ℕ → List (List Task) → CoreSeat K X → CoreSeat K X → Type 0
  PhaseStopped phase workers old new =
      SeenMore (λ es. PartBegun digest (pins_seen new) phase workers es) old.seen new.seen

  -- the same of phases from the first on, where nothing had been seen
  abbrev pub PhasesDone : List Phase → List (List (List Outcome)) → CoreSeat K X → Type 0
  PhasesDone phases ends seat = PhasesRun digest (pins_seen seat) 0 phases seat.seen ends

  abbrev pub PhasesStopped : List Phase → CoreSeat K X → Type 0
  PhasesStopped phases seat = CutEarly digest (pins_seen seat) 0 phases seat.seen

-- Inner: seats that are parted among workers, and put together again.
use Rattle.std.specs.Prelude.{◌≡◌, ℕ, ◌+◌, ◌<◌, ◌==◌, if◌then◌else◌, false, List, [], Option}
use Rattle.cd_base.specs.declared.hash.Hash256.{Hash256}
use Rattle.cd_event.specs.declared.entry.Entry.{Entry}
use Rattle.cd_gate.specs.Gates.{GateView, SeatView, IsSeatOf}
use Rattle.cd_core.specs.declared.start.CoreStart.{CoreStart}
use Rattle.cd_core.specs.Workers.{made_by, named_by}
use Rattle.cd_keeper.specs.Contents.{Contents}
use Rattle.cd_phases.specs.declared.lane.Lane.{Lane}

module _ {E D : Type 0} where
  -- a worker's part of a seat: its own number, and the last worker's also all further ones
  abbrev pub part_of : ℕ → ℕ → SeatView E D → SeatView E D
  part_of workers k seat = record seat { lowest = k; end = if k + 1 == workers then seat.end else k + 1 }

  module _ {S V : Type 0} {B : V → Type 0} (seat_of : S → SeatView E D) (gate_of : S → GateView D)
      (gate : GateView D) (k : ℕ) where
    -- a worker's lane before a phase, over one shared value
    pub record IsLaneFor (seat : SeatView E D) (lane : Lane S V B) : Type 0 where
      pub place : lane.worker ≡ k
      pub its_seat : seat_of lane.seat ≡ seat
      pub its_gate : gate_of lane.seat ≡ gate
      pub no_ends : lane.outcomes.items ≡ []
      pub no_want : lane.memory ≡ false

    -- a lane at its place among so many
    pub record IsLaneAt (count : ℕ) (lane : Lane S V B) : Type 0 where
      pub of : IsSeatOf gate (seat_of lane.seat)
      pub lowest : (let s = seat_of lane.seat in s.lowest) ≡ k
      pub end : k + 1 < count → (let s = seat_of lane.seat in s.end) ≡ k + 1
      pub some : (let s = seat_of lane.seat in s.lowest < s.end)

-- what a worker knows by the entries that its seat has seen, it knows by these
module _ {K X : Type 0} (digest : List ℕ → Hash256) (held : K → Option Contents) (start : CoreStart K) where
  pub record KnowsSame (worker : ℕ) (seen now : List (Entry X)) : Type 0 where
    pub made : made_by worker now ≡ made_by worker seen
    pub named : named_by digest held worker start now ≡ named_by digest held worker start seen

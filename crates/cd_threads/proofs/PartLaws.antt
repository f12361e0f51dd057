-- What the lanes of a phase did, put together: the part of the phase.
use Rattle.std.proofs.Common.{◌≡◌, ◌⊎◌, ⊎_elim, inl, inr, ℕ, ◌+◌, ◌-◌, ◌<◌, ◌≤◌, Bool, false, if◌then◌else◌, eq-eqb, List, [], ◌++◌, length, map, drop, All, Option, Some, refl, sym, ap, subst, ◌∙◌, arith, append_assoc, append-nil}
use Rattle.std.specs.Prelude.{slice_get, slice_index_or}
use Rattle.std.specs.Option.{option_map}
use Rattle.std.proofs.lemmas.List.{drop_at, length-map}
use Rattle.std.proofs.lemmas.List.Elements.{All-nil, All-append, All-drop, All-weaker}
use Rattle.std.proofs.lemmas.Option.{slice_get-map, slice_get_within, slice_get-get_or, get_or_from_slice_get}
use Rattle.cd_base.specs.declared.hash.Hash256.{Hash256}
use Rattle.cd_keeper.specs.Contents.{Contents}
use Rattle.cd_event.specs.declared.entry.Entry.{Entry}
use Rattle.cd_event.specs.Pins.{Named}
use Rattle.cd_gate.specs.Gates.{GateView, SeatView, IsSeatOf}
use Rattle.cd_gate.specs.Histories.{GrewByOthers}
use Rattle.cd_core.specs.declared.start.CoreStart.{CoreStart}
use Rattle.cd_feed.specs.declared.feed.Task.{Task}
use Rattle.cd_run.specs.declared.outcome.Outcome.{Outcome}
use Rattle.cd_run.specs.Covers.{of_worker, PartBegun, WorkerBegun}
use Rattle.cd_lanes.specs.Lanes.{TasksRun}
use Rattle.cd_lanes.proofs.TaskLaws.{none_begun}
use Rattle.cd_phases.specs.declared.lane.Lane.{Lane}
use Rattle.cd_shared.specs.SharedTurns.{worker_of, SeatGoesOn}
use Rattle.cd_threads.specs.Seats.{IsLaneFor, KnowsSame, part_of}
use Rattle.cd_threads.specs.Serving.{LaneDid}
use Rattle.cd_threads.specs.Whole.{IsAllOf, PhaseDone, PhaseStopped, pins_seen}
use Rattle.cd_threads.proofs.ServedLaws.{head_of}
use Rattle.cd_threads.proofs.LaneLaws.{worker, seen, made, faults, named, ran_went, ran_worker, its_pins, lane_ran, lane_begun}

-- no entry is a part that is begun
pub no_part : {X : Type 0} (digest : List ℕ → Hash256) (pins : ℕ → List Named) (phase : ℕ) (workers : List (List Task)) (es : List (Entry X)) → es ≡ [] → PartBegun digest pins phase workers es
no_part digest pins phase workers es none = record {
  each = λ w jobs at. none_begun digest (pins w) phase w 0 jobs (of_worker w es) (ap (of_worker w) none);
  only = subst (All (λ e. e.who.worker < length workers)) (sym none) (All-nil (λ e. e.who.worker < length workers));
}

pub nothing_done : {K X : Type 0} (digest : List ℕ → Hash256) (held : K → Option Contents) (gate : GateView (CoreStart K)) (phase : ℕ) (workers : List (List Task)) (seat : SeatView (Entry X) (CoreStart K)) → PhaseStopped digest held gate phase workers seat seat
nothing_done digest held gate phase workers seat = record {
  entries = [];
  added = sym (append-nil seat.seen);
  are = no_part digest (pins_seen digest held gate seat) phase workers [] refl;
}

-- ---- the parts of a seat

module _ {E D : Type 0} (n k : ℕ) (old : SeatView E D) where
  end_last : k + 1 ≡ n → (let p = part_of n k old in p.end) ≡ old.end
  end_last is = ap (λ (b : Bool). if b then old.end else k + 1) (eq-eqb (k + 1) n is)

abbrev jobs_at : List (List Task) → ℕ → List Task
jobs_at workers k = slice_index_or workers k []

module _ {K X S V : Type 0} {B : V → Type 0} (digest : List ℕ → Hash256) (held : K → Option Contents) (seat_of : S → SeatView (Entry X) (CoreStart K)) (gate_of : S → GateView (CoreStart K)) (goes : S → S → Type 0)
    (on : (t u : S) → goes t u → (gate_of u ≡ gate_of t) × SeatGoesOn (seat_of t) (seat_of u)) (gate : GateView (CoreStart K)) (phase : ℕ) (workers : List (List Task)) where
  abbrev Before : ℕ → SeatView (Entry X) (CoreStart K) → Lane S V B → Type 0
  Before k old lane = IsLaneFor seat_of gate_of gate k (part_of (length workers) k old) lane

  abbrev Did : ℕ → Lane S V B → Lane S V B → Type 0
  Did k a b = LaneDid digest (worker seat_of) (faults seat_of) (made seat_of) goes (named digest held seat_of gate_of) phase k (jobs_at workers k) a b

  -- ---- one lane

  module _ (old : SeatView (Entry X) (CoreStart K)) (k : ℕ) (a b : Lane S V B) (before : Before k old a) (did : Did k a b) where
    went : (gate_of b.seat ≡ gate_of a.seat) × SeatGoesOn (seat_of a.seat) (seat_of b.seat)
    went = on a.seat b.seat (ran_went digest held seat_of gate_of goes b.memory phase k (jobs_at workers k) b.outcomes.items a.seat b.seat did)

    its_gate : gate_of b.seat ≡ gate
    its_gate = went.0 ∙ before.its_gate

    mine : worker seat_of a.seat ≡ k
    mine = ap (λ (s : SeatView (Entry X) (CoreStart K)). s.lowest) before.its_seat

    began : seen seat_of a.seat ≡ old.seen
    began = ap (λ (s : SeatView (Entry X) (CoreStart K)). s.seen) before.its_seat

    seat_is : seat_of b.seat ≡ record (part_of (length workers) k old) { seen = seen seat_of b.seat }
    seat_is = let w = went.1 in w.same ∙ ap (λ (s : SeatView (Entry X) (CoreStart K)). record s { seen = seen seat_of b.seat }) before.its_seat

    end_is : (let s = seat_of b.seat in s.end) ≡ (let p = part_of (length workers) k old in p.end)
    end_is = ap (λ (s : SeatView (Entry X) (CoreStart K)). s.end) seat_is

  -- ---- all lanes

  module _ (before after : List (Lane S V B)) (old new : SeatView (Entry X) (CoreStart K)) where
    -- each lane did its tasks, and the seats were put together
    pub record AreJoined : Type 0 where
      pub some : 0 < length workers
      pub beside : length after ≡ length workers
      pub had_all : IsAllOf gate old
      pub starts : (k : ℕ) (d : Lane S V B) → k < length workers → Before k old (slice_index_or before k d)
      pub ran : (k : ℕ) (d : Lane S V B) → k < length workers → Did k (slice_index_or before k d) (slice_index_or after k d)
      pub knows : (k : ℕ) (d : Lane S V B) → k < length workers → KnowsSame digest held gate.start k (seen seat_of (slice_index_or after k d).seat) new.seen
      pub last : (d : Lane S V B) (k : ℕ) → length workers ≡ k + 1 → (new.end ≡ (let s = seat_of (slice_index_or after k d).seat in s.end))
          × GrewByOthers worker_of k (let s = seat_of (slice_index_or after k d).seat in s.end) (seen seat_of (slice_index_or after k d).seat) new.seen
      pub joined : IsSeatOf gate new × (new.lowest ≡ 0)
      pub numbers : All (λ e. worker_of e < new.workers) new.seen

    module _ (j : AreJoined) where
      any : Lane S V B
      any = head_of after (omega (arith, j.some, j.beside))

      abbrev first : ℕ → Lane S V B
      first k = slice_index_or before k any

      abbrev lane : ℕ → Lane S V B
      lane k = slice_index_or after k any

      -- ---- the last lane has all further numbers

      abbrev top : ℕ
      top = length workers - 1

      step : length workers ≡ top + 1
      step = omega (arith, j.some)

      within : top < length workers
      within = omega (arith, j.some)

      numbers_are : old.end ≡ new.workers
      numbers_are = let all = j.had_all in let of = j.joined.0 in all.whole.end ∙ sym of.workers

      begun_end : (let s = seat_of (first top).seat in s.end) ≡ old.end
      begun_end = (let b = j.starts top any within in ap (λ (s : SeatView (Entry X) (CoreStart K)). s.end) b.its_seat) ∙ end_last (length workers) top old (sym step)

      its_end : (let s = seat_of (lane top).seat in s.end) ≡ old.end
      its_end = end_is old top (first top) (lane top) (j.starts top any within) (j.ran top any within) ∙ end_last (length workers) top old (sym step)

      gone : SeatGoesOn (seat_of (first top).seat) (seat_of (lane top).seat)
      gone = let w = went old top (first top) (lane top) (j.starts top any within) (j.ran top any within) in w.1

      grew : GrewByOthers worker_of top (let s = seat_of (lane top).seat in s.end) (seen seat_of (lane top).seat) new.seen
      grew = let l = j.last any top step in l.1

      -- what is new
      abbrev es : List (Entry X)
      es = gone.more ++ grew.0

      whole : new.seen ≡ old.seen ++ es
      whole = grew.1 ∙ (ap (λ (l : List (Entry X)). l ++ grew.0) (gone.seen ∙ ap (λ (l : List (Entry X)). l ++ gone.more) (began old top (first top) (lane top) (j.starts top any within) (j.ran top any within)))
          ∙ append_assoc old.seen gone.more grew.0)

      abbrev Low : Entry X → Type 0
      Low e = (worker_of e < length workers) ⊎ (old.end ≤ worker_of e)

      abbrev lowest : ℕ
      lowest = let s = seat_of (first top).seat in s.lowest

      abbrev end : ℕ
      end = let s = seat_of (first top).seat in s.end

      its_lowest : lowest ≡ top
      its_lowest = mine old top (first top) (lane top) (j.starts top any within) (j.ran top any within)

      low : All Low es
      low = All-append Low gone.more grew.0
          (All-weaker (λ e. (worker_of e ≡ lowest) ⊎ ((worker_of e < lowest) ⊎ (end ≤ worker_of e))) Low (λ e o. ⊎_elim (λ (same : worker_of e ≡ lowest). inl (omega (arith, its_lowest, within)))
          (λ (other : (worker_of e < lowest) ⊎ (end ≤ worker_of e)). ⊎_elim (λ (less : worker_of e < lowest). inl (omega (arith, its_lowest, within))) (λ (more : end ≤ worker_of e). inr (omega (arith, begun_end))) other) o) gone.more gone.apart)
          (All-weaker (λ e. (worker_of e < top) ⊎ ((let s = seat_of (lane top).seat in s.end) ≤ worker_of e)) Low (λ e o. ⊎_elim (λ (less : worker_of e < top). inl (omega (arith, within)))
          (λ (more : (let s = seat_of (lane top).seat in s.end) ≤ worker_of e). inr (omega (arith, its_end))) o) grew.0 grew.2)

      abbrev IsNumber : Entry X → Type 0
      IsNumber e = worker_of e < new.workers

      numbers_of : All IsNumber es
      numbers_of = subst (All IsNumber) (drop_at old.seen es (length old.seen) refl)
          (subst (λ (l : List (Entry X)). All IsNumber (drop (length old.seen) l)) whole (All-drop IsNumber (length old.seen) new.seen j.numbers))

      only : All (λ e. e.who.worker < length workers) es
      only k d lt = ⊎_elim (λ (is : worker_of (slice_index_or es k d) < length workers). is)
          (λ (high : old.end ≤ worker_of (slice_index_or es k d)). absurd (omega (arith, numbers_are, numbers_of k d lt))) (low k d lt)

      pub all_new : IsAllOf gate new
      all_new = let of = j.joined in let all = j.had_all in let l = j.last any top step in record { of = of.0; whole = record { lowest = of.1; end = l.0 ∙ its_end ∙ all.whole.end } }

      -- ---- each worker

      pub pins_are : (k : ℕ) (d : Lane S V B) → k < length workers → named digest held seat_of gate_of (slice_index_or after k d).seat ≡ pins_seen digest held gate new k
      pins_are k d lt =
          let a = slice_index_or before k d in
          let b = slice_index_or after k d in
          let its = mine old k a b (j.starts k d lt) (j.ran k d lt) in
          its_pins digest held seat_of gate_of goes gate k a.seat b.seat old.seen new.seen es its (began old k a b (j.starts k d lt) (j.ran k d lt)) (its_gate old k a b (j.starts k d lt) (j.ran k d lt)) whole (j.knows k d lt)
          (ran_worker digest held seat_of gate_of goes gate k a.seat b.seat old.seen new.seen es its (began old k a b (j.starts k d lt) (j.ran k d lt)) (its_gate old k a b (j.starts k d lt) (j.ran k d lt)) whole (j.knows k d lt)
          phase (jobs_at workers k) b.outcomes.items b.memory (j.ran k d lt))

      done_at : (k : ℕ) → k < length workers → (let l = lane k in l.memory) ≡ false → TasksRun digest (pins_seen digest held gate new k) phase k 0 (jobs_at workers k) (of_worker k es) (let l = lane k in l.outcomes.items)
      done_at k lt had =
          let a = first k in
          let b = lane k in
          lane_ran digest held seat_of gate_of goes gate k a.seat b.seat old.seen new.seen es (mine old k a b (j.starts k any lt) (j.ran k any lt)) (began old k a b (j.starts k any lt) (j.ran k any lt)) (its_gate old k a b (j.starts k any lt) (j.ran k any lt))
          whole (j.knows k any lt) phase (jobs_at workers k) b.outcomes.items b.memory had (j.ran k any lt)

      begun_at : (k : ℕ) → k < length workers → WorkerBegun digest (pins_seen digest held gate new k) phase k 0 (jobs_at workers k) (of_worker k es)
      begun_at k lt =
          let a = first k in
          let b = lane k in
          lane_begun digest held seat_of gate_of goes gate k a.seat b.seat old.seen new.seen es (mine old k a b (j.starts k any lt) (j.ran k any lt)) (began old k a b (j.starts k any lt) (j.ran k any lt)) (its_gate old k a b (j.starts k any lt) (j.ran k any lt))
          whole (j.knows k any lt) phase (jobs_at workers k) b.outcomes.items b.memory (j.ran k any lt)

      ends_at : (ends : List (List Outcome)) → ends ≡ map (λ l. l.outcomes.items) after → (k : ℕ) → k < length workers → slice_get ends k ≡ Some (let l = lane k in l.outcomes.items)
      ends_at ends are k lt = ap (λ (l : List (List Outcome)). slice_get l k) are ∙ (slice_get-map (λ l. l.outcomes.items) after k
          ∙ ap (option_map (λ (l : Lane S V B). l.outcomes.items)) (slice_get-get_or after k any (omega (arith, j.beside, lt))))

      pub part_done : (ends : List (List Outcome)) → ends ≡ map (λ l. l.outcomes.items) after → ((k : ℕ) (d : Lane S V B) → k < length workers → (let l = slice_index_or after k d in l.memory) ≡ false) → PhaseDone digest held gate phase workers ends old new
      part_done ends are had = record {
        entries = es;
        added = whole;
        are = record {
          each = λ w jobs at.
              let lt = slice_get_within workers w jobs at in (
                (let l = lane w in l.outcomes.items),
                ends_at ends are w lt,
                subst (λ (js : List Task). TasksRun digest (pins_seen digest held gate new w) phase w 0 js (of_worker w es) (let l = lane w in l.outcomes.items)) (get_or_from_slice_get workers w jobs [] at) (done_at w lt (had w any lt)),
              );
          only = only;
          beside = ap length are ∙ (length-map after (λ (l : Lane S V B). l.outcomes.items) ∙ j.beside);
        };
      }

      pub part_stopped : PhaseStopped digest held gate phase workers old new
      part_stopped = record {
        entries = es;
        added = whole;
        are = record {
          each = λ w jobs at.
              let lt = slice_get_within workers w jobs at in
              subst (λ (js : List Task). WorkerBegun digest (pins_seen digest held gate new w) phase w 0 js (of_worker w es)) (get_or_from_slice_get workers w jobs [] at) (begun_at w lt);
          only = only;
        };
      }

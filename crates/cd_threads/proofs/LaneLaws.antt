-- What a lane did, by what the whole seat has seen behind it.
use Rattle.std.proofs.Common.{◌≡◌, ℕ, Bool, true, false, List, ◌++◌, Option, sym, ap, ap₂, subst, ◌∙◌}
use Rattle.std.proofs.lemmas.List.{append_cancel_left}
use Rattle.std.proofs.lemmas.List.Elements.{filter-append}
use Rattle.cd_base.specs.declared.hash.Hash256.{Hash256}
use Rattle.cd_keeper.specs.Contents.{Contents}
use Rattle.cd_event.specs.declared.entry.Entry.{Entry}
use Rattle.cd_event.specs.Pins.{Named}
use Rattle.cd_gate.specs.Gates.{GateView, SeatView}
use Rattle.cd_core.specs.declared.start.CoreStart.{CoreStart}
use Rattle.cd_core.specs.Cores.{failures}
use Rattle.cd_core.specs.Workers.{is_own, made_by, named_by}
use Rattle.cd_feed.specs.declared.feed.Task.{Task}
use Rattle.cd_run.specs.declared.outcome.Outcome.{Outcome}
use Rattle.cd_run.specs.Covers.{of_worker, WorkerBegun}
use Rattle.cd_lanes.specs.Lanes.{TasksRun, WentOn}
use Rattle.cd_lanes.proofs.TaskLaws.{begun_of_tasks}
use Rattle.cd_phases.specs.Sides.{TasksRan}
use Rattle.cd_threads.specs.Seats.{KnowsSame}

-- ---- the turns of a seat

module _ {X D S : Type 0} (seat_of : S → SeatView (Entry X) D) where
  abbrev pub worker : S → ℕ
  worker t = let s = seat_of t in s.lowest

  abbrev pub seen : S → List (Entry X)
  seen t = let s = seat_of t in s.seen

  abbrev pub made : S → List (Entry X)
  made t = let s = seat_of t in made_by s.lowest s.seen

  abbrev pub faults : S → ℕ
  faults t = let s = seat_of t in failures (made_by s.lowest s.seen)

abbrev pub named : {K X S : Type 0} → (List ℕ → Hash256) → (K → Option Contents) → (S → SeatView (Entry X) (CoreStart K)) → (S → GateView (CoreStart K)) → S → List Named
named digest held seat_of gate_of t = let s = seat_of t in let g = gate_of t in named_by digest held s.lowest g.start s.seen

module _ {K X S : Type 0} (digest : List ℕ → Hash256) (held : K → Option Contents) (seat_of : S → SeatView (Entry X) (CoreStart K)) (gate_of : S → GateView (CoreStart K)) (goes : S → S → Type 0) where
  abbrev pub Went : (List (Entry X) → Type 0) → S → S → Type 0
  Went Are t u = WentOn digest (worker seat_of) (faults seat_of) (made seat_of) goes (named digest held seat_of gate_of) Are t u

  abbrev pub Ran : Bool → ℕ → ℕ → List Task → List Outcome → S → S → Type 0
  Ran memory phase k jobs ends t u = TasksRan digest (worker seat_of) (faults seat_of) (made seat_of) goes (named digest held seat_of gate_of) memory phase k jobs ends t u

  pub ran_went : (memory : Bool) (phase k : ℕ) (jobs : List Task) (ends : List Outcome) (t u : S) → Ran memory phase k jobs ends t u → goes t u
  ran_went false phase k jobs ends t u did = did.went
  ran_went true phase k jobs ends t u did = let stopped = did.1 in stopped.went

  module _ (gate : GateView (CoreStart K)) (k : ℕ) (t u : S) (before after es : List (Entry X)) (mine : worker seat_of t ≡ k) (began : seen seat_of t ≡ before) (gate_is : gate_of u ≡ gate)
      (whole : after ≡ before ++ es) (same : KnowsSame digest held gate.start k (seen seat_of u) after) where
    abbrev pins : List Named
    pins = named_by digest held k gate.start after

    -- its entries are all of its worker's that are new
    its_entries : (Are : List (Entry X) → Type 0) (went : Went Are t u) → of_worker k es ≡ went.entries
    its_entries Are went = append_cancel_left (made_by k before) (made_by k es) went.entries
        (sym (filter-append (is_own k) before es) ∙ ap (made_by k) (sym whole) ∙ same.made ∙ ap (λ n. made_by n (seen seat_of u)) (sym (went.same_worker ∙ mine)) ∙ went.added
        ∙ ap₂ (λ (n : ℕ) (l : List (Entry X)). made_by n l ++ went.entries) mine began)

    -- its pins are all of its worker's
    pub its_pins : worker seat_of u ≡ k → named digest held seat_of gate_of u ≡ pins
    its_pins its = ap₂ (λ (n : ℕ) (g : GateView (CoreStart K)). named_by digest held n g.start (seen seat_of u)) its gate_is ∙ sym same.named

    module _ (phase : ℕ) (jobs : List Task) (ends : List Outcome) where
      lane_done : Ran false phase k jobs ends t u → TasksRun digest pins phase k 0 jobs (of_worker k es) ends
      lane_done did = subst (λ l. TasksRun digest l phase k 0 jobs (of_worker k es) ends) (its_pins (did.same_worker ∙ mine))
          (subst (λ l. TasksRun digest (named digest held seat_of gate_of u) phase k 0 jobs l ends) (sym (its_entries _ did)) did.are)

      lane_stopped : Went (λ l. WorkerBegun digest (named digest held seat_of gate_of u) phase k 0 jobs l) t u → WorkerBegun digest pins phase k 0 jobs (of_worker k es)
      lane_stopped did = subst (λ l. WorkerBegun digest l phase k 0 jobs (of_worker k es)) (its_pins (did.same_worker ∙ mine))
          (subst (λ l. WorkerBegun digest (named digest held seat_of gate_of u) phase k 0 jobs l) (sym (its_entries _ did)) did.are)

      pub lane_ran : (memory : Bool) → memory ≡ false → Ran memory phase k jobs ends t u → TasksRun digest pins phase k 0 jobs (of_worker k es) ends
      lane_ran memory had did = lane_done (subst (λ m. Ran m phase k jobs ends t u) had did)

      pub lane_begun : (memory : Bool) → Ran memory phase k jobs ends t u → WorkerBegun digest pins phase k 0 jobs (of_worker k es)
      lane_begun false did = begun_of_tasks digest pins phase k 0 jobs (of_worker k es) ends (lane_done did)
      lane_begun true did = lane_stopped did.1

      pub ran_worker : (memory : Bool) → Ran memory phase k jobs ends t u → worker seat_of u ≡ k
      ran_worker false did = did.same_worker ∙ mine
      ran_worker true did = let stopped = did.1 in stopped.same_worker ∙ mine

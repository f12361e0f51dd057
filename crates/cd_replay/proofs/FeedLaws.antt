-- A feed, one phase more.
use Rattle.std.proofs.Common.{◌≡◌, ℕ, ◌+◌, ◌<◌, ◌≤◌, Bool, List, [], ◌∷◌, ◌++◌, length, take, drop, get_or, Option, refl, sym, subst, append-nil, arith}
use Rattle.std.proofs.lemmas.List.{length-take}
use Rattle.cd_base.specs.declared.hash.Hash256.{Hash256}
use Rattle.cd_keeper.specs.Contents.{Contents}
use Rattle.cd_event.specs.declared.entry.Entry.{Entry}
use Rattle.cd_core.specs.Cores.{CoreView}
use Rattle.cd_feed.specs.declared.feed.Feed.{Feed}
use Rattle.cd_feed.specs.declared.feed.Phase.{Phase}
use Rattle.cd_feed.specs.declared.feed.Task.{Task}
use Rattle.cd_run.specs.declared.outcome.Outcome.{Outcome}
use Rattle.cd_run.specs.Covers.{PartBegun, CutEarly}
use Rattle.cd_feed.specs.Feeds.{IsFeedFit, feed_serves, phase_serves, worker_serves}
use Rattle.cd_lanes.specs.Left.{all_serves, PhaseServed}
use Rattle.cd_lanes.specs.Phases.{PartRun, PhasesRun}
use Rattle.cd_lanes.proofs.PhaseRuns.{begun_of_part, phases_with_more, phases_push, early_push}
use Rattle.cd_replay.specs.Ran.{pins_in, PhaseDone, PhaseStopped, FeedDone, FeedStopped}
use Rattle.cd_lanes.proofs.LeftLaws.{so_far, all_of}
use Rattle.cd_replay.proofs.PhaseLaws.{grew_twice, grow_served}
use Rattle.cd_replay.proofs.PinsGrow.{more_pins, pins_grow}

module _ {K X : Type 0} (digest : List ℕ → Hash256) (held : K → Option Contents) (faults : K → ℕ) (phases : List Phase) (n : ℕ) (lt : n < length phases) (p : Phase) (is : p ≡ get_or phases n p) (ends : List (List (List Outcome))) (old mid new : CoreView K X)
    (before : FeedDone digest held faults (take n phases) ends old mid) where
  number : n ≡ 0 + length (take n phases)
  number = omega (arith, length-take n phases)

  module _ (entries : List (Entry X)) (same : new.start ≡ mid.start) (journal : new.journal ≡ mid.journal ++ entries) where
    run_now : PhasesRun digest (pins_in digest held new) 0 (take n phases) before.entries ends
    run_now = phases_with_more digest (pins_in digest held mid) (λ w. more_pins digest held w mid new entries same journal) (pins_in digest held new) (λ w. pins_grow digest held w mid new entries same journal)
        0 (take n phases) before.entries ends before.are

  pub next_phase : (its : List (List Outcome)) → PhaseDone digest held faults n p.workers its mid new → FeedDone digest held faults (take (n + 1) phases) (ends ++ its ∷ []) old new
  next_phase its did = subst (λ l. FeedDone digest held faults l (ends ++ its ∷ []) old new) (so_far phases n lt p is)
      (grew_twice faults _ _ (λ es. PhasesRun digest (pins_in digest held new) 0 (take n phases ++ p ∷ []) es (ends ++ its ∷ [])) old mid new before did
      (phases_push digest (pins_in digest held new) 0 (take n phases) before.entries ends p did.entries its (run_now did.entries did.start did.journal)
      (subst (λ m. PartRun digest (pins_in digest held new) m p.workers did.entries its) number did.are)))

  pub stopped_phase : PhaseStopped digest held faults n p.workers mid new → FeedStopped digest held faults phases old new
  stopped_phase did = subst (λ l. FeedStopped digest held faults l old new) (all_of phases n lt p is)
      (grew_twice faults _ _ (λ es. CutEarly digest (pins_in digest held new) 0 (take n phases ++ p ∷ drop (n + 1) phases) es) old mid new before did
      (early_push digest (pins_in digest held new) 0 (take n phases) (drop (n + 1) phases) before.entries ends p did.entries (run_now did.entries did.start did.journal)
      (subst (λ m. PartBegun digest (pins_in digest held new) m p.workers did.entries) number did.are)))

-- memory ran out for the place of what a phase ended with
pub phase_unplaced : {K X : Type 0} (digest : List ℕ → Hash256) (held : K → Option Contents) (faults : K → ℕ) (n : ℕ) (workers : List (List Task)) (its : List (List Outcome)) (mid new : CoreView K X)
    → PhaseDone digest held faults n workers its mid new → PhaseStopped digest held faults n workers mid new
phase_unplaced digest held faults n workers its mid new did = record {
  start = did.start;
  entries = did.entries;
  journal = did.journal;
  are = begun_of_part digest (pins_in digest held new) n workers did.entries its did.are;
  caused = did.caused;
}

pub no_phase : {K X : Type 0} (digest : List ℕ → Hash256) (held : K → Option Contents) (faults : K → ℕ) (core : CoreView K X) → FeedDone digest held faults [] [] core core
no_phase digest held faults core = record {
  start = refl;
  entries = [];
  journal = sym (append-nil core.journal);
  are = (refl, refl);
  caused = record { later = omega arith; steady = λ _. refl; rose = λ never. cc };
}

-- a serve of a phase stands under more pins
pub grow_phase : {K X C : Type 0} (got : C → Option (List ℕ)) (steady : C → Bool) (digest : List ℕ → Hash256) (held : K → Option Contents) (mid new : CoreView K X) (entries : List (Entry X)) → new.start ≡ mid.start → new.journal ≡ mid.journal ++ entries
    → (k : ℕ) (p : Phase) (ends : List (List Outcome)) (old now : List C) → PhaseServed got steady digest (pins_in digest held mid) k p ends old now → PhaseServed got steady digest (pins_in digest held new) k p ends old now
grow_phase got steady digest held mid new entries same journal k p ends old now s = record {
  place = s.place;
  part = s.part;
  at = s.at;
  end = s.end;
  ended = s.ended;
  is = grow_served got steady digest held mid new entries same journal s.place s.part s.end old now s.is;
}

-- a feed within the limits has one serve at most
pub serves_fit : (f : Feed) → IsFeedFit f → all_serves f.phases ≤ 1
unfolding feed_serves phase_serves worker_serves
serves_fit f fit = fit.serves

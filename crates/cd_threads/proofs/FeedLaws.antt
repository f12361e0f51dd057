-- The phases of a feed by one seat, one phase more.
use Rattle.std.proofs.Common.{◌≡◌, inl, ℕ, ◌+◌, ◌-◌, ◌^◌, ◌<◌, ◌≤◌, min, Bool, List, [], ◌∷◌, ◌++◌, length, take, drop, get_or, Option, refl, sym, ap, subst, ◌∙◌, arith}
use Rattle.std.proofs.lemmas.List.{length-take}
use Rattle.cd_base.specs.declared.hash.Hash256.{Hash256}
use Rattle.cd_keeper.specs.Contents.{Contents}
use Rattle.cd_event.specs.declared.entry.Entry.{Entry}
use Rattle.cd_event.specs.Pins.{Named}
use Rattle.cd_gate.specs.Gates.{GateView, SeatView}
use Rattle.cd_core.specs.declared.start.CoreStart.{CoreStart}
use Rattle.cd_core.specs.Cores.{CoreView, IsCore, failures}
use Rattle.cd_core.specs.Workers.{named_by}
use Rattle.cd_feed.specs.declared.feed.Phase.{Phase}
use Rattle.cd_run.specs.declared.outcome.Outcome.{Outcome}
use Rattle.cd_run.specs.Covers.{PartBegun, CutEarly}
use Rattle.cd_lanes.specs.Left.{PhaseServed}
use Rattle.cd_lanes.specs.Phases.{PartRun, PhasesRun}
use Rattle.cd_lanes.proofs.LeftLaws.{so_far, all_of}
use Rattle.cd_lanes.proofs.PhaseRuns.{begun_of_part, phases_with_more, phases_push, early_push}
use Rattle.cd_replay.proofs.FeedLaws.{grow_phase}
use Rattle.cd_replay.proofs.PinsGrow.{more_pins, pins_grow}
use Rattle.cd_replay.specs.Ran.{pins_in}
use Rattle.cd_threads.specs.Ran.{Ran, FeedStopped}
use Rattle.cd_threads.specs.Whole.{PhaseDone, PhaseStopped, PhasesDone, PhasesStopped, pins_seen}
use Rattle.cd_threads.proofs.PartLaws.{no_part}

-- no entry is a feed that memory ran out for at once
pub none_early : {X : Type 0} (digest : List ℕ → Hash256) (pins : ℕ → List Named) (n : ℕ) (phases : List Phase) (es : List (Entry X)) → es ≡ [] → CutEarly digest pins n phases es
none_early digest pins n [] es none = none
none_early digest pins n (p ∷ ps) es none = inl (no_part digest pins n p.workers es none)

module _ {K X : Type 0} (digest : List ℕ → Hash256) (held : K → Option Contents) (gate : GateView (CoreStart K)) where
  -- a core that has the entries that a seat has seen
  abbrev core_seen : SeatView (Entry X) (CoreStart K) → CoreView K X
  core_seen seat = record { start = gate.start; journal = seat.seen; keeper = (let s = gate.start in s.keeper.value) }

  module _ (phases : List Phase) (n : ℕ) (lt : n < length phases) (p : Phase) (is : p ≡ get_or phases n p) (ends : List (List (List Outcome))) (mid new : SeatView (Entry X) (CoreStart K))
      (before : PhasesDone digest held gate (take n phases) ends mid) where
    number : n ≡ 0 + length (take n phases)
    number = omega (arith, length-take n phases)

    run_now : (entries : List (Entry X)) → new.seen ≡ mid.seen ++ entries → PhasesRun digest (pins_seen digest held gate new) 0 (take n phases) mid.seen ends
    run_now entries added = phases_with_more digest (pins_seen digest held gate mid) (λ w. more_pins digest held w (core_seen mid) (core_seen new) entries refl added) (pins_seen digest held gate new)
        (λ w. pins_grow digest held w (core_seen mid) (core_seen new) entries refl added) 0 (take n phases) mid.seen ends before

    pub next_phase : (its : List (List Outcome)) → PhaseDone digest held gate n p.workers its mid new → PhasesDone digest held gate (take (n + 1) phases) (ends ++ its ∷ []) new
    next_phase its did = subst (λ l. PhasesDone digest held gate l (ends ++ its ∷ []) new) (so_far phases n lt p is)
        (subst (λ es. PhasesRun digest (pins_seen digest held gate new) 0 (take n phases ++ p ∷ []) es (ends ++ its ∷ [])) (sym did.added)
        (phases_push digest (pins_seen digest held gate new) 0 (take n phases) mid.seen ends p did.entries its (run_now did.entries did.added)
        (subst (λ m. PartRun digest (pins_seen digest held gate new) m p.workers did.entries its) number did.are)))

    pub stopped_phase : PhaseStopped digest held gate n p.workers mid new → PhasesStopped digest held gate phases new
    stopped_phase did = subst (λ l. PhasesStopped digest held gate l new) (all_of phases n lt p is)
        (subst (λ es. CutEarly digest (pins_seen digest held gate new) 0 (take n phases ++ p ∷ drop (n + 1) phases) es) (sym did.added)
        (early_push digest (pins_seen digest held gate new) 0 (take n phases) (drop (n + 1) phases) mid.seen ends p did.entries (run_now did.entries did.added)
        (subst (λ m. PartBegun digest (pins_seen digest held gate new) m p.workers did.entries) number did.are)))

    -- memory ran out for the place of what a phase ended with
    pub unplaced_phase : (its : List (List Outcome)) → PhaseDone digest held gate n p.workers its mid new → PhasesStopped digest held gate phases new
    unplaced_phase its did = stopped_phase (record {
      entries = did.entries;
      added = did.added;
      are = begun_of_part digest (pins_seen digest held gate new) n p.workers did.entries its did.are;
    })

  -- a serve of a phase stands under more pins
  pub grow_seen : {C : Type 0} (got : C → Option (List ℕ)) (steady : C → Bool) (mid new : SeatView (Entry X) (CoreStart K)) (entries : List (Entry X)) → new.seen ≡ mid.seen ++ entries → (k : ℕ) (p : Phase) (its : List (List Outcome)) (old now : List C)
      → PhaseServed got steady digest (pins_seen digest held gate mid) k p its old now → PhaseServed got steady digest (pins_seen digest held gate new) k p its old now
  grow_seen got steady mid new entries added k p its old now s = grow_phase got steady digest held (core_seen mid) (core_seen new) entries refl added k p its old now s

-- ---- the core that comes back

module _ {K X : Type 0} (digest : List ℕ → Hash256) (held : K → Option Contents) (trail : K → Option (List Contents)) (batches faults : K → ℕ) (old new : CoreView K X) (is : IsCore held digest trail batches faults new.start new.journal new.keeper) where
  counted_from : new.start ≡ old.start → min (faults old.start.keeper.value + failures new.journal) (2 ^ 64 - 1) ≤ faults new.keeper
  counted_from same = subst (λ (s : CoreStart K). min (faults s.keeper.value + failures new.journal) (2 ^ 64 - 1) ≤ faults new.keeper) same is.is_faults

  -- it has what the seat has seen
  pub fed : (gate : GateView (CoreStart K)) (seat : SeatView (Entry X) (CoreStart K)) (Are : (ℕ → List Named) → List (Entry X) → Type 0) → gate.start ≡ old.start → new.start ≡ gate.start → new.journal ≡ seat.seen → Are (pins_seen digest held gate seat) seat.seen
      → Ran faults (Are (pins_in digest held new)) old new
  fed gate seat Are began same journal are = record {
    start = same ∙ began;
    are = subst (λ (s : CoreStart K). Are (λ w. named_by digest held w s new.journal) new.journal) (sym same)
        (subst (λ (es : List (Entry X)). Are (λ w. named_by digest held w gate.start es) es) (sym journal) are);
    counted = counted_from (same ∙ began);
  }

  -- or it is what it was
  pub unfed : (phases : List Phase) → new ≡ old → old.journal ≡ [] → FeedStopped digest held faults phases old new
  unfed phases same none = record {
    start = ap (λ (c : CoreView K X). c.start) same;
    are = none_early digest (pins_in digest held new) 0 phases new.journal (ap (λ (c : CoreView K X). c.journal) same ∙ none);
    counted = counted_from (ap (λ (c : CoreView K X). c.start) same);
  }

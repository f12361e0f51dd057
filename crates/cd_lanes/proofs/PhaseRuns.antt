-- Phases with the ends of their tasks: what they say without ends, under more pins, and one phase more.
use Rattle.std.proofs.Common.{◌≡◌, inl, inr, ℕ, suc, ◌+◌, List, [], ◌∷◌, ◌++◌, length, refl, sym, ap, subst, ◌∙◌, append_assoc, append-nil, arith}
use Rattle.cd_base.specs.declared.hash.Hash256.{Hash256}
use Rattle.cd_event.specs.declared.entry.Entry.{Entry}
use Rattle.cd_event.specs.Pins.{Named}
use Rattle.cd_feed.specs.declared.feed.Phase.{Phase}
use Rattle.cd_feed.specs.declared.feed.Task.{Task}
use Rattle.cd_run.specs.declared.outcome.Outcome.{Outcome}
use Rattle.cd_run.specs.Covers.{of_worker, PartEvents, PartBegun, CutByPhases, CutEarly}
use Rattle.cd_lanes.specs.Lanes.{TasksRun}
use Rattle.cd_lanes.specs.Phases.{PartRun, PhasesRun}
use Rattle.cd_lanes.proofs.TaskLaws.{tasks_with_more, events_of_tasks, begun_of_tasks}

module _ {X : Type 0} (digest : List ℕ → Hash256) where
  -- what is said with ends is so without them
  pub events_of_part : (pins : ℕ → List Named) (n : ℕ) (workers : List (List Task)) (part : List (Entry X)) (ends : List (List Outcome)) → PartRun digest pins n workers part ends → PartEvents digest pins n workers part
  events_of_part pins n workers part ends run = record {
    each = λ w jobs at. let found = run.each w jobs at in events_of_tasks digest (pins w) n w 0 jobs (of_worker w part) found.0 found.2;
    only = run.only;
  }

  pub begun_of_part : (pins : ℕ → List Named) (n : ℕ) (workers : List (List Task)) (part : List (Entry X)) (ends : List (List Outcome)) → PartRun digest pins n workers part ends → PartBegun digest pins n workers part
  begun_of_part pins n workers part ends run = record {
    each = λ w jobs at. let found = run.each w jobs at in begun_of_tasks digest (pins w) n w 0 jobs (of_worker w part) found.0 found.2;
    only = run.only;
  }

  pub cut_of_phases : (pins : ℕ → List Named) (n : ℕ) (phases : List Phase) (es : List (Entry X)) (ends : List (List (List Outcome))) → PhasesRun digest pins n phases es ends → CutByPhases digest pins n phases es
  cut_of_phases pins n [] es ends (is, are) = is
  cut_of_phases pins n (p ∷ ps) es ends (part, rest, first, others, run, runs, is, are) =
      (part, rest, events_of_part pins n p.workers part first run, cut_of_phases pins (n + 1) ps rest others runs, is)

  -- under more pins
  module _ (pins more all : ℕ → List Named) (grown : (w : ℕ) → all w ≡ pins w ++ more w) where
    part_with_more : (n : ℕ) (workers : List (List Task)) (part : List (Entry X)) (ends : List (List Outcome)) → PartRun digest pins n workers part ends → PartRun digest all n workers part ends
    part_with_more n workers part ends run = record {
      each = λ w jobs at.
          let found = run.each w jobs at in (
            found.0,
            found.1,
            subst (λ l. TasksRun digest l n w 0 jobs (of_worker w part) found.0) (sym (grown w))
                (tasks_with_more digest (pins w) (more w) n w 0 jobs (of_worker w part) found.0 found.2),
          );
      only = run.only;
      beside = run.beside;
    }

    pub phases_with_more : (n : ℕ) (phases : List Phase) (es : List (Entry X)) (ends : List (List (List Outcome))) → PhasesRun digest pins n phases es ends → PhasesRun digest all n phases es ends
    phases_with_more n [] es ends runs = runs
    phases_with_more n (p ∷ ps) es ends (part, rest, first, others, run, runs, is, are) =
        (part, rest, first, others, part_with_more n p.workers part first run, phases_with_more (n + 1) ps rest others runs, is, are)

  -- one phase more
  pub phases_push : (pins : ℕ → List Named) (n : ℕ) (phases : List Phase) (es : List (Entry X)) (ends : List (List (List Outcome))) (p : Phase) (part : List (Entry X)) (its : List (List Outcome))
      → PhasesRun digest pins n phases es ends → PartRun digest pins (n + length phases) p.workers part its → PhasesRun digest pins n (phases ++ p ∷ []) (es ++ part) (ends ++ its ∷ [])
  phases_push pins n [] es ends p part its (is, are) run =
      let number : n + 0 ≡ n = omega arith in
      (part, [], its, [], subst (λ m. PartRun digest pins m p.workers part its) number run, (refl, refl), ap (λ l. l ++ part) is ∙ sym (append-nil part), ap (λ l. l ++ its ∷ []) are)
  phases_push pins n (q ∷ phases) es ends p part its (xs, rest, first, others, mine, runs, is, are) run =
      let number : n + suc (length phases) ≡ n + 1 + length phases = omega arith in (
        xs,
        rest ++ part,
        first,
        others ++ its ∷ [],
        mine,
        phases_push pins (n + 1) phases rest others p part its runs (subst (λ m. PartRun digest pins m p.workers part its) number run),
        ap (λ l. l ++ part) is ∙ append_assoc xs rest part,
        ap (λ l. l ++ its ∷ []) are,
      )

  pub early_push : (pins : ℕ → List Named) (n : ℕ) (phases later : List Phase) (es : List (Entry X)) (ends : List (List (List Outcome))) (p : Phase) (part : List (Entry X))
      → PhasesRun digest pins n phases es ends → PartBegun digest pins (n + length phases) p.workers part → CutEarly digest pins n (phases ++ p ∷ later) (es ++ part)
  early_push pins n [] later es ends p part (is, are) begun =
      let number : n + 0 ≡ n = omega arith in
      inl (subst (λ l. PartBegun digest pins n p.workers (l ++ part)) (sym is) (subst (λ m. PartBegun digest pins m p.workers part) number begun))
  early_push pins n (q ∷ phases) later es ends p part (xs, rest, first, others, mine, runs, is, are) begun =
      let number : n + suc (length phases) ≡ n + 1 + length phases = omega arith in
      inr (
        xs,
        rest ++ part,
        events_of_part pins n q.workers xs first mine,
        early_push pins (n + 1) phases later rest others p part runs (subst (λ m. PartBegun digest pins m p.workers part) number begun),
        ap (λ l. l ++ part) is ∙ append_assoc xs rest part,
      )

  pub ends_beside : (pins : ℕ → List Named) (n : ℕ) (phases : List Phase) (es : List (Entry X)) (ends : List (List (List Outcome))) → PhasesRun digest pins n phases es ends → length ends ≡ length phases
  ends_beside pins n [] es ends (is, are) = ap length are
  ends_beside pins n (p ∷ ps) es ends (part, rest, first, others, run, runs, is, are) = ap length are ∙ ap suc (ends_beside pins (n + 1) ps rest others runs)

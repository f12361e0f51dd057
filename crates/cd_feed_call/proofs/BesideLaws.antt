-- There are as many ends as tasks.
use Rattle.std.proofs.Common.{◌≡◌, ℕ, zero, suc, ◌+◌, ◌<◌, List, [], ◌∷◌, length, drop, map, slice_get, slice_index_or, Vec, Some, refl, sym, ap, subst, ◌∙◌, arith}
use Rattle.std.proofs.lemmas.List.{length-map}
use Rattle.std.proofs.lemmas.Option.{same_Some, slice_get-get_or}
use Rattle.cd_base.specs.declared.hash.Hash256.{Hash256}
use Rattle.cd_event.specs.declared.entry.Entry.{Entry}
use Rattle.cd_event.specs.Pins.{Named}
use Rattle.cd_feed.specs.declared.feed.Phase.{Phase}
use Rattle.cd_feed.specs.declared.feed.Task.{Task}
use Rattle.cd_run.specs.declared.outcome.Outcome.{Outcome}
use Rattle.cd_run.specs.ReportText.{ends_of, IsBeside, AreBeside}
use Rattle.cd_lanes.specs.Phases.{PartRun, PhasesRun}
use Rattle.cd_lanes.proofs.ClientLaws.{ends_beside as tasks_end}
use Rattle.cd_lanes.proofs.PhaseRuns.{ends_beside}

-- an element of a list that was gone over
at-of-map : {A B : Type 0} (f : A → B) (xs : List A) (k : ℕ) (d : A) → k < length xs → slice_get (map f xs) k ≡ Some (f (slice_index_or xs k d))
at-of-map f [] k d lt = absurd (omega (arith, lt))
at-of-map f (x ∷ xs) zero d lt = refl
at-of-map f (x ∷ xs) (suc k) d lt = at-of-map f xs k d (omega (arith, lt))

module _ {X : Type 0} (digest : List ℕ → Hash256) where
  workers-beside : {Z : Type 0} (pins : ℕ → List Named) (n : ℕ) (workers : List (List Task)) (part : List (Entry X)) (ends : List (Vec Outcome Z)) → PartRun digest pins n workers part (map (λ w. w.items) ends) → IsBeside workers ends
  workers-beside pins n workers part ends run =
      let long : length ends ≡ length workers = sym (length-map ends (λ w. w.items)) ∙ run.beside in
      record {
        long = long;
        each = λ k d lt.
            let found = run.each k (slice_index_or workers k []) (slice_get-get_or workers k [] lt) in
            let its = same_Some found.0 (let w = slice_index_or ends k d in w.items) (sym found.1 ∙ at-of-map (λ w. w.items) ends k d (omega (arith, lt, long))) in
            (let w = slice_index_or ends k d in w.ok.0) ∙ ap length (sym its) ∙ tasks_end digest (pins k) n k 0 (slice_index_or workers k []) _ found.0 found.2;
      }

  each-beside : {Y Z : Type 0} (pins : ℕ → List Named) (n : ℕ) (phases : List Phase) (es : List (Entry X)) (ends : List (Vec (Vec Outcome Z) Y)) → PhasesRun digest pins n phases es (ends_of ends)
      → (k : ℕ) (d : Vec (Vec Outcome Z) Y) (p : Phase) → k < length phases → IsBeside (slice_index_or phases k p).workers (slice_index_or ends k d).items
  each-beside pins n [] es ends runs k d p lt = absurd (omega (arith, lt))
  each-beside pins n (q ∷ phases) es [] (part, rest, first, others, run, runs, is, are) k d p lt = absurd (let l = ap length are in omega (arith, l))
  each-beside pins n (q ∷ phases) es (end ∷ ends) (part, rest, first, others, run, runs, is, are) zero d p lt =
      workers-beside pins n q.workers part end.items (subst (PartRun digest pins n q.workers part) (sym (ap (λ l. slice_index_or l 0 first) are)) run)
  each-beside pins n (q ∷ phases) es (end ∷ ends) (part, rest, first, others, run, runs, is, are) (suc k) d p lt =
      each-beside pins (n + 1) phases rest ends (subst (PhasesRun digest pins (n + 1) phases rest) (sym (ap (drop 1) are)) runs) k d p (omega (arith, lt))

  pub all-beside : {Y Z : Type 0} (pins : ℕ → List Named) (n : ℕ) (phases : List Phase) (es : List (Entry X)) (ends : List (Vec (Vec Outcome Z) Y)) → PhasesRun digest pins n phases es (ends_of ends) → AreBeside phases ends
  all-beside pins n phases es ends runs = record {
    long = sym (length-map ends (λ p. map (λ w. w.items) p.items)) ∙ ends_beside digest pins n phases es (ends_of ends) runs;
    each = each-beside pins n phases es ends runs;
  }

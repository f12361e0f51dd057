-- A worker's tasks: under more pins, and one more at the end.
use Rattle.std.proofs.Common.{◌≡◌, inl, inr, ⊎_elim, ℕ, suc, ◌+◌, List, [], ◌∷◌, ◌++◌, length, refl, sym, ap, subst, ◌∙◌, append-nil, append_assoc, arith}
use Rattle.cd_base.specs.declared.hash.Hash256.{Hash256}
use Rattle.cd_event.specs.declared.entry.Entry.{Entry}
use Rattle.cd_event.specs.Pins.{Named}
use Rattle.cd_feed.specs.declared.feed.Task.{Task}
use Rattle.cd_run.specs.declared.outcome.Outcome.{Outcome}
use Rattle.cd_run.specs.Runs.{TaskRun, TaskEvents, TaskBegun}
use Rattle.cd_run.specs.Covers.{name, WorkerEvents, WorkerBegun}
use Rattle.cd_lanes.specs.Lanes.{TasksRun}
use Rattle.cd_lanes.proofs.PinLaws.{run_with_more, begun_with_more}

module _ {H : Type 0} (digest : List ℕ → Hash256) (pins more : List Named) (phase worker : ℕ) where
  pub tasks_with_more : (n : ℕ) (jobs : List Task) (es : List (Entry H)) (ends : List Outcome)
      → TasksRun digest pins phase worker n jobs es ends → TasksRun digest (pins ++ more) phase worker n jobs es ends
  tasks_with_more n [] es ends runs = runs
  tasks_with_more n (job ∷ jobs) es ends (xs, ys, end, others, run, rest, is, are) =
      (xs, ys, end, others, run_with_more digest pins more (name phase worker n) job xs end run, tasks_with_more (n + 1) jobs ys others rest, is, are)

  pub worker_begun_with_more : (n : ℕ) (jobs : List Task) (es : List (Entry H))
      → WorkerBegun digest pins phase worker n jobs es → WorkerBegun digest (pins ++ more) phase worker n jobs es
  worker_begun_with_more n [] es begun = begun
  worker_begun_with_more n (job ∷ jobs) es begun = ⊎_elim
      (λ (here : TaskBegun digest pins (name phase worker n) job es). inl (begun_with_more digest pins more (name phase worker n) job es here))
      (λ (on : (xs ys : List (Entry H)) × TaskEvents digest pins (name phase worker n) job xs × WorkerBegun digest pins phase worker (n + 1) jobs ys × (es ≡ xs ++ ys)).
      inr (on.0, on.1, (on.2.0, run_with_more digest pins more (name phase worker n) job on.0 on.2.0 on.2.1), worker_begun_with_more (n + 1) jobs on.1 on.3, on.4))
      begun

module _ {H : Type 0} (digest : List ℕ → Hash256) (pins : List Named) (p w : ℕ) where
  -- one task more
  pub tasks_push : (n : ℕ) (jobs : List Task) (es : List (Entry H)) (ends : List Outcome) (job : Task) (xs : List (Entry H)) (end : Outcome)
      → TasksRun digest pins p w n jobs es ends → TaskRun digest pins (name p w (n + length jobs)) job xs end
      → TasksRun digest pins p w n (jobs ++ job ∷ []) (es ++ xs) (ends ++ end ∷ [])
  tasks_push n [] es ends job xs end (is, are) run =
      let number : n + 0 ≡ n = omega arith in
      (xs, [], end, [], subst (λ m. TaskRun digest pins (name p w m) job xs end) number run, (refl, refl), ap (λ l. l ++ xs) is ∙ sym (append-nil xs), ap (λ l. l ++ end ∷ []) are)
  tasks_push n (first ∷ jobs) es ends job xs end (us, vs, its, others, its_run, rest, is, are) run =
      let number : n + suc (length jobs) ≡ n + 1 + length jobs = omega arith in (
        us,
        vs ++ xs,
        its,
        others ++ end ∷ [],
        its_run,
        tasks_push (n + 1) jobs vs others job xs end rest (subst (λ m. TaskRun digest pins (name p w m) job xs end) number run),
        ap (λ l. l ++ xs) is ∙ append_assoc us vs xs,
        ap (λ l. l ++ end ∷ []) are,
      )

  -- whole tasks, and then the first entries of one more
  pub begun_push : (n : ℕ) (jobs later : List Task) (es : List (Entry H)) (ends : List Outcome) (job : Task) (xs : List (Entry H))
      → TasksRun digest pins p w n jobs es ends → TaskBegun digest pins (name p w (n + length jobs)) job xs
      → WorkerBegun digest pins p w n (jobs ++ job ∷ later) (es ++ xs)
  begun_push n [] later es ends job xs (is, are) begun =
      let number : n + 0 ≡ n = omega arith in
      inl (subst (λ l. TaskBegun digest pins (name p w n) job (l ++ xs)) (sym is) (subst (λ m. TaskBegun digest pins (name p w m) job xs) number begun))
  begun_push n (first ∷ jobs) later es ends job xs (us, vs, its, others, its_run, rest, is, are) begun =
      let number : n + suc (length jobs) ≡ n + 1 + length jobs = omega arith in
      inr (us, vs ++ xs, (its, its_run), begun_push (n + 1) jobs later vs others job xs rest (subst (λ m. TaskBegun digest pins (name p w m) job xs) number begun), ap (λ l. l ++ xs) is ∙ append_assoc us vs xs)

  pub events_of_tasks : (n : ℕ) (jobs : List Task) (es : List (Entry H)) (ends : List Outcome)
      → TasksRun digest pins p w n jobs es ends → WorkerEvents digest pins p w n jobs es
  events_of_tasks n [] es ends (is, are) = is
  events_of_tasks n (job ∷ jobs) es ends (xs, ys, end, others, run, rest, is, are) = (xs, ys, (end, run), events_of_tasks (n + 1) jobs ys others rest, is)

  -- a task that is done is begun
  pub begun_of_run : (n : ℕ) (job : Task) (xs : List (Entry H)) (end : Outcome) → TaskRun digest pins (name p w n) job xs end → TaskBegun digest pins (name p w n) job xs
  begun_of_run n job xs end run = inr ([], (end, subst (λ es. TaskRun digest pins (name p w n) job es end) (sym (append-nil xs)) run))

  -- tasks that are done are begun, and so are tasks without an entry
  pub begun_of_tasks : (n : ℕ) (jobs : List Task) (es : List (Entry H)) (ends : List Outcome)
      → TasksRun digest pins p w n jobs es ends → WorkerBegun digest pins p w n jobs es
  begun_of_tasks n [] es ends (is, are) = is
  begun_of_tasks n (job ∷ jobs) es ends (xs, ys, end, others, run, rest, is, are) = inr (xs, ys, (end, run), begun_of_tasks (n + 1) jobs ys others rest, is)

  pub none_begun : (n : ℕ) (jobs : List Task) (es : List (Entry H)) → es ≡ [] → WorkerBegun digest pins p w n jobs es
  none_begun n [] es none = none
  none_begun n (job ∷ jobs) es none = inl (inl none)

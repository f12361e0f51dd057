-- A worker's tasks, one more, by their number.
use Rattle.std.proofs.Common.{◌≡◌, ℕ, ◌+◌, ◌<◌, Bool, true, false, ◌||◌, List, [], ◌∷◌, ◌++◌, length, take, drop, get_or, Result, Ok, Err, refl, sym, ap, subst, ◌∙◌, append-nil, append_assoc, arith}
use Rattle.std.proofs.lemmas.List.{take_more, drop_more, take-append-drop, length-take}
use Rattle.cd_base.specs.declared.answers.Memory.{Memory}
use Rattle.cd_base.specs.declared.hash.Hash256.{Hash256}
use Rattle.cd_event.specs.declared.entry.Entry.{Entry}
use Rattle.cd_event.specs.Pins.{Named}
use Rattle.cd_event.specs.Turning.{RisesOnly}
use Rattle.cd_feed.specs.declared.feed.Task.{Task}
use Rattle.cd_run.specs.declared.outcome.Outcome.{Outcome}
use Rattle.cd_run.specs.Runs.{TaskRun, TaskBegun, Did, has_failed}
use Rattle.cd_run.specs.Covers.{name, WorkerBegun}
use Rattle.cd_run.proofs.StageLaws.{failed_both}
use Rattle.cd_lanes.specs.Lanes.{TasksRun, WentOn, WorkerDone, WorkerStopped}
use Rattle.cd_lanes.proofs.TaskLaws.{tasks_with_more, tasks_push, begun_push, begun_of_run}

-- a count over two calls, one after another
pub rises_both : (a b : Bool) (x y z : ℕ) → RisesOnly a x y → RisesOnly b y z → RisesOnly (a || b) x z
rises_both true b x y z first then = record {
  later = let p = first.later in let q = then.later in omega arith;
  steady = λ never. cc;
  rose = λ _. let p = first.rose refl in let q = then.later in omega (arith, p);
}
rises_both false true x y z first then = record {
  later = let p = first.later in let q = then.later in omega arith;
  steady = λ never. cc;
  rose = λ _. let p = first.later in let q = then.rose refl in omega (arith, q);
}
rises_both false false x y z first then = record {
  later = let p = first.later in let q = then.later in omega arith;
  steady = λ _. then.steady refl ∙ first.steady refl;
  rose = λ never. cc;
}

module _ {T H : Type 0} (digest : List ℕ → Hash256) (worker faults : T → ℕ) (made : T → List (Entry H)) (goes : T → T → Type 0) (named : T → List Named) where
  pub none_done : ((x : T) → goes x x) → (phase number : ℕ) (x : T) → WorkerDone digest worker faults made goes named phase number [] [] x x
  none_done stays phase number x = record {
    same_worker = refl;
    went = stays x;
    pins = [];
    pinned = sym (append-nil (named x));
    entries = [];
    added = sym (append-nil (made x));
    are = (refl, refl);
    caused = record { later = omega arith; steady = λ _. refl; rose = λ never. cc };
  }

  module _ (further : (x y z : T) → goes x y → goes y z → goes x z) (phase number : ℕ) (jobs : List Task) (job : Task) (ends : List Outcome) (old mid new : T)
      (before : WorkerDone digest worker faults made goes named phase number jobs ends old mid) where
    module _ (result : Result Outcome Memory) (did : Did digest worker faults made goes named (name phase number (length jobs)) job mid new result)
        (Are : List (Entry H) → Type 0) (are : Are (before.entries ++ did.entries)) where
      on_with : WentOn digest worker faults made goes named Are old new
      on_with = record {
        same_worker = did.same_worker ∙ before.same_worker;
        went = further old mid new before.went did.went;
        pins = before.pins ++ did.pins;
        pinned = did.pinned ∙ (ap (λ l. l ++ did.pins) before.pinned ∙ append_assoc (named old) before.pins did.pins);
        entries = before.entries ++ did.entries;
        added = did.added ∙ (ap (λ l. l ++ did.entries) before.added ∙ append_assoc (made old) before.entries did.entries);
        are = are;
        caused = subst (λ b. RisesOnly b (faults old) (faults new)) (sym (failed_both before.entries did.entries))
            (rises_both (has_failed before.entries) (has_failed did.entries) (faults old) (faults mid) (faults new) before.caused did.caused);
      }

    run_before : (more : List Named) → named new ≡ named mid ++ more → TasksRun digest (named new) phase number 0 jobs before.entries ends
    run_before more is = subst (λ l. TasksRun digest l phase number 0 jobs before.entries ends) (sym is)
        (tasks_with_more digest (named mid) more phase number 0 jobs before.entries ends before.are)

    here : length jobs ≡ 0 + length jobs
    here = omega arith

    one_more_done : (end : Outcome) → Did digest worker faults made goes named (name phase number (length jobs)) job mid new (Ok end)
        → WorkerDone digest worker faults made goes named phase number (jobs ++ job ∷ []) (ends ++ end ∷ []) old new
    one_more_done end did = on_with (Ok end) did (λ es. TasksRun digest (named new) phase number 0 (jobs ++ job ∷ []) es (ends ++ end ∷ []))
        (tasks_push digest (named new) phase number 0 jobs before.entries ends job did.entries end (run_before did.pins did.pinned)
        (subst (λ m. TaskRun digest (named new) (name phase number m) job did.entries end) here did.answers))

    -- memory ran out in the task, or for the place of its outcome
    stopped_in : (later : List Task) (memory : Memory) → Did digest worker faults made goes named (name phase number (length jobs)) job mid new (Err memory)
        → WorkerStopped digest worker faults made goes named phase number (jobs ++ job ∷ later) old new
    stopped_in later memory did = on_with (Err memory) did (λ es. WorkerBegun digest (named new) phase number 0 (jobs ++ job ∷ later) es)
        (begun_push digest (named new) phase number 0 jobs later before.entries ends job did.entries (run_before did.pins did.pinned)
        (subst (λ m. TaskBegun digest (named new) (name phase number m) job did.entries) here did.answers))

    stopped_after : (later : List Task) (end : Outcome) → Did digest worker faults made goes named (name phase number (length jobs)) job mid new (Ok end)
        → WorkerStopped digest worker faults made goes named phase number (jobs ++ job ∷ later) old new
    stopped_after later end did = on_with (Ok end) did (λ es. WorkerBegun digest (named new) phase number 0 (jobs ++ job ∷ later) es)
        (begun_push digest (named new) phase number 0 jobs later before.entries ends job did.entries (run_before did.pins did.pinned)
        (subst (λ m. TaskBegun digest (named new) (name phase number m) job did.entries) here
        (begun_of_run digest (named new) phase number (length jobs) job did.entries end did.answers)))

  -- ---- by the number of the task

  module _ (further : (x y z : T) → goes x y → goes y z → goes x z) (phase number : ℕ) (tasks : List Task) (n : ℕ) (lt : n < length tasks) (task : Task) (is : task ≡ get_or tasks n task)
      (ends : List Outcome) (old mid new : T) (before : WorkerDone digest worker faults made goes named phase number (take n tasks) ends old mid) where
    who_is : name phase number n ≡ name phase number (length (take n tasks))
    who_is = ap (name phase number) (omega (arith, length-take n tasks))

    jobs_are : take n tasks ++ task ∷ [] ≡ take (n + 1) tasks
    jobs_are = sym (take_more tasks n task lt ∙ ap (λ x. take n tasks ++ x ∷ []) (sym is))

    all_are : take n tasks ++ task ∷ drop (n + 1) tasks ≡ tasks
    all_are = ap (λ l. take n tasks ++ l) (sym (drop_more tasks n task lt ∙ ap (λ x. x ∷ drop (n + 1) tasks) (sym is))) ∙ take-append-drop n tasks

    pub next_done : (end : Outcome) → Did digest worker faults made goes named (name phase number n) task mid new (Ok end)
        → WorkerDone digest worker faults made goes named phase number (take (n + 1) tasks) (ends ++ end ∷ []) old new
    next_done end did = subst (λ l. WorkerDone digest worker faults made goes named phase number l (ends ++ end ∷ []) old new) jobs_are
        (one_more_done further phase number (take n tasks) task ends old mid new before end
        (subst (λ w. Did digest worker faults made goes named w task mid new (Ok end)) who_is did))

    pub next_stopped : (memory : Memory) → Did digest worker faults made goes named (name phase number n) task mid new (Err memory)
        → WorkerStopped digest worker faults made goes named phase number tasks old new
    next_stopped memory did = subst (λ l. WorkerStopped digest worker faults made goes named phase number l old new) all_are
        (stopped_in further phase number (take n tasks) task ends old mid new before (drop (n + 1) tasks) memory
        (subst (λ w. Did digest worker faults made goes named w task mid new (Err memory)) who_is did))

    pub next_unplaced : (end : Outcome) → Did digest worker faults made goes named (name phase number n) task mid new (Ok end)
        → WorkerStopped digest worker faults made goes named phase number tasks old new
    next_unplaced end did = subst (λ l. WorkerStopped digest worker faults made goes named phase number l old new) all_are
        (stopped_after further phase number (take n tasks) task ends old mid new before (drop (n + 1) tasks) end
        (subst (λ w. Did digest worker faults made goes named w task mid new (Ok end)) who_is did))

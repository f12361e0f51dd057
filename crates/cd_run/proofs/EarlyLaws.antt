-- A journal that is cut into one part for each phase, the last one perhaps begun, covers the feed but for that exception.
use Rattle.std.proofs.Common.{◌≡◌, ◌≢◌, ◌⊎◌, inl, inr, ⊎_elim, ℕ, zero, suc, ◌+◌, ◌<◌, ◌≤◌, ◌==◌, List, [], ◌∷◌, ◌++◌, length, slice_index_or, slice_get, Option, Some, None, IsSome, All, AllPairs, refl, sym, ap, subst, ◌∙◌, append-nil, arith, eq-eqb}
use Rattle.std.specs.Prelude.{option_and_then}
use Rattle.std.proofs.lemmas.List.Elements.{All-nil, All-cons, All-head, All-tail, All-append, All-filter}
use Rattle.std.proofs.lemmas.Option.{none-some, same_Some}
use Rattle.cd_base.specs.declared.hash.Hash256.{Hash256}
use Rattle.cd_event.specs.declared.names.Who.{Who}
use Rattle.cd_event.specs.declared.entry.Entry.{Entry}
use Rattle.cd_event.specs.Pins.{Named}
use Rattle.cd_feed.specs.declared.feed.Feed.{Feed}
use Rattle.cd_feed.specs.declared.feed.Phase.{Phase}
use Rattle.cd_feed.specs.declared.feed.Task.{Task}
use Rattle.cd_run.specs.Runs.{TaskEvents, TaskBegun}
use Rattle.cd_run.specs.Covers.{name, tasks_at, task_at, of_name, of_worker, CoversPrefixBy, WorkerBegun, PartEvents, PartBegun, CutEarly}
use Rattle.cd_run.proofs.Lists.{All-map, All-unfilter, pairs_append, get-below}
use Rattle.cd_run.proofs.Names.{of_events}
use Rattle.cd_run.proofs.CoverLaws.{all_of_name, none_of_phase, none_of_task, name_of_worker, name_of_parts, IsTaskFrom, IsTaskOf, IsInFrom, later_tasks, tasks_of_part, events_of_part}

All-front : {X : Type 0} (P : X → Type 0) (xs ys : List X) → All P (xs ++ ys) → All P xs
All-front P [] ys h = All-nil P
All-front P (x ∷ xs) ys h = All-cons P x xs (All-head P x (xs ++ ys) h) (All-front P xs ys (All-tail P x (xs ++ ys) h))

-- the tasks of a worker in a phase
abbrev pub Jobs : List Phase → ℕ → ℕ → ℕ → Option Task
Jobs phases i w n = option_and_then (λ jobs. slice_get jobs n) (tasks_at phases i w)

module _ {H : Type 0} (digest : List ℕ → Hash256) where
  of_begun : (pins : List Named) (who : Who) (job : Task) (es : List (Entry H)) → TaskBegun digest pins who job es → All (λ e. e.who ≡ who) es
  of_begun pins who job es begun = ⊎_elim
      (λ (none : es ≡ []). subst (All (λ e. e.who ≡ who)) (sym none) (All-nil (λ e. e.who ≡ who)))
      (λ (some : (rest : List (Entry H)) × TaskEvents digest pins who job (es ++ rest)). All-front (λ e. e.who ≡ who) es some.0 (of_events digest who pins job (es ++ some.0) some.1))
      begun

  -- ---- a worker's tasks, from a number on: all done, or ended early

  abbrev pub AreDone : List Named → ℕ → ℕ → ℕ → List Task → List (Entry H) → Type 0
  AreDone pins p w n jobs es = (i : ℕ) (job : Task) → slice_get jobs i ≡ Some job → TaskEvents digest pins (name p w (n + i)) job (of_name (name p w (n + i)) es)

  record AreCut (pins : List Named) (p w n : ℕ) (jobs : List Task) (es : List (Entry H)) : Type 0 where
    last : ℕ
    before : (i : ℕ) (job : Task) → i < last → slice_get jobs i ≡ Some job → TaskEvents digest pins (name p w (n + i)) job (of_name (name p w (n + i)) es)
    begun : (job : Task) → slice_get jobs last ≡ Some job → TaskBegun digest pins (name p w (n + last)) job (of_name (name p w (n + last)) es)
    no_further : (i : ℕ) → last < i → of_name (name p w (n + i)) es ≡ []

  pub tasks_of_begun : (pins : List Named) (p w n : ℕ) (jobs : List Task) (es : List (Entry H)) → WorkerBegun digest pins p w n jobs es → All (IsTaskFrom digest p w n jobs) es
  tasks_of_begun pins p w n [] es is = subst (All (IsTaskFrom digest p w n [])) (sym is) (All-nil (IsTaskFrom digest p w n []))
  tasks_of_begun pins p w n (job ∷ jobs) es begun = ⊎_elim
      (λ (here : TaskBegun digest pins (name p w n) job es). All-map (λ e. e.who ≡ name p w n) (IsTaskFrom digest p w n (job ∷ jobs)) es
      (λ e of. (0, of ∙ ap (name p w) (let z : n ≡ n + 0 = omega arith in z), refl)) (of_begun pins (name p w n) job es here))
      (λ (more : (xs ys : List (Entry H)) × TaskEvents digest pins (name p w n) job xs × WorkerBegun digest pins p w (n + 1) jobs ys × (es ≡ xs ++ ys)).
      subst (All (IsTaskFrom digest p w n (job ∷ jobs))) (sym more.4)
      (All-append (IsTaskFrom digest p w n (job ∷ jobs)) more.0 more.1
      (All-map (λ e. e.who ≡ name p w n) (IsTaskFrom digest p w n (job ∷ jobs)) more.0 (λ e of. (0, of ∙ ap (name p w) (let z : n ≡ n + 0 = omega arith in z), refl)) (of_events digest (name p w n) pins job more.0 more.2))
      (All-map (IsTaskFrom digest p w (n + 1) jobs) (IsTaskFrom digest p w n (job ∷ jobs)) more.1
      (λ e of. (suc of.0, of.1 ∙ ap (name p w) (let z : n + 1 + of.0 ≡ n + suc of.0 = omega arith in z), of.2)) (tasks_of_begun pins p w (n + 1) jobs more.1 more.3))))
      begun

  -- the first task is whole, and what is said of the others
  module _ (pins : List Named) (p w n : ℕ) (first : Task) (jobs : List Task) (es xs ys : List (Entry H)) (events : TaskEvents digest pins (name p w n) first xs)
      (others : All (IsTaskFrom digest p w (n + 1) jobs) ys) (is : es ≡ xs ++ ys) where
    number : (i : ℕ) → n + 1 + i ≡ n + suc i
    number i = omega arith

    first_is : of_name (name p w n) es ≡ xs
    first_is = ap (of_name (name p w n)) is ∙ (name_of_parts digest (name p w n) xs ys
        ∙ ((λ k. all_of_name digest (name p w n) xs (of_events digest (name p w n) pins first xs events) k ++ none_of_task digest (name p w n) ys (later_tasks digest p w (n + 1) jobs ys n (omega arith) others) k) ∙ append-nil xs))

    other_is : (i : ℕ) → of_name (name p w (n + suc i)) es ≡ of_name (name p w (n + 1 + i)) ys
    other_is i = sym (ap (λ m. of_name (name p w m) es) (number i)) ∙ (ap (of_name (name p w (n + 1 + i))) is ∙ (name_of_parts digest (name p w (n + 1 + i)) xs ys
        ∙ ap (λ l. l ++ of_name (name p w (n + 1 + i)) ys) (none_of_task digest (name p w (n + 1 + i)) xs (All-map (λ e. e.who ≡ name p w n) (λ e. e.who.task ≢ n + 1 + i) xs
        (λ e of bad. let at : e.who.task ≡ n = ap (λ v. v.task) of in let g : ⊥ = omega arith in g) (of_events digest (name p w n) pins first xs events)))))

    first_done : (job : Task) → first ≡ job → TaskEvents digest pins (name p w (n + 0)) job (of_name (name p w (n + 0)) es)
    first_done job same =
        subst (λ m. TaskEvents digest pins (name p w m) job (of_name (name p w m) es)) (let z : n ≡ n + 0 = omega arith in z)
        (subst (TaskEvents digest pins (name p w n) job) (sym first_is) (subst (λ j. TaskEvents digest pins (name p w n) j xs) same events))

    other_done : (i : ℕ) (job : Task) → TaskEvents digest pins (name p w (n + 1 + i)) job (of_name (name p w (n + 1 + i)) ys) → TaskEvents digest pins (name p w (n + suc i)) job (of_name (name p w (n + suc i)) es)
    other_done i job h = subst (TaskEvents digest pins (name p w (n + suc i)) job) (sym (other_is i)) (subst (λ m. TaskEvents digest pins (name p w m) job (of_name (name p w (n + 1 + i)) ys)) (number i) h)

    other_begun : (i : ℕ) (job : Task) → TaskBegun digest pins (name p w (n + 1 + i)) job (of_name (name p w (n + 1 + i)) ys) → TaskBegun digest pins (name p w (n + suc i)) job (of_name (name p w (n + suc i)) es)
    other_begun i job h = subst (TaskBegun digest pins (name p w (n + suc i)) job) (sym (other_is i)) (subst (λ m. TaskBegun digest pins (name p w m) job (of_name (name p w (n + 1 + i)) ys)) (number i) h)

    all_done : AreDone pins p w (n + 1) jobs ys → AreDone pins p w n (first ∷ jobs) es
    all_done done zero job at = first_done job (same_Some first job at)
    all_done done (suc i) job at = other_done i job (done i job at)

    none_further : (cut : AreCut pins p w (n + 1) jobs ys) (i : ℕ) → suc cut.last < i → of_name (name p w (n + i)) es ≡ []
    none_further cut zero lt = absurd (omega arith)
    none_further cut (suc i) lt = other_is i ∙ cut.no_further i (omega arith)

    all_before : (cut : AreCut pins p w (n + 1) jobs ys) (i : ℕ) (job : Task) → i < suc cut.last → slice_get (first ∷ jobs) i ≡ Some job → TaskEvents digest pins (name p w (n + i)) job (of_name (name p w (n + i)) es)
    all_before cut zero job lt at = first_done job (same_Some first job at)
    all_before cut (suc i) job lt at = other_done i job (cut.before i job (omega arith) at)

    cut_further : AreCut pins p w (n + 1) jobs ys → AreCut pins p w n (first ∷ jobs) es
    cut_further cut = record {
      last = suc cut.last;
      before = all_before cut;
      begun = λ job at. other_begun cut.last job (cut.begun job at);
      no_further = none_further cut;
    }

  state_of : (pins : List Named) (p w n : ℕ) (jobs : List Task) (es : List (Entry H)) → WorkerBegun digest pins p w n jobs es → AreDone pins p w n jobs es ⊎ AreCut pins p w n jobs es
  state_of pins p w n [] es is = inl (λ i job at. absurd (none-some job at))
  state_of pins p w n (job ∷ jobs) es begun = ⊎_elim
      (λ (here : TaskBegun digest pins (name p w n) job es). let of = of_begun pins (name p w n) job es here in
      let it : of_name (name p w n) es ≡ es = all_of_name digest (name p w n) es of in
      inr (record {
        last = 0;
        before = λ i other lt at. absurd (omega arith);
        begun = λ other at. subst (λ m. TaskBegun digest pins (name p w m) other (of_name (name p w m) es)) (let z : n ≡ n + 0 = omega arith in z)
            (subst (TaskBegun digest pins (name p w n) other) (sym it) (subst (λ j. TaskBegun digest pins (name p w n) j es) (same_Some job other at) here));
        no_further = λ i lt. none_of_task digest (name p w (n + i)) es (All-map (λ e. e.who ≡ name p w n) (λ e. e.who.task ≢ n + i) es
            (λ e is bad. let at : e.who.task ≡ n = ap (λ v. v.task) is in let g : ⊥ = omega arith in g) of);
      }))
      (λ (more : (xs ys : List (Entry H)) × TaskEvents digest pins (name p w n) job xs × WorkerBegun digest pins p w (n + 1) jobs ys × (es ≡ xs ++ ys)).
      let others = tasks_of_begun pins p w (n + 1) jobs more.1 more.3 in
      ⊎_elim
      (λ (done : AreDone pins p w (n + 1) jobs more.1). inl (all_done pins p w n job jobs es more.0 more.1 more.2 others more.4 done))
      (λ (cut : AreCut pins p w (n + 1) jobs more.1). inr (cut_further pins p w n job jobs es more.0 more.1 more.2 others more.4 cut))
      (state_of pins p w (n + 1) jobs more.1 more.3))
      begun

  -- ---- a phase's part, and all parts

  tasks_of_begun_part : (pins : ℕ → List Named) (p : ℕ) (workers : List (List Task)) (part : List (Entry H)) → PartBegun digest pins p workers part → All (IsTaskOf digest p workers) part
  tasks_of_begun_part pins p workers part of k d lt =
      let e = slice_index_or part k d in
      let found = get-below workers e.who.worker (of.only k d lt) in
      let mine = tasks_of_begun (pins e.who.worker) p e.who.worker 0 found.0 (of_worker e.who.worker part) (of.each e.who.worker found.0 found.1) in
      let is = All-unfilter (IsTaskFrom digest p e.who.worker 0 found.0) (λ x. x.who.worker == e.who.worker) part mine k d lt (eq-eqb e.who.worker e.who.worker refl) in (
        ap (λ v. v.phase) is.1,
        subst (λ o. IsSome (option_and_then (λ jobs. slice_get jobs e.who.task) o)) (sym found.1)
            (subst (λ n. IsSome (slice_get found.0 n)) (sym (ap (λ v. v.task) is.1 ∙ (let z : 0 + is.0 ≡ is.0 = omega arith in z))) is.2),
      )

  pub record IsCut (pins : List Named) (jobs_at : ℕ → Option Task) (p w : ℕ) (es : List (Entry H)) : Type 0 where
    last : ℕ
    before : (n : ℕ) (job : Task) → n < last → jobs_at n ≡ Some job → TaskEvents digest pins (name p w n) job (of_name (name p w n) es)
    begun : (job : Task) → jobs_at last ≡ Some job → TaskBegun digest pins (name p w last) job (of_name (name p w last) es)
    no_further : (n : ℕ) → last < n → of_name (name p w n) es ≡ []
    no_later : All (λ e. e.who.phase ≤ p) es

  abbrev pub State : List Named → (ℕ → Option Task) → ℕ → ℕ → List (Entry H) → Type 0
  State pins jobs_at p w es = ((n : ℕ) (job : Task) → jobs_at n ≡ Some job → TaskEvents digest pins (name p w n) job (of_name (name p w n) es)) ⊎ IsCut pins jobs_at p w es

  -- the same entries of each name
  moved : (pins : List Named) (jobs_at : ℕ → Option Task) (p w : ℕ) (es fs : List (Entry H)) → ((n : ℕ) → of_name (name p w n) fs ≡ of_name (name p w n) es)
      → (All (λ e. e.who.phase ≤ p) es → All (λ e. e.who.phase ≤ p) fs) → State pins jobs_at p w es → State pins jobs_at p w fs
  moved pins jobs_at p w es fs same later state = ⊎_elim
      (λ (done : (n : ℕ) (job : Task) → jobs_at n ≡ Some job → TaskEvents digest pins (name p w n) job (of_name (name p w n) es)).
      inl (λ n job at. subst (TaskEvents digest pins (name p w n) job) (sym (same n)) (done n job at)))
      (λ (cut : IsCut pins jobs_at p w es). inr (record {
        last = cut.last;
        before = λ n job lt at. subst (TaskEvents digest pins (name p w n) job) (sym (same n)) (cut.before n job lt at);
        begun = λ job at. subst (TaskBegun digest pins (name p w cut.last) job) (sym (same cut.last)) (cut.begun job at);
        no_further = λ n lt. same n ∙ cut.no_further n lt;
        no_later = later cut.no_later;
      }))
      state

  -- of a begun part
  state_of_part : (pins : ℕ → List Named) (p : ℕ) (workers : List (List Task)) (part : List (Entry H)) (w : ℕ) → PartBegun digest pins p workers part
      → State (pins w) (λ n. option_and_then (λ jobs. slice_get jobs n) (slice_get workers w)) p w part
  state_of_part pins p workers part w of = by (slice_get workers w) refl
    where
      within : All (λ e. e.who.phase ≤ p) part
      within = All-map (IsTaskOf digest p workers) (λ e. e.who.phase ≤ p) part (λ e is. let at = is.0 in omega arith) (tasks_of_begun_part pins p workers part of)

      to_zero : (n : ℕ) → 0 + n ≡ n
      to_zero n = omega arith

      by : (o : Option (List Task)) → slice_get workers w ≡ o → State (pins w) (λ n. option_and_then (λ jobs. slice_get jobs n) o) p w part
      by None is = inl (λ n job at. absurd (none-some job at))
      by (Some jobs) is = moved (pins w) (slice_get jobs) p w (of_worker w part) part (λ n. sym (name_of_worker digest (name p w n) part)) (λ _. within)
          (⊎_elim
          (λ (done : AreDone (pins w) p w 0 jobs (of_worker w part)). inl (λ n job at.
          subst (λ m. TaskEvents digest (pins w) (name p w m) job (of_name (name p w m) (of_worker w part))) (to_zero n) (done n job at)))
          (λ (cut : AreCut (pins w) p w 0 jobs (of_worker w part)). inr (record {
            last = cut.last;
            before = λ n job lt at. subst (λ m. TaskEvents digest (pins w) (name p w m) job (of_name (name p w m) (of_worker w part))) (to_zero n) (cut.before n job lt at);
            begun = λ job at. subst (λ m. TaskBegun digest (pins w) (name p w m) job (of_name (name p w m) (of_worker w part))) (to_zero cut.last) (cut.begun job at);
            no_further = λ n lt. sym (ap (λ m. of_name (name p w m) (of_worker w part)) (to_zero n)) ∙ cut.no_further n lt;
            no_later = All-filter (λ e. e.who.worker == w) (λ e. e.who.phase ≤ p) part within;
          }))
          (state_of (pins w) p w 0 jobs (of_worker w part) (of.each w jobs is)))

  later_early : (pins : ℕ → List Named) (p : ℕ) (phases : List Phase) (journal : List (Entry H)) → CutEarly digest pins p phases journal → All (IsInFrom digest p phases) journal
  later_early pins p [] journal is = subst (All (IsInFrom digest p [])) (sym is) (All-nil (IsInFrom digest p []))
  later_early pins p (phase ∷ phases) journal cut = ⊎_elim
      (λ (here : PartBegun digest pins p phase.workers journal). All-map (IsTaskOf digest p phase.workers) (IsInFrom digest p (phase ∷ phases)) journal
      (λ e of. (0, of.0 ∙ (let z : p ≡ p + 0 = omega arith in z), of.1)) (tasks_of_begun_part pins p phase.workers journal here))
      (λ (more : (part rest : List (Entry H)) × PartEvents digest pins p phase.workers part × CutEarly digest pins (p + 1) phases rest × (journal ≡ part ++ rest)).
      subst (All (IsInFrom digest p (phase ∷ phases))) (sym more.4)
      (All-append (IsInFrom digest p (phase ∷ phases)) more.0 more.1
      (All-map (IsTaskOf digest p phase.workers) (IsInFrom digest p (phase ∷ phases)) more.0 (λ e of. (0, of.0 ∙ (let z : p ≡ p + 0 = omega arith in z), of.1)) (tasks_of_part digest pins p phase.workers more.0 more.2))
      (All-map (IsInFrom digest (p + 1) phases) (IsInFrom digest p (phase ∷ phases)) more.1 (λ e of. (suc of.0, of.1 ∙ (let z : p + 1 + of.0 ≡ p + suc of.0 = omega arith in z), of.2)) (later_early pins (p + 1) phases more.1 more.3))))
      cut

  not_before : (p : ℕ) (phases : List Phase) (journal : List (Entry H)) → All (IsInFrom digest p phases) journal → All (λ e. p ≤ e.who.phase) journal
  not_before p phases journal all = All-map (IsInFrom digest p phases) (λ e. p ≤ e.who.phase) journal (λ e of. let at = of.1 in omega arith) all

  in_order_early : (pins : ℕ → List Named) (p : ℕ) (phases : List Phase) (journal : List (Entry H)) → CutEarly digest pins p phases journal → AllPairs (λ a b. a.who.phase ≤ b.who.phase) journal
  in_order_early pins p [] journal is = λ i j d lt within. let none : length journal ≡ 0 = ap length is in absurd (omega arith)
  in_order_early pins p (phase ∷ phases) journal cut = ⊎_elim
      (λ (here : PartBegun digest pins p phase.workers journal).
      let of = All-map (IsTaskOf digest p phase.workers) (λ e. e.who.phase ≡ p) journal (λ e of. of.0) (tasks_of_begun_part pins p phase.workers journal here) in
      subst (AllPairs (λ a b. a.who.phase ≤ b.who.phase)) (append-nil journal)
      (pairs_append (λ e. e.who.phase) p journal [] of (All-nil (λ e. p ≤ e.who.phase)) (λ i j d lt within. absurd (omega arith))))
      (λ (more : (part rest : List (Entry H)) × PartEvents digest pins p phase.workers part × CutEarly digest pins (p + 1) phases rest × (journal ≡ part ++ rest)).
      subst (AllPairs (λ a b. a.who.phase ≤ b.who.phase)) (sym more.4)
      (pairs_append (λ e. e.who.phase) p more.0 more.1
      (All-map (IsTaskOf digest p phase.workers) (λ e. e.who.phase ≡ p) more.0 (λ e of. of.0) (tasks_of_part digest pins p phase.workers more.0 more.2))
      (All-map (λ e. p + 1 ≤ e.who.phase) (λ e. p ≤ e.who.phase) more.1 (λ e le. omega arith) (not_before (p + 1) phases more.1 (later_early pins (p + 1) phases more.1 more.3)))
      (in_order_early pins (p + 1) phases more.1 more.3)))
      cut

  -- a worker in a phase that isn't there, or wasn't begun
  none_begun : (pins : List Named) (jobs_at : ℕ → Option Task) (p w : ℕ) (journal : List (Entry H)) → All (λ e. e.who.phase < p) journal → State pins jobs_at p w journal
  none_begun pins jobs_at p w journal before =
      let none = λ (n : ℕ). none_of_phase digest (name p w n) journal (All-map (λ e. e.who.phase < p) (λ e. e.who.phase ≢ p) journal (λ e lt bad. let g : ⊥ = omega arith in g) before) in
      inr (record {
        last = 0;
        before = λ n job lt at. absurd (omega arith);
        begun = λ job at. inl (none 0);
        no_further = λ n lt. none n;
        no_later = All-map (λ e. e.who.phase < p) (λ e. e.who.phase ≤ p) journal (λ e lt. omega arith) before;
      })

  states : (pins : ℕ → List Named) (p : ℕ) (phases : List Phase) (journal : List (Entry H)) (i w : ℕ) → CutEarly digest pins p phases journal → State (pins w) (Jobs phases i w) (p + i) w journal
  states pins p [] journal i w is = inl (λ n job at. absurd (none-some job at))
  states pins p (phase ∷ phases) journal zero w cut = subst (λ m. State (pins w) (Jobs (phase ∷ phases) 0 w) m w journal) (let z : p ≡ p + 0 = omega arith in z)
      (⊎_elim
      (λ (here : PartBegun digest pins p phase.workers journal). state_of_part pins p phase.workers journal w here)
      (λ (more : (part rest : List (Entry H)) × PartEvents digest pins p phase.workers part × CutEarly digest pins (p + 1) phases rest × (journal ≡ part ++ rest)).
      let above = not_before (p + 1) phases more.1 (later_early pins (p + 1) phases more.1 more.3) in
      inl (λ n job at. subst (TaskEvents digest (pins w) (name p w n) job)
      (sym (ap (of_name (name p w n)) more.4 ∙ (name_of_parts digest (name p w n) more.0 more.1
      ∙ (ap (λ l. of_name (name p w n) more.0 ++ l) (none_of_phase digest (name p w n) more.1 (All-map (λ e. p + 1 ≤ e.who.phase) (λ e. e.who.phase ≢ p) more.1 (λ e le bad. let g : ⊥ = omega arith in g) above))
      ∙ append-nil (of_name (name p w n) more.0)))))
      (events_of_part digest pins p phase.workers more.0 w n job more.2 at)))
      cut)
  states pins p (phase ∷ phases) journal (suc i) w cut = ⊎_elim
      (λ (here : PartBegun digest pins p phase.workers journal). none_begun (pins w) (Jobs phases i w) (p + suc i) w journal
      (All-map (IsTaskOf digest p phase.workers) (λ e. e.who.phase < p + suc i) journal (λ e of. let at = of.0 in omega arith) (tasks_of_begun_part pins p phase.workers journal here)))
      (λ (more : (part rest : List (Entry H)) × PartEvents digest pins p phase.workers part × CutEarly digest pins (p + 1) phases rest × (journal ≡ part ++ rest)).
      let below = All-map (IsTaskOf digest p phase.workers) (λ e. e.who.phase ≡ p) more.0 (λ e of. of.0) (tasks_of_part digest pins p phase.workers more.0 more.2) in
      moved (pins w) (Jobs phases i w) (p + suc i) w more.1 journal
      (λ n. ap (of_name (name (p + suc i) w n)) more.4 ∙ (name_of_parts digest (name (p + suc i) w n) more.0 more.1
      ∙ ap (λ l. l ++ of_name (name (p + suc i) w n) more.1) (none_of_phase digest (name (p + suc i) w n) more.0 (All-map (λ e. e.who.phase ≡ p) (λ e. e.who.phase ≢ p + suc i) more.0 (λ e at bad. let g : ⊥ = omega arith in g) below))))
      (λ no_later. subst (All (λ e. e.who.phase ≤ p + suc i)) (sym more.4) (All-append (λ e. e.who.phase ≤ p + suc i) more.0 more.1
      (All-map (λ e. e.who.phase ≡ p) (λ e. e.who.phase ≤ p + suc i) more.0 (λ e at. omega arith) below) no_later))
      (subst (λ m. State (pins w) (Jobs phases i w) m w more.1) (let z : p + 1 + i ≡ p + suc i = omega arith in z) (states pins (p + 1) phases more.1 i w more.3)))
      cut

  pub covers_prefix-cut : (pins : ℕ → List Named) (feed : Feed) (journal : List (Entry H)) → CutEarly digest pins 0 feed.phases journal → CoversPrefixBy digest pins feed journal
  covers_prefix-cut pins feed journal cut = record {
    workers = λ phase worker. ⊎_elim
        (λ (done : (n : ℕ) (job : Task) → Jobs feed.phases phase worker n ≡ Some job → TaskEvents digest (pins worker) (name phase worker n) job (of_name (name phase worker n) journal)). inl done)
        (λ (early : IsCut (pins worker) (Jobs feed.phases phase worker) phase worker journal). inr (record {
          last = early.last;
          before = early.before;
          begun = early.begun;
          no_further = early.no_further;
          no_later = early.no_later;
        }))
        (subst (λ m. State (pins worker) (Jobs feed.phases phase worker) m worker journal) (let z : 0 + phase ≡ phase = omega arith in z) (states pins 0 feed.phases journal phase worker cut));
    phases = in_order_early pins 0 feed.phases journal cut;
    only = All-map (IsInFrom digest 0 feed.phases) (λ e. IsSome (task_at feed e.who)) journal
        (λ e of. let number : e.who.phase ≡ of.0 = of.1 ∙ (let z : 0 + of.0 ≡ of.0 = omega arith in z) in
        subst (λ m. IsSome (option_and_then (λ jobs. slice_get jobs e.who.task) (tasks_at feed.phases m e.who.worker))) (sym number) of.2)
        (later_early pins 0 feed.phases journal cut);
  }

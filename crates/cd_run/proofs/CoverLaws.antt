-- A journal that is cut into one part for each phase covers its feed.
use Rattle.std.proofs.Common.{◌≡◌, ◌≢◌, ℕ, zero, suc, ◌+◌, ◌<◌, ◌≤◌, ◌==◌, ◌&&◌, Bool, true, false, List, [], ◌∷◌, ◌++◌, length, slice_index_or, slice_get, Option, Some, None, IsSome, All, AllPairs, refl, sym, ap, subst, ◌∙◌, append-nil, arith, eq-eqb, ne_eqb}
use Rattle.std.specs.Prelude.{option_and_then}
use Rattle.std.proofs.lemmas.List.Elements.{All-nil, All-append, filter-append}
use Rattle.std.proofs.lemmas.Option.{none-some, same_Some}
use Rattle.cd_base.specs.declared.hash.Hash256.{Hash256}
use Rattle.cd_event.specs.declared.names.Who.{Who}
use Rattle.cd_event.specs.declared.entry.Entry.{Entry}
use Rattle.cd_event.specs.Pins.{Named}
use Rattle.cd_feed.specs.declared.feed.Feed.{Feed}
use Rattle.cd_feed.specs.declared.feed.Phase.{Phase}
use Rattle.cd_feed.specs.declared.feed.Task.{Task}
use Rattle.cd_run.specs.Runs.{TaskEvents}
use Rattle.cd_run.specs.Covers.{name, tasks_at, task_at, same_name, of_name, of_worker, CoversBy, WorkerEvents, PartEvents, CutByPhases}
use Rattle.cd_run.proofs.Lists.{filter-all, filter-none, filter-filter, All-unfilter, All-map, pairs_append, get-below}
use Rattle.cd_run.proofs.Names.{of_events}

-- ---- names

and_both : (a b c : Bool) → a ≡ true → b ≡ true → c ≡ true → (a && (b && c)) ≡ true
and_both a b c x y z = (λ i. x i && (y i && z i))

and_first : (a b : Bool) → (a && b) ≡ true → a ≡ true
and_first true b e = refl
and_first false b e = e

and_rest : (a b : Bool) → (a && b) ≡ true → b ≡ true
and_rest true b e = e
and_rest false b e = cc

not_first : (a b : Bool) → a ≡ false → (a && b) ≡ false
not_first true b e = cc
not_first false b e = refl

not_last : (a b c : Bool) → c ≡ false → (a && (b && c)) ≡ false
not_last true true c e = e
not_last true false c e = refl
not_last false b c e = refl

same : (a b : Who) → a ≡ b → same_name a b ≡ true
same a b e = and_both _ _ _ (eq-eqb _ _ (ap (λ w. w.phase) e)) (eq-eqb _ _ (ap (λ w. w.worker) e)) (eq-eqb _ _ (ap (λ w. w.task) e))

other_phase : (a b : Who) → a.phase ≢ b.phase → same_name a b ≡ false
other_phase a b n = not_first _ _ (ne_eqb a.phase b.phase n)

other_task : (a b : Who) → a.task ≢ b.task → same_name a b ≡ false
other_task a b n = not_last (a.phase == b.phase) (a.worker == b.worker) _ (ne_eqb a.task b.task n)

its_worker : (a b : Who) → same_name a b ≡ true → (a.worker == b.worker) ≡ true
its_worker a b e = and_first _ _ (and_rest (a.phase == b.phase) _ e)

module _ {H : Type 0} (digest : List ℕ → Hash256) where
  -- entries of one name
  pub all_of_name : (who : Who) (es : List (Entry H)) → All (λ e. e.who ≡ who) es → of_name who es ≡ es
  all_of_name who es of = filter-all (λ e. same_name e.who who) es (All-map (λ e. e.who ≡ who) (λ e. same_name e.who who ≡ true) es (λ e is. same e.who who is) of)

  pub none_of_phase : (who : Who) (es : List (Entry H)) → All (λ e. e.who.phase ≢ who.phase) es → of_name who es ≡ []
  none_of_phase who es out = filter-none (λ e. same_name e.who who) es (All-map (λ e. e.who.phase ≢ who.phase) (λ e. same_name e.who who ≡ false) es (λ e n. other_phase e.who who n) out)

  pub none_of_task : (who : Who) (es : List (Entry H)) → All (λ e. e.who.task ≢ who.task) es → of_name who es ≡ []
  none_of_task who es out = filter-none (λ e. same_name e.who who) es (All-map (λ e. e.who.task ≢ who.task) (λ e. same_name e.who who ≡ false) es (λ e n. other_task e.who who n) out)

  pub name_of_worker : (who : Who) (es : List (Entry H)) → of_name who (of_worker who.worker es) ≡ of_name who es
  name_of_worker who es = filter-filter (λ e. same_name e.who who) (λ e. e.who.worker == who.worker) es (λ e is. its_worker e.who who is)

  pub name_of_parts : (who : Who) (es fs : List (Entry H)) → of_name who (es ++ fs) ≡ of_name who es ++ of_name who fs
  name_of_parts who es fs = filter-append (λ e. same_name e.who who) es fs

  -- ---- a worker's tasks

  -- a task of a worker's list from a number on
  abbrev pub IsTaskFrom : ℕ → ℕ → ℕ → List Task → Entry H → Type 0
  IsTaskFrom p w n jobs e = (i : ℕ) × (e.who ≡ name p w (n + i)) × IsSome (slice_get jobs i)

  pub tasks_of_worker : (pins : List Named) (p w n : ℕ) (jobs : List Task) (es : List (Entry H)) → WorkerEvents digest pins p w n jobs es → All (IsTaskFrom p w n jobs) es
  tasks_of_worker pins p w n [] es is = subst (All (IsTaskFrom p w n [])) (sym is) (All-nil (IsTaskFrom p w n []))
  tasks_of_worker pins p w n (job ∷ jobs) es (xs, ys, events, rest, is) =
      subst (All (IsTaskFrom p w n (job ∷ jobs))) (sym is)
      (All-append (IsTaskFrom p w n (job ∷ jobs)) xs ys
      (All-map (λ e. e.who ≡ name p w n) (IsTaskFrom p w n (job ∷ jobs)) xs (λ e of. (0, of ∙ ap (name p w) (let z : n ≡ n + 0 = omega arith in z), refl)) (of_events digest (name p w n) pins job xs events))
      (All-map (IsTaskFrom p w (n + 1) jobs) (IsTaskFrom p w n (job ∷ jobs)) ys
      (λ e of. (suc of.0, of.1 ∙ ap (name p w) (let z : n + 1 + of.0 ≡ n + suc of.0 = omega arith in z), of.2)) (tasks_of_worker pins p w (n + 1) jobs ys rest)))

  pub later_tasks : (p w n : ℕ) (jobs : List Task) (ys : List (Entry H)) (m : ℕ) → m < n → All (IsTaskFrom p w n jobs) ys → All (λ e. e.who.task ≢ (name p w m).task) ys
  later_tasks p w n jobs ys m lt of = All-map (IsTaskFrom p w n jobs) (λ e. e.who.task ≢ m) ys
      (λ e is bad. let at : e.who.task ≡ n + is.0 = ap (λ v. v.task) is.1 in let g : ⊥ = omega arith in g) of

  -- the entries of a task of the list are its events
  pub events_of_task : (pins : List Named) (p w n : ℕ) (jobs : List Task) (es : List (Entry H)) (i : ℕ) (job : Task) → WorkerEvents digest pins p w n jobs es → slice_get jobs i ≡ Some job
      → TaskEvents digest pins (name p w (n + i)) job (of_name (name p w (n + i)) es)
  events_of_task pins p w n [] es i job is at = absurd (none-some job at)
  events_of_task pins p w n (first ∷ jobs) es zero job (xs, ys, events, rest, is) at =
      let number : n ≡ n + 0 = omega arith in
      let all = all_of_name (name p w n) xs (of_events digest (name p w n) pins first xs events) in
      let none = none_of_task (name p w n) ys (later_tasks p w (n + 1) jobs ys n (omega arith) (tasks_of_worker pins p w (n + 1) jobs ys rest)) in
      let its : of_name (name p w n) es ≡ xs = ap (of_name (name p w n)) is ∙ (name_of_parts (name p w n) xs ys ∙ ((λ k. all k ++ none k) ∙ append-nil xs)) in
      let here : TaskEvents digest pins (name p w n) job (of_name (name p w n) es) =
      subst (TaskEvents digest pins (name p w n) job) (sym its) (subst (λ j. TaskEvents digest pins (name p w n) j xs) (same_Some first job at) events) in
      subst (λ m. TaskEvents digest pins (name p w m) job (of_name (name p w m) es)) number here
  events_of_task pins p w n (first ∷ jobs) es (suc i) job (xs, ys, events, rest, is) at =
      let number : n + 1 + i ≡ n + suc i = omega arith in
      let who = name p w (n + 1 + i) in
      let none = none_of_task who xs (All-map (λ e. e.who ≡ name p w n) (λ e. e.who.task ≢ who.task) xs
      (λ e of bad. let at : e.who.task ≡ n = ap (λ v. v.task) of in let g : ⊥ = omega arith in g) (of_events digest (name p w n) pins first xs events)) in
      let its : of_name who es ≡ of_name who ys = ap (of_name who) is ∙ (name_of_parts who xs ys ∙ ap (λ l. l ++ of_name who ys) none) in
      let here = events_of_task pins p w (n + 1) jobs ys i job rest at in
      subst (λ m. TaskEvents digest pins (name p w m) job (of_name (name p w m) es)) number (subst (TaskEvents digest pins who job) (sym its) here)

  -- ---- a phase's part

  -- a task of a phase
  abbrev pub IsTaskOf : ℕ → List (List Task) → Entry H → Type 0
  IsTaskOf p workers e = (e.who.phase ≡ p) × IsSome (option_and_then (λ jobs. slice_get jobs e.who.task) (slice_get workers e.who.worker))

  pub tasks_of_part : (pins : ℕ → List Named) (p : ℕ) (workers : List (List Task)) (part : List (Entry H)) → PartEvents digest pins p workers part → All (IsTaskOf p workers) part
  tasks_of_part pins p workers part of k d lt =
      let e = slice_index_or part k d in
      let found = get-below workers e.who.worker (of.only k d lt) in
      let mine = tasks_of_worker (pins e.who.worker) p e.who.worker 0 found.0 (of_worker e.who.worker part) (of.each e.who.worker found.0 found.1) in
      let is = All-unfilter (IsTaskFrom p e.who.worker 0 found.0) (λ x. x.who.worker == e.who.worker) part mine k d lt (eq-eqb e.who.worker e.who.worker refl) in (
        ap (λ v. v.phase) is.1,
        subst (λ o. IsSome (option_and_then (λ jobs. slice_get jobs e.who.task) o)) (sym found.1)
            (subst (λ n. IsSome (slice_get found.0 n)) (sym (ap (λ v. v.task) is.1 ∙ (let z : 0 + is.0 ≡ is.0 = omega arith in z))) is.2),
      )

  -- a task of a phase's part
  pub events_of_part : (pins : ℕ → List Named) (p : ℕ) (workers : List (List Task)) (part : List (Entry H)) (w n : ℕ) (job : Task) → PartEvents digest pins p workers part
      → option_and_then (λ jobs. slice_get jobs n) (slice_get workers w) ≡ Some job → TaskEvents digest (pins w) (name p w n) job (of_name (name p w n) part)
  events_of_part pins p workers part w n job events = found (slice_get workers w) refl
    where
      found : (o : Option (List Task)) → slice_get workers w ≡ o → option_and_then (λ jobs. slice_get jobs n) o ≡ Some job → TaskEvents digest (pins w) (name p w n) job (of_name (name p w n) part)
      found None is at = absurd (none-some job at)
      found (Some jobs) is at =
          let mine = events_of_task (pins w) p w 0 jobs (of_worker w part) n job (events.each w jobs is) at in
          let zero_n : 0 + n ≡ n = omega arith in
          subst (TaskEvents digest (pins w) (name p w n) job) (name_of_worker (name p w n) part)
          (subst (λ m. TaskEvents digest (pins w) (name p w m) job (of_name (name p w m) (of_worker w part))) zero_n mine)

  -- ---- all parts

  later_phases : (pins : ℕ → List Named) (p : ℕ) (phases : List Phase) (journal : List (Entry H)) → CutByPhases digest pins p phases journal → All (λ e. p ≤ e.who.phase) journal
  later_phases pins p [] journal is = subst (All (λ e. p ≤ e.who.phase)) (sym is) (All-nil (λ e. p ≤ e.who.phase))
  later_phases pins p (phase ∷ phases) journal (part, rest, events, cut, is) =
      subst (All (λ e. p ≤ e.who.phase)) (sym is)
      (All-append (λ e. p ≤ e.who.phase) part rest
      (All-map (IsTaskOf p phase.workers) (λ e. p ≤ e.who.phase) part (λ e of. let at = of.0 in omega arith) (tasks_of_part pins p phase.workers part events))
      (All-map (λ e. p + 1 ≤ e.who.phase) (λ e. p ≤ e.who.phase) rest (λ e le. omega arith) (later_phases pins (p + 1) phases rest cut)))

  in_order : (pins : ℕ → List Named) (p : ℕ) (phases : List Phase) (journal : List (Entry H)) → CutByPhases digest pins p phases journal → AllPairs (λ a b. a.who.phase ≤ b.who.phase) journal
  in_order pins p [] journal is = λ i j d lt within. let none : length journal ≡ 0 = ap length is in absurd (omega arith)
  in_order pins p (phase ∷ phases) journal (part, rest, events, cut, is) =
      subst (AllPairs (λ a b. a.who.phase ≤ b.who.phase)) (sym is)
      (pairs_append (λ e. e.who.phase) p part rest
      (All-map (IsTaskOf p phase.workers) (λ e. e.who.phase ≡ p) part (λ e of. of.0) (tasks_of_part pins p phase.workers part events))
      (All-map (λ e. p + 1 ≤ e.who.phase) (λ e. p ≤ e.who.phase) rest (λ e le. omega arith) (later_phases pins (p + 1) phases rest cut))
      (in_order pins (p + 1) phases rest cut))

  -- a task of the phases from a number on
  abbrev pub IsInFrom : ℕ → List Phase → Entry H → Type 0
  IsInFrom p phases e = (i : ℕ) × (e.who.phase ≡ p + i) × IsSome (option_and_then (λ jobs. slice_get jobs e.who.task) (tasks_at phases i e.who.worker))

  no_other : (pins : ℕ → List Named) (p : ℕ) (phases : List Phase) (journal : List (Entry H)) → CutByPhases digest pins p phases journal → All (IsInFrom p phases) journal
  no_other pins p [] journal is = subst (All (IsInFrom p [])) (sym is) (All-nil (IsInFrom p []))
  no_other pins p (phase ∷ phases) journal (part, rest, events, cut, is) =
      subst (All (IsInFrom p (phase ∷ phases))) (sym is)
      (All-append (IsInFrom p (phase ∷ phases)) part rest
      (All-map (IsTaskOf p phase.workers) (IsInFrom p (phase ∷ phases)) part (λ e of. (0, of.0 ∙ (let z : p ≡ p + 0 = omega arith in z), of.1)) (tasks_of_part pins p phase.workers part events))
      (All-map (IsInFrom (p + 1) phases) (IsInFrom p (phase ∷ phases)) rest (λ e of. (suc of.0, of.1 ∙ (let z : p + 1 + of.0 ≡ p + suc of.0 = omega arith in z), of.2)) (no_other pins (p + 1) phases rest cut)))

  tasks_done : (pins : ℕ → List Named) (p : ℕ) (phases : List Phase) (journal : List (Entry H)) (i w n : ℕ) (job : Task) → CutByPhases digest pins p phases journal
      → option_and_then (λ jobs. slice_get jobs n) (tasks_at phases i w) ≡ Some job → TaskEvents digest (pins w) (name (p + i) w n) job (of_name (name (p + i) w n) journal)
  tasks_done pins p [] journal i w n job is at = absurd (none-some job at)
  tasks_done pins p (phase ∷ phases) journal zero w n job (part, rest, events, cut, is) at =
      let number : p ≡ p + 0 = omega arith in
      let who = name p w n in
      let none = none_of_phase who rest (All-map (λ e. p + 1 ≤ e.who.phase) (λ e. e.who.phase ≢ p) rest (λ e le bad. let g : ⊥ = omega arith in g) (later_phases pins (p + 1) phases rest cut)) in
      let its : of_name who journal ≡ of_name who part = ap (of_name who) is ∙ (name_of_parts who part rest ∙ (ap (λ l. of_name who part ++ l) none ∙ append-nil (of_name who part))) in
      let here = events_of_part pins p phase.workers part w n job events at in
      subst (λ m. TaskEvents digest (pins w) (name m w n) job (of_name (name m w n) journal)) number (subst (TaskEvents digest (pins w) who job) (sym its) here)
  tasks_done pins p (phase ∷ phases) journal (suc i) w n job (part, rest, events, cut, is) at =
      let number : p + 1 + i ≡ p + suc i = omega arith in
      let who = name (p + 1 + i) w n in
      let none = none_of_phase who part (All-map (IsTaskOf p phase.workers) (λ e. e.who.phase ≢ p + 1 + i) part (λ e of bad. let at = of.0 in let g : ⊥ = omega arith in g)
      (tasks_of_part pins p phase.workers part events)) in
      let its : of_name who journal ≡ of_name who rest = ap (of_name who) is ∙ (name_of_parts who part rest ∙ ap (λ l. l ++ of_name who rest) none) in
      let here = tasks_done pins (p + 1) phases rest i w n job cut at in
      subst (λ m. TaskEvents digest (pins w) (name m w n) job (of_name (name m w n) journal)) number (subst (TaskEvents digest (pins w) who job) (sym its) here)

  pub covers-cut : (pins : ℕ → List Named) (feed : Feed) (journal : List (Entry H)) → CutByPhases digest pins 0 feed.phases journal → CoversBy digest pins feed journal
  covers-cut pins feed journal cut = record {
    events = λ who job at. let zero_p : 0 + who.phase ≡ who.phase = omega arith in
        subst (λ m. TaskEvents digest (pins who.worker) (name m who.worker who.task) job (of_name (name m who.worker who.task) journal)) zero_p
        (tasks_done pins 0 feed.phases journal who.phase who.worker who.task job cut at);
    phases = in_order pins 0 feed.phases journal cut;
    only = All-map (IsInFrom 0 feed.phases) (λ e. IsSome (task_at feed e.who)) journal
        (λ e of. let number : e.who.phase ≡ of.0 = of.1 ∙ (let z : 0 + of.0 ≡ of.0 = omega arith in z) in
        subst (λ m. IsSome (option_and_then (λ jobs. slice_get jobs e.who.task) (tasks_at feed.phases m e.who.worker))) (sym number) of.2)
        (no_other pins 0 feed.phases journal cut);
  }

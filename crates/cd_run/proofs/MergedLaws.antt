-- The task of a block over two parents, from its bag to its end.
use Rattle.std.proofs.Common.{◌≡◌, ◌⊎◌, inl, inr, ⊎_elim, ℕ, Bool, List, [], ◌∷◌, ◌++◌, Option, Some, None, Result, Ok, Err, refl, sym, ap, subst, ◌∙◌, append-nil, append_assoc}
use Rattle.cd_base.specs.declared.hash.Hash256.{Hash256}
use Rattle.cd_base.specs.declared.answers.Memory.{Memory}
use Rattle.cd_block.specs.declared.block.BlockId.{BlockId}
use Rattle.cd_cell.specs.Tree.{Tree}
use Rattle.cd_boc_read.specs.declared.bag_fault.BagFault.{BagFault}
use Rattle.cd_boc_read.specs.declared.bag_fault.BagFault.TheVariants as bag
use Rattle.cd_boc_read.specs.BagFaults.{bag_fault}
use Rattle.cd_boc_read.specs.Grammar.{Spells}
use Rattle.cd_update.specs.declared.update_fault.UpdateFault.{UpdateFault}
use Rattle.cd_update.specs.UpdateFaults.{fault_of_trees}
use Rattle.cd_event.specs.declared.names.Who.{Who}
use Rattle.cd_event.specs.declared.answers.Pinned.{Pinned}
use Rattle.cd_event.specs.declared.entry.Entry.{Entry}
use Rattle.cd_event.specs.declared.refusal.Refusal.{Refusal}
use Rattle.cd_event.specs.declared.refusal.Refusal.TheVariants as refusal
use Rattle.cd_event.specs.Pins.{Named, find_pin}
use Rattle.cd_event.specs.Looks.{failed_look}
use Rattle.cd_feed.specs.declared.feed.Task.{Task}
use Rattle.cd_feed.specs.declared.feed.Task.TheVariants as task
use Rattle.cd_run.specs.declared.merged_task.Parents.{Parents}
use Rattle.cd_run.specs.declared.outcome.Outcome.{Outcome}
use Rattle.cd_run.specs.declared.outcome.Outcome.TheVariants as outcome
use Rattle.cd_run.specs.declared.outcome.TaskRefusal.{TaskRefusal}
use Rattle.cd_run.specs.declared.outcome.TaskRefusal.TheVariants as word
use Rattle.cd_run.specs.declared.words.Stop.{Stop}
use Rattle.cd_run.specs.declared.words.Stop.TheVariants as stop
use Rattle.cd_run.specs.Words.{word_of, update_word}
use Rattle.cd_run.specs.Ends.{no_memory, stop_end, IsBagStop}
use Rattle.cd_run.specs.Prepared.{HasNoUpdate, no_bag_of_update, no_update, HasUpdate}
use Rattle.cd_run.specs.Runs.{UnjoinedRun, TaskBegun, TaskAnswers, Did, pinned_as, not_pinned, unpinned_as, merged_unread, left_not_pinned, right_not_pinned, merged_stored, merged_refused, right_unseen}
use Rattle.cd_run.specs.Stages.{Stage}
use Rattle.cd_run.specs.Merging.{named_as, Pins, PinsBy, UnpinsBy}
use Rattle.cd_run.specs.Joining.{BothPins, UnpinsBoth, OnlyBoth, JoinsBy}
use Rattle.cd_run.proofs.StageLaws.{stage_none}
use Rattle.cd_run.proofs.CallLaws.{did_by}
use Rattle.cd_run.proofs.PreparingLaws.{by_bag}
use Rattle.cd_run.proofs.TurnLaws.{stage_map, stage_then}
use Rattle.cd_run.proofs.BlockLaws.{go_end}

module _ (H : Type 0) (digest : List ℕ → Hash256) (who : Who) (id left right : BlockId) (tops : List BlockId) (bytes : List ℕ) where
  abbrev job : Task
  job = task.Merged id left right tops bytes

  -- ---- before the pins

  unread : (pins : List Named) (why : TaskRefusal) → HasNoUpdate digest bytes why → TaskAnswers {H = H} digest pins who job [] (Ok (outcome.Refused why))
  unread pins why is = merged_unread why is refl refl

  pub merged_not_read : (pins : List Named) (fault : BagFault) (why : Stop) → IsBagStop fault why → (fault ≡ bag.Memory) ⊎ (bag_fault digest bytes ≡ Some fault)
      → TaskAnswers {H = H} digest pins who job [] (stop_end why)
  merged_not_read pins fault why stopped is =
      by_bag (λ s. TaskAnswers {H = H} digest pins who job [] (stop_end s)) fault (bag_fault digest bytes) why stopped is (inl refl)
      (λ found. unread pins word.Bag (no_bag_of_update fault found refl))

  pub merged_no_update : (pins : List Named) (trees : List Tree) (fault : UpdateFault) → Spells digest bytes trees → fault_of_trees digest trees ≡ Some fault
      → TaskAnswers {H = H} digest pins who job [] (Ok (outcome.Refused (update_word fault)))
  merged_no_update pins trees fault spelled found = unread pins (update_word fault) (no_update trees fault spelled found refl)

  -- ---- behind the left pin alone

  module _ (pins : List Named) (u : Tree) (has : HasUpdate digest bytes u) (m : Named) (found : find_pin pins m.number ≡ Some m) where
    -- memory ran out at the right pin: a refusal and an unpin would have ended the task
    left_begun : (es : List (Entry H)) → es ≡ [] → TaskBegun digest pins who job (pinned_as who left m.number ∷ es)
    left_begun es none = inr (
      not_pinned who right refusal.UnknownBlock ∷ (unpinned_as who m.number None ∷ []),
      (
        outcome.Refused word.UnknownBlock,
        right_not_pinned u m refusal.UnknownBlock word.UnknownBlock None has found
            (ap (λ l. pinned_as who left m.number ∷ (l ++ not_pinned who right refusal.UnknownBlock ∷ (unpinned_as who m.number None ∷ []))) none) refl refl,
      ),
    )

    left_let_go : {A : Type 0} (r : Refusal) (why : TaskRefusal) (es fs : List (Entry H)) (result : Result A Memory) → word_of r ≡ Some why → es ≡ not_pinned who right r ∷ [] → UnpinsBy who m.number result fs
        → TaskAnswers digest pins who job (pinned_as who left m.number ∷ (es ++ fs)) (go_end why result)
    left_let_go r why es fs (Ok done) word is unpinned = right_not_pinned u m r why unpinned.0 has found (λ i. pinned_as who left m.number ∷ (is i ++ unpinned.1 i)) word refl
    left_let_go r why es fs (Err memory) word is none = inr (
      unpinned_as who m.number None ∷ [],
      (
        outcome.Refused why,
        right_not_pinned u m r why None has found (λ i. pinned_as who left m.number ∷ ((is i ++ none i) ++ unpinned_as who m.number None ∷ [])) word refl,
      ),
    )

  -- ---- behind both pins

  module _ (pins : List Named) (u : Tree) (has : HasUpdate digest bytes u) (m n : Named) (first : find_pin pins m.number ≡ Some m) (second : find_pin pins n.number ≡ Some n) where
    abbrev pinned_both : List (Entry H) → List (Entry H)
    pinned_both es = pinned_as who left m.number ∷ (pinned_as who right n.number ∷ es)

    abbrev unpinned_both : List (Entry H)
    unpinned_both = unpinned_as who m.number None ∷ (unpinned_as who n.number None ∷ [])

    -- memory ran out among the looks: a failed one and the unpins would have ended them
    begun : (es : List (Entry H)) → OnlyBoth digest who m n u es → TaskBegun digest pins who job (pinned_as who left m.number ∷ (pinned_as who right n.number ∷ es))
    begun es only = inr (
      failed_look who n.number 0 ∷ unpinned_both,
      (
        outcome.Refused word.Keeper,
        merged_refused u m n (es ++ failed_look who n.number 0 ∷ []) word.Keeper None None has first second
            (right_unseen only.0 only.1.0 0 (ap (λ l. l ++ failed_look who n.number 0 ∷ []) only.1.1) refl)
            (ap pinned_both (sym (append_assoc es (failed_look who n.number 0 ∷ []) unpinned_both))) refl,
      ),
    )

    both_let_go : {A : Type 0} (why : TaskRefusal) (es fs : List (Entry H)) (result : Result A Memory) → UnjoinedRun digest who m n u id tops es why → (parents : Parents)
        → parents.left.pin ≡ m.number → parents.right.pin ≡ n.number → UnpinsBoth who parents result fs
        → TaskAnswers digest pins who job (pinned_as who left m.number ∷ (pinned_as who right n.number ∷ (es ++ fs))) (go_end why result)
    both_let_go why es fs (Ok done) run parents l r unpinned =
        merged_refused u m n es why unpinned.0 unpinned.1.0 has first second run
        (ap (λ gs. pinned_both (es ++ gs)) (unpinned.1.1 ∙ (λ i. unpinned_as who (l i) unpinned.0 ∷ (unpinned_as who (r i) unpinned.1.0 ∷ [])))) refl
    both_let_go why es fs (Err memory) run parents l r unpinned = ⊎_elim
        (λ (none : fs ≡ []). inr (
          unpinned_both,
          (
            outcome.Refused why,
            merged_refused u m n es why None None has first second run
                (ap (λ gs. pinned_both (gs ++ unpinned_both)) (ap (λ gs. es ++ gs) none ∙ append-nil es)) refl,
          ),
        ))
        (λ (one : (answer : Option Bool) × (fs ≡ unpinned_as who parents.left.pin answer ∷ [])). inr (
          unpinned_as who n.number None ∷ [],
          (
            outcome.Refused why,
            merged_refused u m n es why one.0 None has first second run
                (ap (λ gs. pinned_both ((es ++ gs) ++ unpinned_as who n.number None ∷ [])) (one.1 ∙ (λ i. unpinned_as who (l i) one.0 ∷ []))
                ∙ ap pinned_both (append_assoc es (unpinned_as who m.number one.0 ∷ []) (unpinned_as who n.number None ∷ []))) refl,
          ),
        ))
        unpinned

-- ---- a worker's task

module _ {S H : Type 0} (digest : List ℕ → Hash256) (worker faults : S → ℕ) (made : S → List (Entry H)) (goes : S → S → Type 0) (named : S → List Named)
    (who : Who) (id left right : BlockId) (tops : List BlockId) (bytes : List ℕ) where
  pub merged_none : ((x : S) → goes x x) → (x : S) (result : Result Outcome Memory) → TaskAnswers {H = H} digest (named x) who (task.Merged id left right tops bytes) [] result
      → Did digest worker faults made goes named who (task.Merged id left right tops bytes) x x result
  merged_none stays x result answers = did_by digest worker faults made goes named who (task.Merged id left right tops bytes) [] x x result
      (stage_none worker faults made goes named stays (λ es. TaskAnswers {H = H} digest (named x) who (task.Merged id left right tops bytes) es result) x answers)

  module _ (u : Tree) (has : HasUpdate digest bytes u) (old mid : S) where
    pub left_refused : (why : Stop) → PinsBy digest worker faults made goes named who left old mid (Err why) → Did digest worker faults made goes named who (task.Merged id left right tops bytes) old mid (stop_end why)
    left_refused (stop.Refused why) stage = did_by digest worker faults made goes named who (task.Merged id left right tops bytes) [] old mid (Ok (outcome.Refused why))
        (stage_map worker faults made goes named [] _ (λ es. TaskAnswers {H = H} digest (named mid) who (task.Merged id left right tops bytes) es (Ok (outcome.Refused why))) old mid
        (λ es are. left_not_pinned u are.0 why has are.1 are.2 refl) stage)
    left_refused stop.Memory stage = did_by digest worker faults made goes named who (task.Merged id left right tops bytes) [] old mid (Err no_memory)
        (stage_map worker faults made goes named [] _ (λ es. TaskAnswers {H = H} digest (named mid) who (task.Merged id left right tops bytes) es (Err no_memory)) old mid (λ es none. inl none) stage)

    module _ (further : (x y z : S) → goes x y → goes y z → goes x z) where
      module _ (pinned : Pinned) (pins : Pins digest worker faults made goes named who left old mid pinned) where
        left_on : (new : S) → named new ≡ named mid ++ [] → find_pin (named new) pinned.pin ≡ Some (named_as pinned pins.tree)
        left_on new same = subst (λ l. find_pin l pinned.pin ≡ Some (named_as pinned pins.tree)) (sym (same ∙ append-nil (named mid))) pins.is_pinned.found

        -- what came behind the left pin
        behind_left : (B : List (Entry H) → Type 0) (new : S) (result : Result Outcome Memory) → Stage worker faults made goes named [] B mid new
            → ((es : List (Entry H)) → B es → TaskAnswers {H = H} digest (named new) who (task.Merged id left right tops bytes) (pinned_as who left pinned.pin ∷ es) result)
            → Did digest worker faults made goes named who (task.Merged id left right tops bytes) old new result
        behind_left B new result stage so = did_by digest worker faults made goes named who (task.Merged id left right tops bytes) (named_as pinned pins.tree ∷ []) old new result
            (stage_then worker faults made goes named further (named_as pinned pins.tree ∷ []) [] _ B (λ es. TaskAnswers {H = H} digest (named new) who (task.Merged id left right tops bytes) es result) old mid new pins.stage stage
            (λ es fs is are. subst (λ l. TaskAnswers {H = H} digest (named new) who (task.Merged id left right tops bytes) (l ++ fs) result) (sym is) (so fs are)))

        pub right_stopped : (new : S) → PinsBy digest worker faults made goes named who right mid new (Err stop.Memory) → Did digest worker faults made goes named who (task.Merged id left right tops bytes) old new (Err no_memory)
        right_stopped new stage = behind_left _ new (Err no_memory) stage
            (λ es none. left_begun H digest who id left right tops bytes (named new) u has (named_as pinned pins.tree) (left_on new stage.pinned) es none)

        pub right_refused : (third new : S) (why : TaskRefusal) (result : Result (Unit {0}) Memory) → PinsBy digest worker faults made goes named who right mid third (Err (stop.Refused why))
            → Stage worker faults made goes named [] (UnpinsBy who pinned.pin result) third new → Did digest worker faults made goes named who (task.Merged id left right tops bytes) old new (go_end why result)
        right_refused third new why result refused unpinned =
            let same : named new ≡ named mid ++ [] = unpinned.pinned ∙ append-nil (named third) ∙ refused.pinned in
            let under = stage_then worker faults made goes named further [] [] _ _
            (λ gs. TaskAnswers {H = H} digest (named new) who (task.Merged id left right tops bytes) (pinned_as who left pinned.pin ∷ gs) (go_end why result)) mid third new refused unpinned
            (λ es fs are gone. left_let_go H digest who id left right tops bytes (named new) u has (named_as pinned pins.tree) (left_on new same) are.0 why es fs result are.2 are.1 gone) in
            behind_left _ new (go_end why result) under (λ es answers. answers)

      module _ (parents : Parents) (both : BothPins digest worker faults made goes named who left right old mid parents) where
        first_on : (new : S) → named new ≡ named mid ++ [] → find_pin (named new) parents.left.pin ≡ Some (named_as parents.left both.a)
        first_on new same = subst (λ l. find_pin l parents.left.pin ≡ Some (named_as parents.left both.a)) (sym (same ∙ append-nil (named mid))) both.are_pinned.left.found

        second_on : (new : S) → named new ≡ named mid ++ [] → find_pin (named new) parents.right.pin ≡ Some (named_as parents.right both.b)
        second_on new same = subst (λ l. find_pin l parents.right.pin ≡ Some (named_as parents.right both.b)) (sym (same ∙ append-nil (named mid))) both.are_pinned.right.found

        -- what came behind both pins
        behind_both : (B : List (Entry H) → Type 0) (new : S) (result : Result Outcome Memory) → Stage worker faults made goes named [] B mid new
            → ((es : List (Entry H)) → B es
            → TaskAnswers {H = H} digest (named new) who (task.Merged id left right tops bytes) (pinned_as who left parents.left.pin ∷ (pinned_as who right parents.right.pin ∷ es)) result)
            → Did digest worker faults made goes named who (task.Merged id left right tops bytes) old new result
        behind_both B new result stage so =
            let ms : List Named = named_as parents.left both.a ∷ (named_as parents.right both.b ∷ []) in
            did_by digest worker faults made goes named who (task.Merged id left right tops bytes) ms old new result
            (stage_then worker faults made goes named further ms [] _ B (λ es. TaskAnswers {H = H} digest (named new) who (task.Merged id left right tops bytes) es result) old mid new both.stage stage
            (λ es fs is are. subst (λ l. TaskAnswers {H = H} digest (named new) who (task.Merged id left right tops bytes) (l ++ fs) result) (sym is) (so fs are)))

        pub merged_done : (new : S) (end : Outcome) → Stage worker faults made goes named [] (JoinsBy digest who (named_as parents.left both.a) (named_as parents.right both.b) u id tops (Ok end)) mid new
            → Did digest worker faults made goes named who (task.Merged id left right tops bytes) old new (Ok end)
        merged_done new end stage = behind_both _ new (Ok end) stage
            (λ es run. merged_stored u (named_as parents.left both.a) (named_as parents.right both.b) es has (first_on new stage.pinned) (second_on new stage.pinned) run refl)

        pub merged_stopped : (new : S) → Stage worker faults made goes named [] (JoinsBy digest who (named_as parents.left both.a) (named_as parents.right both.b) u id tops (Err stop.Memory)) mid new
            → Did digest worker faults made goes named who (task.Merged id left right tops bytes) old new (Err no_memory)
        merged_stopped new stage = behind_both _ new (Err no_memory) stage
            (λ es only. begun H digest who id left right tops bytes (named new) u has (named_as parents.left both.a) (named_as parents.right both.b) (first_on new stage.pinned) (second_on new stage.pinned) es only)

        pub merged_let_go : (third new : S) (why : TaskRefusal) (result : Result (Unit {0}) Memory)
            → Stage worker faults made goes named [] (JoinsBy digest who (named_as parents.left both.a) (named_as parents.right both.b) u id tops (Err (stop.Refused why))) mid third
            → Stage worker faults made goes named [] (UnpinsBoth who parents result) third new → Did digest worker faults made goes named who (task.Merged id left right tops bytes) old new (go_end why result)
        merged_let_go third new why result refused unpinned =
            let same : named new ≡ named mid ++ [] = unpinned.pinned ∙ append-nil (named third) ∙ refused.pinned in
            let under = stage_then worker faults made goes named further [] [] _ _
            (λ gs. TaskAnswers {H = H} digest (named new) who (task.Merged id left right tops bytes) (pinned_as who left parents.left.pin ∷ (pinned_as who right parents.right.pin ∷ gs)) (go_end why result)) mid third new refused unpinned
            (λ es fs run gone. both_let_go H digest who id left right tops bytes (named new) u has (named_as parents.left both.a) (named_as parents.right both.b) (first_on new same) (second_on new same)
            why es fs result run parents refl refl gone) in
            behind_both _ new (go_end why result) under (λ es answers. answers)

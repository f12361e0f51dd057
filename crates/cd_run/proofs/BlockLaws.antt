-- The task of a block, from its bag to its end.
use Rattle.std.proofs.Common.{◌≡◌, ◌⊎◌, inl, inr, ℕ, List, [], ◌∷◌, ◌++◌, Some, None, Result, Ok, Err, refl, sym, ap, subst, ◌∙◌, append-nil, append_assoc}
use Rattle.cd_base.specs.declared.hash.Hash256.{Hash256}
use Rattle.cd_base.specs.declared.answers.Memory.{Memory}
use Rattle.cd_block.specs.declared.block.BlockId.{BlockId}
use Rattle.cd_cell.specs.Tree.{Tree}
use Rattle.cd_boc_read.specs.declared.bag_fault.BagFault.{BagFault}
use Rattle.cd_boc_read.specs.declared.bag_fault.BagFault.TheVariants as bag
use Rattle.cd_boc_read.specs.BagFaults.{bag_fault}
use Rattle.cd_boc_read.specs.Grammar.{Spells}
use Rattle.cd_update.specs.declared.update_fault.UpdateFault.{UpdateFault}
use Rattle.cd_update.specs.UpdateFaults.{fault_of_trees}
use Rattle.cd_event.specs.declared.names.Who.{Who}
use Rattle.cd_event.specs.declared.answers.Pinned.{Pinned}
use Rattle.cd_event.specs.declared.entry.Entry.{Entry}
use Rattle.cd_event.specs.Pins.{Named, find_pin}
use Rattle.cd_event.specs.Looks.{failed_look}
use Rattle.cd_feed.specs.declared.feed.Task.{Task}
use Rattle.cd_feed.specs.declared.feed.Task.TheVariants as task
use Rattle.cd_run.specs.declared.outcome.Outcome.{Outcome}
use Rattle.cd_run.specs.declared.outcome.Outcome.TheVariants as outcome
use Rattle.cd_run.specs.declared.outcome.TaskRefusal.{TaskRefusal}
use Rattle.cd_run.specs.declared.outcome.TaskRefusal.TheVariants as word
use Rattle.cd_run.specs.declared.words.Stop.{Stop}
use Rattle.cd_run.specs.declared.words.Stop.TheVariants as stop
use Rattle.cd_run.specs.Words.{update_word}
use Rattle.cd_run.specs.Ends.{no_memory, stop_end, IsBagStop}
use Rattle.cd_run.specs.Prepared.{HasNoUpdate, no_bag_of_update, no_update, HasUpdate}
use Rattle.cd_run.specs.Runs.{UnmergedRun, TaskBegun, TaskAnswers, Did, pinned_as, unpinned_as, block_unread, parent_not_pinned, block_stored, block_refused, old_unseen}
use Rattle.cd_run.specs.Stages.{Stage}
use Rattle.cd_run.specs.Merging.{named_as, Pins, PinsBy, UnpinsBy, OnlyLooks, MergesBy}
use Rattle.cd_run.proofs.StageLaws.{stage_none}
use Rattle.cd_run.proofs.CallLaws.{did_by}
use Rattle.cd_run.proofs.PreparingLaws.{by_bag}
use Rattle.cd_run.proofs.TurnLaws.{stage_map, stage_then}

-- the end behind a refusal and an unpin
abbrev pub go_end : {A : Type 0} → TaskRefusal → Result A Memory → Result Outcome Memory
go_end why (Ok done) = Ok (outcome.Refused why)
go_end why (Err memory) = Err memory

-- ---- updates of bags

module _ (digest : List ℕ → Hash256) (bytes : List ℕ) where
  pub has_update : (trees : List Tree) (u : Tree) → Spells digest bytes trees → trees ≡ u ∷ [] → fault_of_trees digest trees ≡ None → HasUpdate digest bytes u
  has_update trees u spelled is none = record {
    spelled = subst (Spells digest bytes) is spelled;
    no_fault = subst (λ ts. fault_of_trees digest ts ≡ None) is none;
  }

module _ (H : Type 0) (digest : List ℕ → Hash256) (who : Who) (id parent : BlockId) (tops : List BlockId) (bytes : List ℕ) where
  abbrev job : Task
  job = task.Block id parent tops bytes

  -- ---- before the pin

  unread : (pins : List Named) (why : TaskRefusal) → HasNoUpdate digest bytes why → TaskAnswers {H = H} digest pins who job [] (Ok (outcome.Refused why))
  unread pins why is = block_unread why is refl refl

  pub not_read : (pins : List Named) (fault : BagFault) (why : Stop) → IsBagStop fault why → (fault ≡ bag.Memory) ⊎ (bag_fault digest bytes ≡ Some fault) → TaskAnswers {H = H} digest pins who job [] (stop_end why)
  not_read pins fault why stopped is =
      by_bag (λ s. TaskAnswers {H = H} digest pins who job [] (stop_end s)) fault (bag_fault digest bytes) why stopped is (inl refl)
      (λ found. unread pins word.Bag (no_bag_of_update fault found refl))

  pub no_update_is : (pins : List Named) (trees : List Tree) (fault : UpdateFault) → Spells digest bytes trees → fault_of_trees digest trees ≡ Some fault
      → TaskAnswers {H = H} digest pins who job [] (Ok (outcome.Refused (update_word fault)))
  no_update_is pins trees fault spelled found = unread pins (update_word fault) (no_update trees fault spelled found refl)

  -- ---- behind the pin

  module _ (pins : List Named) (u : Tree) (has : HasUpdate digest bytes u) (m : Named) (found : find_pin pins m.number ≡ Some m) where
    -- memory ran out among the looks: a failed one and an unpin would have ended them
    begun : (es : List (Entry H)) → OnlyLooks who m.number es → TaskBegun digest pins who job (pinned_as who parent m.number ∷ es)
    begun es only = inr (
      failed_look who m.number 0 ∷ (unpinned_as who m.number None ∷ []),
      (
        outcome.Refused word.Keeper,
        block_refused u m (es ++ failed_look who m.number 0 ∷ []) word.Keeper None has found (old_unseen only.0 0 (ap (λ l. l ++ failed_look who m.number 0 ∷ []) only.1) refl)
            (ap (λ l. pinned_as who parent m.number ∷ l) (sym (append_assoc es (failed_look who m.number 0 ∷ []) (unpinned_as who m.number None ∷ [])))) refl,
      ),
    )

    let_go_is : {A : Type 0} (why : TaskRefusal) (es fs : List (Entry H)) (result : Result A Memory) → UnmergedRun digest who m u id tops es why → UnpinsBy who m.number result fs
        → TaskAnswers digest pins who job (pinned_as who parent m.number ∷ (es ++ fs)) (go_end why result)
    let_go_is why es fs (Ok done) run unpinned = block_refused u m es why unpinned.0 has found run (ap (λ l. pinned_as who parent m.number ∷ (es ++ l)) unpinned.1) refl
    let_go_is why es fs (Err memory) run none = inr (
      unpinned_as who m.number None ∷ [],
      (
        outcome.Refused why,
        block_refused u m es why None has found run (ap (λ l. pinned_as who parent m.number ∷ (l ++ unpinned_as who m.number None ∷ [])) (ap (λ l. es ++ l) none ∙ append-nil es)) refl,
      ),
    )

module _ {S H : Type 0} (digest : List ℕ → Hash256) (worker faults : S → ℕ) (made : S → List (Entry H)) (goes : S → S → Type 0) (named : S → List Named)
    (who : Who) (id parent : BlockId) (tops : List BlockId) (bytes : List ℕ) where
  pub block_none : ((x : S) → goes x x) → (x : S) (result : Result Outcome Memory) → TaskAnswers {H = H} digest (named x) who (task.Block id parent tops bytes) [] result
      → Did digest worker faults made goes named who (task.Block id parent tops bytes) x x result
  block_none stays x result answers = did_by digest worker faults made goes named who (task.Block id parent tops bytes) [] x x result
      (stage_none worker faults made goes named stays (λ es. TaskAnswers {H = H} digest (named x) who (task.Block id parent tops bytes) es result) x answers)

  module _ (u : Tree) (has : HasUpdate digest bytes u) (old mid : S) where
    pub block_not_pinned : (why : Stop) → PinsBy digest worker faults made goes named who parent old mid (Err why) → Did digest worker faults made goes named who (task.Block id parent tops bytes) old mid (stop_end why)
    block_not_pinned (stop.Refused why) stage = did_by digest worker faults made goes named who (task.Block id parent tops bytes) [] old mid (Ok (outcome.Refused why))
        (stage_map worker faults made goes named [] _ (λ es. TaskAnswers {H = H} digest (named mid) who (task.Block id parent tops bytes) es (Ok (outcome.Refused why))) old mid
        (λ es are. parent_not_pinned u are.0 why has are.1 are.2 refl) stage)
    block_not_pinned stop.Memory stage = did_by digest worker faults made goes named who (task.Block id parent tops bytes) [] old mid (Err no_memory)
        (stage_map worker faults made goes named [] _ (λ es. TaskAnswers {H = H} digest (named mid) who (task.Block id parent tops bytes) es (Err no_memory)) old mid (λ es none. inl none) stage)

    module _ (further : (x y z : S) → goes x y → goes y z → goes x z) (pinned : Pinned) (pins : Pins digest worker faults made goes named who parent old mid pinned) where
      found_on : (new : S) → named new ≡ named mid ++ [] → find_pin (named new) pinned.pin ≡ Some (named_as pinned pins.tree)
      found_on new same = subst (λ l. find_pin l pinned.pin ≡ Some (named_as pinned pins.tree)) (sym (same ∙ append-nil (named mid))) pins.is_pinned.found

      pub block_done : (new : S) (end : Outcome) → Stage worker faults made goes named [] (MergesBy digest who (named_as pinned pins.tree) u id tops (Ok end)) mid new
          → Did digest worker faults made goes named who (task.Block id parent tops bytes) old new (Ok end)
      block_done new end stage = did_by digest worker faults made goes named who (task.Block id parent tops bytes) (named_as pinned pins.tree ∷ []) old new (Ok end)
          (stage_then worker faults made goes named further (named_as pinned pins.tree ∷ []) [] _ _ (λ es. TaskAnswers {H = H} digest (named new) who (task.Block id parent tops bytes) es (Ok end)) old mid new pins.stage stage
          (λ es fs is run. block_stored u (named_as pinned pins.tree) fs has (found_on new stage.pinned) run (ap (λ l. l ++ fs) is)))

      pub block_stopped : (new : S) → Stage worker faults made goes named [] (MergesBy digest who (named_as pinned pins.tree) u id tops (Err stop.Memory)) mid new
          → Did digest worker faults made goes named who (task.Block id parent tops bytes) old new (Err no_memory)
      block_stopped new stage = did_by digest worker faults made goes named who (task.Block id parent tops bytes) (named_as pinned pins.tree ∷ []) old new (Err no_memory)
          (stage_then worker faults made goes named further (named_as pinned pins.tree ∷ []) [] _ _ (λ es. TaskAnswers {H = H} digest (named new) who (task.Block id parent tops bytes) es (Err no_memory)) old mid new pins.stage stage
          (λ es fs is only. subst (λ l. TaskAnswers {H = H} digest (named new) who (task.Block id parent tops bytes) (l ++ fs) (Err no_memory)) (sym is)
          (begun H digest who id parent tops bytes (named new) u has (named_as pinned pins.tree) (found_on new stage.pinned) fs only)))

      pub block_let_go : (third new : S) (why : TaskRefusal) (result : Result (Unit {0}) Memory)
          → Stage worker faults made goes named [] (MergesBy digest who (named_as pinned pins.tree) u id tops (Err (stop.Refused why))) mid third
          → Stage worker faults made goes named [] (UnpinsBy who pinned.pin result) third new
          → Did digest worker faults made goes named who (task.Block id parent tops bytes) old new (go_end why result)
      block_let_go third new why result merged unpinned =
          let same : named new ≡ named mid ++ [] = unpinned.pinned ∙ append-nil (named third) ∙ merged.pinned in
          let under = stage_then worker faults made goes named further [] [] _ _
          (λ gs. TaskAnswers {H = H} digest (named new) who (task.Block id parent tops bytes) (pinned_as who parent pinned.pin ∷ gs) (go_end why result)) mid third new merged unpinned
          (λ es fs run gone. let_go_is H digest who id parent tops bytes (named new) u has (named_as pinned pins.tree) (found_on new same) why es fs result run gone) in
          did_by digest worker faults made goes named who (task.Block id parent tops bytes) (named_as pinned pins.tree ∷ []) old new (go_end why result)
          (stage_then worker faults made goes named further (named_as pinned pins.tree ∷ []) [] _ _ (λ es. TaskAnswers {H = H} digest (named new) who (task.Block id parent tops bytes) es (go_end why result)) old mid new pins.stage under
          (λ es fs is answers. subst (λ l. TaskAnswers {H = H} digest (named new) who (task.Block id parent tops bytes) (l ++ fs) (go_end why result)) (sym is) answers))

-- What the merge of an update over a pin's state comes to.
use Rattle.std.proofs.Common.{◌≡◌, ◌≢◌, ℕ, List, [], ◌∷◌, ◌++◌, Option, Some, None, Result, Ok, Err, refl, sym, ap, subst, ◌∙◌, append-nil}
use Rattle.std.specs.Prelude.{IfOk, IfSome}
use Rattle.std.specs.Option.{option_and_then}
use Rattle.std.proofs.lemmas.Option.{same_Some}
use Rattle.cd_base.specs.declared.hash.Hash256.{Hash256}
use Rattle.cd_block.specs.declared.block.BlockId.{BlockId}
use Rattle.cd_cell.specs.PreparedView.{PreparedView}
use Rattle.cd_cell.specs.Tree.{Tree}
use Rattle.cd_event.specs.declared.names.Who.{Who}
use Rattle.cd_event.specs.declared.names.At.{At}
use Rattle.cd_event.specs.declared.answers.Pinned.{Pinned}
use Rattle.cd_event.specs.declared.answers.Stored.{Stored}
use Rattle.cd_event.specs.declared.entry.Entry.{Entry}
use Rattle.cd_event.specs.declared.event.Event.TheVariants as event
use Rattle.cd_event.specs.declared.refusal.Refusal.TheVariants as refusal
use Rattle.cd_event.specs.declared.faults.MergeFault.{MergeFault}
use Rattle.cd_event.specs.declared.faults.MergeFault.TheVariants as merge
use Rattle.cd_event.specs.declared.entry.Reply.TheVariants as reply
use Rattle.cd_event.specs.Looks.{looks, failed_look}
use Rattle.cd_event.specs.Replies.{who_of, entry_of, entries_of, merge_reply, merge_refusal}
use Rattle.cd_event.specs.Pins.{Named, MayMerge, IsOfOther}
use Rattle.cd_event.specs.Turning.{Turned, IsStored}
use Rattle.cd_run.specs.declared.outcome.Outcome.{Outcome}
use Rattle.cd_run.specs.declared.outcome.Outcome.TheVariants as outcome
use Rattle.cd_run.specs.declared.outcome.TaskRefusal.{TaskRefusal}
use Rattle.cd_run.specs.declared.words.Stop.{Stop}
use Rattle.cd_run.specs.declared.words.Stop.TheVariants as stop
use Rattle.cd_run.specs.Words.{word_of}
use Rattle.cd_run.specs.Ends.{stopped}
use Rattle.cd_run.specs.Prepared.{IsPrepared}
use Rattle.cd_run.specs.Runs.{UnmergedRun, old_unseen, unprepared, unmerged}
use Rattle.cd_run.specs.Stages.{Stage}
use Rattle.cd_run.specs.Merging.{named_as, IsPinned, OnlyLooks, StopsLooks, PreparesBy, MergesBy}
use Rattle.cd_run.proofs.StageLaws.{stage_call}
use Rattle.cd_run.proofs.TurnLaws.{still, Keeps, keeps_both, keeps_looks, keeps_failed, stage_then}
use Rattle.cd_run.proofs.UpdateLaws.{state_found}

pub some_at : {X : Type 0} (o : Option X) (x : X) (P : X → Type 0) → o ≡ Some x → IfSome o P → P x
some_at None x P is fact = absurd (cc is)
some_at (Some y) x P is fact = subst P (same_Some y x is) fact

abbrev pub merge_end : Result Stored MergeFault → Result Outcome Stop
merge_end (Ok stored) = Ok (outcome.Block stored.root stored.cells)
merge_end (Err fault) = Err (stopped (option_and_then word_of (merge_refusal fault)))

module _ {H : Type 0} (digest : List ℕ → Hash256) (who : Who) (m : Named) (u : Tree) where
  -- nothing was found, or nothing prepared
  pub unseen_is : (why : Stop) (es : List (Entry H)) → StopsLooks who m.number why es → PreparesBy digest who m u (Err why) es
  unseen_is (stop.Refused why) es looked = λ id tops. old_unseen looked.1.0 looked.1.1.0 looked.1.1.1 looked.0
  unseen_is stop.Memory es looked = looked

  module _ (id : BlockId) (tops : List BlockId) where
    pub unprepared_stops : (why : Stop) (es : List (Entry H)) → PreparesBy digest who m u (Err why) es → MergesBy digest who m u id tops (Err why) es
    unprepared_stops (stop.Refused why) es run = run id tops
    unprepared_stops stop.Memory es only = only

    -- one merge behind the looks
    pub merge_called : (p : PreparedView) → IsPrepared digest m u p → (result : Result Stored MergeFault) → result ≢ Err merge.NoPin → result ≢ Err merge.WrongPin → IfOk result (IsStored p)
        → (es fs : List (Entry H)) → OnlyLooks who m.number es → fs ≡ entries_of who (event.Merge m.number None id tops p) (merge_reply result) → MergesBy digest who m u id tops (merge_end result) (es ++ fs)
    merge_called p is (Ok stored) live right same es fs only are =
        record { asked = only.0; prepared = p; is_prepared = is; entries_are = λ i. only.1 i ++ are i; end_is = λ i. outcome.Block (same.root i) (same.cells i) }
    merge_called p is (Err merge.NoPin) live right same es fs only are = absurd (live refl)
    merge_called p is (Err merge.WrongPin) live right same es fs only are = absurd (right refl)
    merge_called p is (Err merge.Known) live right same es fs only are = unmerged only.0 p refusal.Known is (λ i. only.1 i ++ are i) refl
    merge_called p is (Err (merge.Lineage fault)) live right same es fs only are = unmerged only.0 p (refusal.Lineage fault) is (λ i. only.1 i ++ are i) refl
    merge_called p is (Err (merge.Clash hash stored offered)) live right same es fs only are = unmerged only.0 p (refusal.Clash hash stored offered) is (λ i. only.1 i ++ are i) refl
    merge_called p is (Err (merge.CountFull hash count)) live right same es fs only are = unmerged only.0 p (refusal.CountFull hash count) is (λ i. only.1 i ++ are i) refl
    merge_called p is (Err merge.Keeper) live right same es fs only are = unmerged only.0 p refusal.Keeper is (λ i. only.1 i ++ are i) refl
    merge_called p is (Err merge.Memory) live right same es fs only are = (only.0, ap (λ l. es ++ l) are ∙ append-nil es ∙ only.1)

    -- a refusal leaves the pins as they are
    pub keeps_unmerged : (n : ℕ) (why : TaskRefusal) (es : List (Entry H)) → UnmergedRun digest who m u id tops es why → Keeps n es
    keeps_unmerged n why es (old_unseen asked last is a) = subst (Keeps n) (sym is) (keeps_both H n (looks who m.number asked) (failed_look who m.number last ∷ []) (keeps_looks H n who m.number asked) (keeps_failed H n who m.number last))
    keeps_unmerged n why es (unprepared asked a is) = subst (Keeps n) (sym is) (keeps_looks H n who m.number asked)
    keeps_unmerged n why es (unmerged asked p r a is b) = subst (Keeps n) (sym is) (keeps_both H n (looks who m.number asked) (entry_of who (event.Merge m.number None id tops p) (reply.Refused r) ∷ []) (keeps_looks H n who m.number asked) (λ live. still live))

module _ {H : Type 0} (digest : List ℕ → Hash256) (made : List (Entry H)) (pins : List Named) (pinned : Pinned) (tree : Option Tree) (u : Tree) (p : PreparedView)
    (is : IsPinned digest made pins pinned tree) (prepared : IsPrepared digest (named_as pinned tree) u p) where
  -- the value fits the pin's state
  pub may_merge : MayMerge digest made pins pinned.pin None p
  may_merge t holds names =
      let told : tree ≡ Some t = sym (state_found pins (named_as pinned tree) is.found) ∙ holds.told in
      let applied = some_at tree t _ told prepared.applied in
      applied.1.fits

  pub not_wrong : IsOfOther digest pins pinned.pin None p.old → ⊥
  not_wrong other = other (named_as pinned tree) is.found prepared.over.over

-- the merge behind what was prepared
module _ {S H : Type 0} (digest : List ℕ → Hash256) (worker faults : S → ℕ) (made : S → List (Entry H)) (goes : S → S → Type 0) (named : S → List Named)
    (further : (x y z : S) → goes x y → goes y z → goes x z) (who : Who) (at : At) (m : Named) (u : Tree) (id : BlockId) (tops : List BlockId) (p : PreparedView) where
  pub merges : (old mid new : S) (result : Result Stored MergeFault) → who_of at (worker mid) ≡ who
      → Stage worker faults made goes named [] (PreparesBy digest who m u (Ok p)) old mid → result ≢ Err merge.NoPin → result ≢ Err merge.WrongPin
      → Turned worker faults made goes mid new at (event.Merge m.number None id tops p) (merge_reply result) → named new ≡ named mid → IfOk result (IsStored p)
      → Stage worker faults made goes named [] (MergesBy digest who m u id tops (merge_end result)) old new
  merges old mid new result is before live right turned same stored =
      let merged = stage_call worker faults made goes named who at mid new (event.Merge m.number None id tops p) (merge_reply result)
      (λ fs. fs ≡ entries_of who (event.Merge m.number None id tops p) (merge_reply result)) is turned same refl in
      stage_then worker faults made goes named further [] [] (PreparesBy digest who m u (Ok p)) _ (MergesBy digest who m u id tops (merge_end result)) old mid new before merged
      (λ es fs run are. merge_called digest who m u id tops p run.1 result live right stored es fs run.0 are)

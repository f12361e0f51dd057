-- What the merge of an update over the joined state of two pins comes to.
use Rattle.std.proofs.Common.{◌≡◌, ◌≢◌, inr, ℕ, Bool, true, false, ◌==◌, List, [], ◌∷◌, ◌++◌, Option, Some, None, Result, Ok, Err, refl, sym, ap, subst, ◌∙◌, append-nil, append_assoc}
use Rattle.std.specs.Prelude.{IfOk, not, ◌&&◌, ◌||◌}
use Rattle.std.specs.Option.{option_and_then}
use Rattle.cd_base.specs.declared.hash.Hash256.{Hash256}
use Rattle.cd_base.specs.declared.answers.Memory.{Memory}
use Rattle.cd_block.specs.declared.block.BlockId.{BlockId}
use Rattle.cd_cell.specs.PreparedView.{PreparedView}
use Rattle.cd_cell.specs.Tree.{Tree}
use Rattle.cd_event.specs.declared.names.Who.{Who}
use Rattle.cd_event.specs.declared.names.At.{At}
use Rattle.cd_event.specs.declared.answers.Stored.{Stored}
use Rattle.cd_event.specs.declared.entry.Entry.{Entry}
use Rattle.cd_event.specs.declared.event.Event.TheVariants as event
use Rattle.cd_event.specs.declared.refusal.Refusal.TheVariants as refusal
use Rattle.cd_event.specs.declared.faults.MergeFault.{MergeFault}
use Rattle.cd_event.specs.declared.faults.MergeFault.TheVariants as merge
use Rattle.cd_event.specs.declared.entry.Reply.TheVariants as reply
use Rattle.cd_event.specs.Replies.{who_of, entry_of, entries_of, merge_reply, merge_refusal}
use Rattle.cd_event.specs.Pins.{Named, are_live}
use Rattle.cd_event.specs.Looks.{looks, failed_look}
use Rattle.cd_event.specs.Turning.{Turned, IsStored}
use Rattle.cd_run.specs.declared.merged_task.Parents.{Parents}
use Rattle.cd_run.specs.declared.outcome.Outcome.{Outcome}
use Rattle.cd_run.specs.declared.outcome.Outcome.TheVariants as outcome
use Rattle.cd_run.specs.declared.outcome.TaskRefusal.{TaskRefusal}
use Rattle.cd_run.specs.declared.words.Stop.{Stop}
use Rattle.cd_run.specs.declared.words.Stop.TheVariants as stop
use Rattle.cd_run.specs.Words.{word_of}
use Rattle.cd_run.specs.Ends.{stopped}
use Rattle.cd_run.specs.Prepared.{IsMergePrepared}
use Rattle.cd_run.specs.Runs.{UnjoinedRun, both_looks, unpinned_as, left_unseen, right_unseen, not_joined, join_refused}
use Rattle.cd_run.specs.Stages.{Stage}
use Rattle.cd_run.specs.Merging.{OnlyLooks, StopsLooks, UnpinsBy}
use Rattle.cd_run.specs.Joining.{ArePinned, UnpinsBoth, OnlyBoth, PreparesBoth, JoinsBy}
use Rattle.cd_run.proofs.StageLaws.{stage_call}
use Rattle.cd_run.proofs.TurnLaws.{still, Keeps, keeps_both, keeps_looks, keeps_failed, stage_then}
use Rattle.cd_run.proofs.ParentLaws.{still_pinned}

abbrev pub join_end : Result Stored MergeFault → Result Outcome Stop
join_end (Ok stored) = Ok (outcome.Merged stored.root stored.cells)
join_end (Err fault) = Err (stopped (option_and_then word_of (merge_refusal fault)))

keeps_looks_of_both : (H : Type 0) (who : Who) (m n : Named) (k : ℕ) (left right : List ℕ) → Keeps {H = H} k (both_looks who m n left right)
keeps_looks_of_both H who m n k left right = keeps_both H k (looks who m.number left) (looks who n.number right) (keeps_looks H k who m.number left) (keeps_looks H k who n.number right)

module _ {H : Type 0} (digest : List ℕ → Hash256) (who : Who) (m n : Named) (u : Tree) where
  pub keeps_only_both : (k : ℕ) (es : List (Entry H)) → OnlyBoth digest who m n u es → Keeps k es
  keeps_only_both k es only = subst (Keeps k) (sym only.1.1) (keeps_looks_of_both H who m n k only.0 only.1.0)

  -- looks under the left pin, and then under the right one
  pub both_are : (es fs : List (Entry H)) → OnlyLooks who m.number es → OnlyLooks who n.number fs → OnlyBoth digest who m n u (es ++ fs)
  both_are es fs first next = (first.0, (next.0, λ i. first.1 i ++ next.1 i))

  left_only : (es : List (Entry H)) → OnlyLooks who m.number es → OnlyBoth digest who m n u es
  left_only es only = (only.0, ([], only.1 ∙ sym (append-nil (looks who m.number only.0))))

  pub left_stops : (why : Stop) (es : List (Entry H)) → StopsLooks who m.number why es → PreparesBoth digest who m n u (Err why) es
  left_stops (stop.Refused why) es looked = λ id tops. left_unseen looked.1.0 looked.1.1.0 looked.1.1.1 looked.0
  left_stops stop.Memory es only = left_only es only

  pub right_stops : (why : Stop) (es fs : List (Entry H)) → OnlyLooks who m.number es → StopsLooks who n.number why fs → PreparesBoth digest who m n u (Err why) (es ++ fs)
  right_stops (stop.Refused why) es fs first looked = λ id tops. right_unseen first.0 looked.1.0 looked.1.1.0
      ((λ i. first.1 i ++ looked.1.1.1 i) ∙ sym (append_assoc (looks who m.number first.0) (looks who n.number looked.1.0) (failed_look who n.number looked.1.1.0 ∷ []))) looked.0
  right_stops stop.Memory es fs first next = both_are es fs first next

  module _ (id : BlockId) (tops : List BlockId) where
    pub unjoined_stops : (why : Stop) (es : List (Entry H)) → PreparesBoth digest who m n u (Err why) es → JoinsBy digest who m n u id tops (Err why) es
    unjoined_stops (stop.Refused why) es run = run id tops
    unjoined_stops stop.Memory es only = only

    -- one merge behind the looks
    pub join_called : (p : PreparedView) → IsMergePrepared digest m n u p → (result : Result Stored MergeFault) → result ≢ Err merge.NoPin → result ≢ Err merge.WrongPin → IfOk result (IsStored p)
        → (es fs : List (Entry H)) → OnlyBoth digest who m n u es → fs ≡ entries_of who (event.Merge m.number (Some n.number) id tops p) (merge_reply result)
        → JoinsBy digest who m n u id tops (join_end result) (es ++ fs)
    join_called p is (Ok stored) live right same es fs only are =
        record { left = only.0; right = only.1.0; prepared = p; is_prepared = is; entries_are = λ i. only.1.1 i ++ are i; end_is = λ i. outcome.Merged (same.root i) (same.cells i) }
    join_called p is (Err merge.NoPin) live right same es fs only are = absurd (live refl)
    join_called p is (Err merge.WrongPin) live right same es fs only are = absurd (right refl)
    join_called p is (Err merge.Known) live right same es fs only are = join_refused only.0 only.1.0 p refusal.Known is (λ i. only.1.1 i ++ are i) refl
    join_called p is (Err (merge.Lineage fault)) live right same es fs only are = join_refused only.0 only.1.0 p (refusal.Lineage fault) is (λ i. only.1.1 i ++ are i) refl
    join_called p is (Err (merge.Clash hash stored offered)) live right same es fs only are = join_refused only.0 only.1.0 p (refusal.Clash hash stored offered) is (λ i. only.1.1 i ++ are i) refl
    join_called p is (Err (merge.CountFull hash count)) live right same es fs only are = join_refused only.0 only.1.0 p (refusal.CountFull hash count) is (λ i. only.1.1 i ++ are i) refl
    join_called p is (Err merge.Keeper) live right same es fs only are = join_refused only.0 only.1.0 p refusal.Keeper is (λ i. only.1.1 i ++ are i) refl
    join_called p is (Err merge.Memory) live right same es fs only are = (only.0, (only.1.0, ap (λ l. es ++ l) are ∙ append-nil es ∙ only.1.1))

    -- a refusal leaves the pins as they are
    pub keeps_unjoined : (k : ℕ) (why : TaskRefusal) (es : List (Entry H)) → UnjoinedRun digest who m n u id tops es why → Keeps k es
    keeps_unjoined k why es (left_unseen asked last is a) = subst (Keeps k) (sym is) (keeps_both H k (looks who m.number asked) (failed_look who m.number last ∷ []) (keeps_looks H k who m.number asked) (keeps_failed H k who m.number last))
    keeps_unjoined k why es (right_unseen left right last is a) = subst (Keeps k) (sym is) (keeps_both H k (both_looks who m n left right) (failed_look who n.number last ∷ []) (keeps_looks_of_both H who m n k left right) (keeps_failed H k who n.number last))
    keeps_unjoined k why es (not_joined left right a is) = subst (Keeps k) (sym is) (keeps_looks_of_both H who m n k left right)
    keeps_unjoined k why es (join_refused left right p r a is b) = subst (Keeps k) (sym is) (keeps_both H k (both_looks who m n left right) (entry_of who (event.Merge m.number (Some n.number) id tops p) (reply.Refused r) ∷ []) (keeps_looks_of_both H who m n k left right) (λ live. still live))

-- ---- both pins

module _ {S H : Type 0} (digest : List ℕ → Hash256) (worker faults : S → ℕ) (made : S → List (Entry H)) (goes : S → S → Type 0) (named : S → List Named)
    (parents : Parents) (a b : Option Tree) where
  pub still_both : (old new : S) (A : List (Entry H) → Type 0) → ((k : ℕ) (es : List (Entry H)) → A es → Keeps k es) → Stage worker faults made goes named [] A old new
      → ArePinned digest (made old) (named old) parents a b → ArePinned digest (made new) (named new) parents a b
  still_both old new A keeps stage are = record {
    left = still_pinned digest worker faults made goes named old new parents.left a A (keeps parents.left.pin) stage are.left;
    right = still_pinned digest worker faults made goes named old new parents.right b A (keeps parents.right.pin) stage are.right;
    apart = are.apart;
  }

live_both : (same left right : Bool) → same ≡ false → left ≡ true → right ≡ true → (not same && left && right) ≡ true
live_both true left right apart is also = absurd (cc apart)
live_both false true true apart is also = refl
live_both false true false apart is also = absurd (cc also)
live_both false false right apart is also = absurd (cc is)

pub are_both_live : {H : Type 0} (digest : List ℕ → Hash256) (made : List (Entry H)) (pins : List Named) (parents : Parents) (a b : Option Tree) → ArePinned digest made pins parents a b
    → are_live parents.left.pin (Some parents.right.pin) made ≡ true
are_both_live digest made pins parents a b are = live_both _ _ _ are.apart are.left.live are.right.live

-- an unpin of another pin leaves a pin as it is
pub keeps_unpin : {H A : Type 0} (who : Who) (pin k : ℕ) → (pin == k) ≡ false → (result : Result A Memory) (es : List (Entry H)) → UnpinsBy who pin result es → Keeps k es
keeps_unpin {H = H} who pin k apart (Ok done) es unpinned = subst (Keeps k) (sym unpinned.1) (by unpinned.0)
  where
    ended : (b live : Bool) → b ≡ false → (false || (live && not b)) ≡ live
    ended true live off = absurd (cc off)
    ended false live off = still live

    by : (answer : Option Bool) → Keeps {H = H} k (unpinned_as who pin answer ∷ [])
    by None live = still live
    by (Some collected) live = ended (pin == k) live apart
keeps_unpin who pin k apart (Err memory) es none = subst (Keeps k) (sym none) (λ live. refl)

module _ {H A : Type 0} (who : Who) (parents : Parents) where
  pub both_unpinned : {B : Type 0} (done : B) (result : Result A Memory) (es fs : List (Entry H)) → UnpinsBy who parents.left.pin (Ok done) es → UnpinsBy who parents.right.pin result fs
      → UnpinsBoth who parents result (es ++ fs)
  both_unpinned done (Ok also) es fs first second = (first.0, (second.0, λ i. first.1 i ++ second.1 i))
  both_unpinned done (Err memory) es fs first none = inr (first.0, ap (λ l. es ++ l) none ∙ append-nil es ∙ first.1)

-- the merge behind what was prepared
module _ {S H : Type 0} (digest : List ℕ → Hash256) (worker faults : S → ℕ) (made : S → List (Entry H)) (goes : S → S → Type 0) (named : S → List Named)
    (further : (x y z : S) → goes x y → goes y z → goes x z) (who : Who) (at : At) (m n : Named) (u : Tree) (id : BlockId) (tops : List BlockId) (p : PreparedView) where
  pub joins : (old mid new : S) (result : Result Stored MergeFault) → who_of at (worker mid) ≡ who
      → Stage worker faults made goes named [] (PreparesBoth digest who m n u (Ok p)) old mid → result ≢ Err merge.NoPin → result ≢ Err merge.WrongPin
      → Turned worker faults made goes mid new at (event.Merge m.number (Some n.number) id tops p) (merge_reply result) → named new ≡ named mid → IfOk result (IsStored p)
      → Stage worker faults made goes named [] (JoinsBy digest who m n u id tops (join_end result)) old new
  joins old mid new result is before live right turned same stored =
      let merged = stage_call worker faults made goes named who at mid new (event.Merge m.number (Some n.number) id tops p) (merge_reply result)
      (λ fs. fs ≡ entries_of who (event.Merge m.number (Some n.number) id tops p) (merge_reply result)) is turned same refl in
      stage_then worker faults made goes named further [] [] (PreparesBoth digest who m n u (Ok p)) _ (JoinsBy digest who m n u id tops (join_end result)) old mid new before merged
      (λ es fs run are. join_called digest who m n u id tops p run.1 result live right stored es fs run.0 are)

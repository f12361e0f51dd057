-- A task that the keeper refused has an entry that the keeper failed.
use Rattle.std.proofs.Common.{◌≡◌, ℕ, Bool, true, false, ◌||◌, List, [], ◌∷◌, ◌++◌, Option, Some, None, Result, Ok, Err, refl, sym, ap, subst, ◌∙◌}
use Rattle.std.specs.Option.{option_and_then}
use Rattle.cd_base.specs.declared.hash.Hash256.{Hash256}
use Rattle.cd_base.specs.declared.answers.Memory.{Memory}
use Rattle.cd_block.specs.declared.block.BlockId.{BlockId}
use Rattle.cd_cell.specs.Tree.{Tree}
use Rattle.cd_event.specs.declared.names.Who.{Who}
use Rattle.cd_event.specs.declared.entry.Entry.{Entry}
use Rattle.cd_event.specs.declared.entry.Reply.TheVariants as reply
use Rattle.cd_event.specs.declared.refusal.Refusal.{Refusal}
use Rattle.cd_event.specs.declared.refusal.Refusal.TheVariants as refusal
use Rattle.cd_event.specs.Pins.{Named}
use Rattle.cd_event.specs.Looks.{looks, failed_look}
use Rattle.cd_event.specs.Turning.{is_keeper}
use Rattle.cd_feed.specs.declared.feed.Task.{Task}
use Rattle.cd_feed.specs.declared.feed.Task.TheVariants as task
use Rattle.cd_update.specs.declared.update_fault.UpdateFault.{UpdateFault}
use Rattle.cd_update.specs.declared.update_fault.UpdateFault.TheVariants as update
use Rattle.cd_prepare.specs.declared.prepare_fault.PrepareFault.{PrepareFault}
use Rattle.cd_prepare.specs.declared.prepare_fault.PrepareFault.TheVariants as prepare
use Rattle.cd_run.specs.declared.outcome.Outcome.{Outcome}
use Rattle.cd_run.specs.declared.outcome.Outcome.TheVariants as outcome
use Rattle.cd_run.specs.declared.outcome.TaskRefusal.{TaskRefusal}
use Rattle.cd_run.specs.declared.outcome.TaskRefusal.TheVariants as word
use Rattle.cd_run.specs.Words.{word_of, update_word, prepare_word}
use Rattle.cd_run.specs.Prepared.{HasNoState, HasNoUpdate, no_bag, no_state, no_bag_of_update, no_update}
use Rattle.cd_run.specs.Runs.{has_failed, unpinned_as, let_go_end, ZeroRun, ExpireRun, UnmergedRun, BlockRun, UnjoinedRun, MergedRun, LooksRun, PinRun, IsFewFor, IsAnyNumber, TaskRun, TaskAnswers, both_looks, zero_unprepared, zero_stored, zero_refused, expired, expire_refused, old_unseen, unprepared, unmerged, block_unread, parent_not_pinned, block_stored, block_refused, left_unseen, right_unseen, not_joined, join_refused, merged_unread, left_not_pinned, right_not_pinned, merged_stored, merged_refused, looked, look_failed, block_not_pinned, let_go}
use Rattle.cd_run.specs.Finds.{ReadFinds, SliceFinds, ServeFinds}
use Rattle.cd_run.proofs.StageLaws.{failed_first, failed_last}

abbrev pub word_in : Outcome → TaskRefusal
word_in (outcome.Refused why) = why
word_in _ = word.Bag

same_word : (end : Outcome) (why : TaskRefusal) → end ≡ outcome.Refused why → end ≡ outcome.Refused word.Keeper → why ≡ word.Keeper
same_word end why is bad = ap word_in (sym is ∙ bad)

no_prepare : (fault : PrepareFault) → prepare_word fault ≡ Some word.Keeper → ⊥
no_prepare (prepare.Roots roots) bad = cc
no_prepare (prepare.Level mask) bad = cc
no_prepare (prepare.OldHash stated real) bad = cc
no_prepare (prepare.OldDepth stated real) bad = cc
no_prepare (prepare.OldHalf hash stored shown) bad = cc
no_prepare (prepare.Foreign hash) bad = cc
no_prepare (prepare.NewClash hash) bad = cc
no_prepare (prepare.SplitDeep depth) bad = cc
no_prepare prepare.Memory bad = cc

no_prepared : (fault : Option PrepareFault) → option_and_then prepare_word fault ≡ Some word.Keeper → ⊥
no_prepared None bad = cc
no_prepared (Some fault) bad = no_prepare fault bad

no_update_word : (fault : UpdateFault) → update_word fault ≡ word.Keeper → ⊥
no_update_word update.NotUpdate bad = cc
no_update_word (update.Level mask) bad = cc

failed_refusal : (r : Refusal) → word_of r ≡ Some word.Keeper → is_keeper (Some (reply.Refused r)) ≡ true
failed_refusal refusal.Known bad = cc
failed_refusal (refusal.Lineage fault) bad = cc
failed_refusal (refusal.ZeroHash stated real) bad = cc
failed_refusal (refusal.Clash hash stored offered) bad = cc
failed_refusal (refusal.CountFull hash count) bad = cc
failed_refusal refusal.UnknownBlock bad = cc
failed_refusal refusal.PinsFull bad = cc
failed_refusal refusal.NoPin bad = cc
failed_refusal refusal.WrongPin bad = cc
failed_refusal refusal.NotMaster bad = cc
failed_refusal (refusal.TopMissing top) bad = cc
failed_refusal refusal.Keeper is = refl

module _ (digest : List ℕ → Hash256) (bag : List ℕ) where
  no_state_word : (why : TaskRefusal) → HasNoState digest bag why → why ≡ word.Keeper → ⊥
  no_state_word why (no_bag fault a is) bad = let no : word.Bag ≡ word.Keeper = sym is ∙ bad in cc
  no_state_word why (no_state trees fault a b is) bad = no_prepare fault (is ∙ ap (λ v. Some v) bad)

  no_update_of : (why : TaskRefusal) → HasNoUpdate digest bag why → why ≡ word.Keeper → ⊥
  no_update_of why (no_bag_of_update fault a is) bad = let no : word.Bag ≡ word.Keeper = sym is ∙ bad in cc
  no_update_of why (no_update trees fault a b is) bad = no_update_word fault (sym is ∙ bad)

abbrev pub ok_in : Result Outcome Memory → Outcome
ok_in (Ok end) = end
ok_in (Err memory) = outcome.Refused word.Bag

module _ {H : Type 0} (digest : List ℕ → Hash256) (who : Who) where
  moved : (es fs : List (Entry H)) → es ≡ fs → has_failed fs ≡ true → has_failed es ≡ true
  moved es fs is failed = subst (λ l. has_failed l ≡ true) (sym is) failed

  one : (es : List (Entry H)) (e : Entry H) → es ≡ e ∷ [] → (r : Refusal) (why : TaskRefusal) → e.reply ≡ reply.Refused r → word_of r ≡ Some why → why ≡ word.Keeper → has_failed es ≡ true
  one es e is r why reply_is word_is same =
      moved es (e ∷ []) is (ap (λ b. b || false) (ap (λ a. is_keeper (Some a)) reply_is ∙ failed_refusal r (word_is ∙ ap (λ v. Some v) same)))

  last_one : (es fs : List (Entry H)) (e : Entry H) → es ≡ fs ++ e ∷ [] → (r : Refusal) (why : TaskRefusal) → e.reply ≡ reply.Refused r → word_of r ≡ Some why → why ≡ word.Keeper → has_failed es ≡ true
  last_one es fs e is r why reply_is word_is same = moved es (fs ++ e ∷ []) is (failed_last fs (e ∷ []) (one (e ∷ []) e refl r why reply_is word_is same))

  of_zero : (id : BlockId) (tops : List BlockId) (bag : List ℕ) (es : List (Entry H)) (end : Outcome) → ZeroRun digest who id tops bag es end → end ≡ outcome.Refused word.Keeper → has_failed es ≡ true
  of_zero id tops bag es end (zero_unprepared why a is c) bad = absurd (no_state_word digest bag why a (same_word end why c bad))
  of_zero id tops bag es end (zero_stored p a is c) bad = let no = sym c ∙ bad in cc
  of_zero id tops bag es end (zero_refused p r why a is c d) bad = one es _ is r why refl c (same_word end why d bad)

  of_expire : (id : BlockId) (es : List (Entry H)) (end : Outcome) → ExpireRun who id es end → end ≡ outcome.Refused word.Keeper → has_failed es ≡ true
  of_expire id es end (expired gone is c) bad = let no = sym c ∙ bad in cc
  of_expire id es end (expire_refused r why is c d) bad = one es _ is r why refl c (same_word end why d bad)

  of_unmerged : (m : Named) (u : Tree) (id : BlockId) (tops : List BlockId) (es : List (Entry H)) (why : TaskRefusal) → UnmergedRun digest who m u id tops es why → why ≡ word.Keeper
      → has_failed es ≡ true
  of_unmerged m u id tops es why (old_unseen asked last is a) same = moved es _ is (failed_last (looks who m.number asked) (failed_look who m.number last ∷ []) refl)
  of_unmerged m u id tops es why (unprepared asked a is) same = absurd (no_prepared _ (a.by_faces ∙ ap (λ v. Some v) same))
  of_unmerged m u id tops es why (unmerged asked p r a is b) same = last_one es (looks who m.number asked) _ is r why refl b same

  of_block : (pins : List Named) (id parent : BlockId) (tops : List BlockId) (bag : List ℕ) (es : List (Entry H)) (end : Outcome) → BlockRun digest pins who id parent tops bag es end
      → end ≡ outcome.Refused word.Keeper → has_failed es ≡ true
  of_block pins id parent tops bag es end (block_unread why a is c) bad = absurd (no_update_of digest bag why a (same_word end why c bad))
  of_block pins id parent tops bag es end (parent_not_pinned u r why a is b c) bad = one es _ is r why refl b (same_word end why c bad)
  of_block pins id parent tops bag es end (block_stored u m rest a b run is) bad = let no = sym run.end_is ∙ bad in cc
  of_block pins id parent tops bag es end (block_refused u m rest why answer a b run is c) bad =
      moved es _ is (failed_first rest _ (of_unmerged m u id tops rest why run (same_word end why c bad)))

  of_unjoined : (m n : Named) (u : Tree) (id : BlockId) (tops : List BlockId) (es : List (Entry H)) (why : TaskRefusal) → UnjoinedRun digest who m n u id tops es why → why ≡ word.Keeper
      → has_failed es ≡ true
  of_unjoined m n u id tops es why (left_unseen asked last is a) same = moved es _ is (failed_last (looks who m.number asked) (failed_look who m.number last ∷ []) refl)
  of_unjoined m n u id tops es why (right_unseen left right last is a) same = moved es _ is (failed_last (both_looks who m n left right) (failed_look who n.number last ∷ []) refl)
  of_unjoined m n u id tops es why (not_joined left right a is) same = absurd (no_prepared _ (a.by_faces ∙ ap (λ v. Some v) same))
  of_unjoined m n u id tops es why (join_refused left right p r a is b) same = last_one es (both_looks who m n left right) _ is r why refl b same

  of_merged : (pins : List Named) (id left right : BlockId) (tops : List BlockId) (bag : List ℕ) (es : List (Entry H)) (end : Outcome) → MergedRun digest pins who id left right tops bag es end
      → end ≡ outcome.Refused word.Keeper → has_failed es ≡ true
  of_merged pins id left right tops bag es end (merged_unread why a is c) bad = absurd (no_update_of digest bag why a (same_word end why c bad))
  of_merged pins id left right tops bag es end (left_not_pinned u r why a is b c) bad = one es _ is r why refl b (same_word end why c bad)
  of_merged pins id left right tops bag es end (right_not_pinned u m r why answer a b is c d) bad =
      moved es _ is (ap (λ b. b || has_failed (unpinned_as {H = H} who m.number answer ∷ [])) (failed_refusal r (c ∙ ap (λ v. Some v) (same_word end why d bad))))
  of_merged pins id left right tops bag es end (merged_stored u m n rest a b c run is) bad = let no = sym run.end_is ∙ bad in cc
  of_merged pins id left right tops bag es end (merged_refused u m n rest why first second a b c run is d) bad =
      moved es _ is (failed_first rest _ (of_unjoined m n u id tops rest why run (same_word end why d bad)))

  module _ (Few : ℕ → Type 0) (Finds : Option Tree → Outcome → Type 0) (never : (told : Option Tree) → Finds told (outcome.Refused word.Keeper) → ⊥) where
    of_work : (m : Named) (es : List (Entry H)) (end : Outcome) → LooksRun Few Finds who m es end → end ≡ outcome.Refused word.Keeper → has_failed es ≡ true
    of_work m es end (looked asked few a is) bad = absurd (never m.tree (subst (Finds m.tree) bad a))
    of_work m es end (look_failed asked last few is a) bad = moved es _ is (failed_last (looks who m.number asked) (failed_look who m.number last ∷ []) refl)

    -- of the work under a pin, and the unpin behind it
    of_end : (m : Named) (es : List (Entry H)) (found : Outcome) (answer : Option Bool) → LooksRun Few Finds who m es found
        → let_go_end found answer ≡ outcome.Refused word.Keeper → has_failed (es ++ unpinned_as who m.number answer ∷ []) ≡ true
    of_end m es found (Some collected) run bad = failed_first es _ (of_work m es found run bad)
    of_end m es found None run bad = failed_last es (unpinned_as who m.number None ∷ []) refl

    of_pin : (pins : List Named) (id : BlockId) (es : List (Entry H)) (end : Outcome) → PinRun Few Finds pins who id es end → end ≡ outcome.Refused word.Keeper → has_failed es ≡ true
    of_pin pins id es end (block_not_pinned r why is c d) bad = one es _ is r why refl c (same_word end why d bad)
    of_pin pins id es end (let_go m rest found answer a run is b) bad = moved es _ is (of_end m rest found answer run (sym b ∙ bad))

  of_run : (pins : List Named) (job : Task) (es : List (Entry H)) (end : Outcome) → TaskRun digest pins who job es end → end ≡ outcome.Refused word.Keeper → has_failed es ≡ true
  of_run pins (task.Zero id tops bag) es end run bad = of_zero id tops bag es end run bad
  of_run pins (task.Block id parent tops bag) es end run bad = of_block pins id parent tops bag es end run bad
  of_run pins (task.Expire id) es end run bad = of_expire id es end run bad
  of_run pins (task.Read id path) es end run bad = of_pin (IsFewFor path) (ReadFinds digest path) (λ told no. no) pins id es end run bad
  of_run pins (task.Slice id max) es end run bad = of_pin IsAnyNumber (SliceFinds digest max) (λ told no. no) pins id es end run bad
  of_run pins (task.Serve id max) es end run bad = of_pin IsAnyNumber (ServeFinds digest) (λ told no. no) pins id es end run bad
  of_run pins (task.Merged id left right tops bag) es end run bad = of_merged pins id left right tops bag es end run bad

  pub keeper_failed : (pins : List Named) (job : Task) (es : List (Entry H)) (result : Result Outcome Memory) → TaskAnswers digest pins who job es result
      → result ≡ Ok (outcome.Refused word.Keeper) → has_failed es ≡ true
  keeper_failed pins job es (Ok end) run bad = of_run pins job es end run (ap ok_in bad)
  keeper_failed pins job es (Err memory) begun bad = cc

-- What the calls of a task come to.
use Rattle.std.proofs.Common.{inl, ℕ, List, [], Result, Ok, Err, IfOk, refl}
use Rattle.std.specs.Option.{option_and_then}
use Rattle.cd_base.specs.declared.hash.Hash256.{Hash256}
use Rattle.cd_base.specs.declared.answers.Memory.{Memory}
use Rattle.cd_block.specs.declared.block.BlockId.{BlockId}
use Rattle.cd_cell.specs.PreparedView.{PreparedView}
use Rattle.cd_event.specs.declared.names.Who.{Who}
use Rattle.cd_event.specs.declared.answers.Stored.{Stored}
use Rattle.cd_event.specs.declared.event.Event.TheVariants as event
use Rattle.cd_event.specs.declared.entry.Entry.{Entry}
use Rattle.cd_event.specs.declared.refusal.Refusal.TheVariants as refusal
use Rattle.cd_event.specs.declared.faults.ZeroFault.{ZeroFault}
use Rattle.cd_event.specs.declared.faults.ZeroFault.TheVariants as zero
use Rattle.cd_event.specs.declared.faults.ExpireFault.{ExpireFault}
use Rattle.cd_event.specs.declared.faults.ExpireFault.TheVariants as expire
use Rattle.cd_event.specs.Replies.{entries_of, zero_reply, zero_refusal, expire_reply, expire_refusal}
use Rattle.cd_event.specs.Pins.{Named}
use Rattle.cd_event.specs.Turning.{IsStored}
use Rattle.cd_feed.specs.declared.feed.Task.{Task}
use Rattle.cd_feed.specs.declared.feed.Task.TheVariants as task
use Rattle.cd_run.specs.declared.outcome.Outcome.{Outcome}
use Rattle.cd_run.specs.declared.outcome.Outcome.TheVariants as outcome
use Rattle.cd_run.specs.declared.outcome.TaskRefusal.TheVariants as word
use Rattle.cd_run.specs.declared.words.Stop.{Stop}
use Rattle.cd_run.specs.declared.words.Stop.TheVariants as stop
use Rattle.cd_run.specs.Words.{word_of}
use Rattle.cd_run.specs.Ends.{ended, stop_end}
use Rattle.cd_run.specs.Prepared.{IsStateOf}
use Rattle.cd_run.specs.Stages.{StateBy, Stage}
use Rattle.cd_run.specs.Runs.{TaskAnswers, Did, zero_unprepared, zero_stored, zero_refused, expired, expire_refused}
use Rattle.cd_run.proofs.KeeperLaws.{keeper_failed}

-- a stage is a task's, where its entries are
pub did_by : {S H : Type 0} (digest : List ℕ → Hash256) (worker faults : S → ℕ) (made : S → List (Entry H)) (goes : S → S → Type 0) (named : S → List Named)
    (who : Who) (job : Task) (pins : List Named) (old new : S) (result : Result Outcome Memory)
    → Stage worker faults made goes named pins (λ es. TaskAnswers digest (named new) who job es result) old new → Did digest worker faults made goes named who job old new result
did_by digest worker faults made goes named who job pins old new result stage = record {
  same_worker = stage.same_worker;
  went = stage.went;
  pins = pins;
  pinned = stage.pinned;
  entries = stage.entries;
  added = stage.added;
  answers = stage.are;
  caused = stage.caused;
  cause = λ refused. stage.caused.rose (keeper_failed digest who (named new) job stage.entries result stage.are refused);
}

abbrev pub zero_end : Result Stored ZeroFault → Result Outcome Memory
zero_end (Ok stored) = Ok (outcome.Zero stored.root stored.cells)
zero_end (Err fault) = ended (option_and_then word_of (zero_refusal fault))

abbrev pub expire_end : Result ℕ ExpireFault → Result Outcome Memory
expire_end (Ok gone) = Ok (outcome.Expire gone)
expire_end (Err fault) = ended (option_and_then word_of (expire_refusal fault))

module _ (H : Type 0) (digest : List ℕ → Hash256) (pins : List Named) (who : Who) where
  pub zero_stopped : (id : BlockId) (tops : List BlockId) (bag : List ℕ) (why : Stop) → StateBy digest bag (Err why) → TaskAnswers {H = H} digest pins who (task.Zero id tops bag) [] (stop_end why)
  zero_stopped id tops bag (stop.Refused why) is = zero_unprepared why is refl refl
  zero_stopped id tops bag stop.Memory is = inl refl

  pub zero_called : (id : BlockId) (tops : List BlockId) (bag : List ℕ) (p : PreparedView) → IsStateOf digest bag p → (result : Result Stored ZeroFault) → IfOk result (IsStored p)
      → TaskAnswers {H = H} digest pins who (task.Zero id tops bag) (entries_of who (event.Zero id tops p) (zero_reply result)) (zero_end result)
  zero_called id tops bag p is (Ok stored) same = zero_stored p is refl (λ i. outcome.Zero (same.root i) (same.cells i))
  zero_called id tops bag p is (Err zero.Known) same = zero_refused p refusal.Known word.Known is refl refl refl
  zero_called id tops bag p is (Err (zero.Lineage fault)) same = zero_refused p (refusal.Lineage fault) word.Lineage is refl refl refl
  zero_called id tops bag p is (Err (zero.ZeroHash stated real)) same = zero_refused p (refusal.ZeroHash stated real) word.ZeroHash is refl refl refl
  zero_called id tops bag p is (Err (zero.Clash hash stored offered)) same = zero_refused p (refusal.Clash hash stored offered) word.Clash is refl refl refl
  zero_called id tops bag p is (Err (zero.CountFull hash count)) same = zero_refused p (refusal.CountFull hash count) word.CountFull is refl refl refl
  zero_called id tops bag p is (Err zero.Keeper) same = zero_refused p refusal.Keeper word.Keeper is refl refl refl
  zero_called id tops bag p is (Err zero.Memory) same = inl refl

  pub expire_called : (id : BlockId) (result : Result ℕ ExpireFault) → TaskAnswers {H = H} digest pins who (task.Expire id) (entries_of who (event.Expire id) (expire_reply result)) (expire_end result)
  expire_called id (Ok gone) = expired gone refl refl
  expire_called id (Err expire.UnknownBlock) = expire_refused refusal.UnknownBlock word.UnknownBlock refl refl refl
  expire_called id (Err expire.NotMaster) = expire_refused refusal.NotMaster word.NotMaster refl refl refl
  expire_called id (Err (expire.TopMissing top)) = expire_refused (refusal.TopMissing top) word.TopMissing refl refl refl
  expire_called id (Err expire.Keeper) = expire_refused refusal.Keeper word.Keeper refl refl refl
  expire_called id (Err expire.Memory) = inl refl

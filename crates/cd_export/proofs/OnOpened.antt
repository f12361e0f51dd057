-- What a task that is done on an opened core makes of it: its entries are all that there are.
use Rattle.std.proofs.Common.{◌≡◌, ℕ, ◌≤◌, List, [], ◌++◌, Option, Result, sym, ap, subst, ◌∙◌}
use Rattle.cd_base.specs.declared.answers.Memory.{Memory}
use Rattle.cd_base.specs.declared.hash.Hash256.{Hash256}
use Rattle.cd_block.specs.declared.block.BlockId.{BlockId}
use Rattle.cd_keeper.specs.Contents.{Contents}
use Rattle.cd_event.specs.declared.entry.Entry.{Entry}
use Rattle.cd_event.specs.Pins.{Named}
use Rattle.cd_event.specs.Turning.{RisesOnly}
use Rattle.cd_core.specs.Cores.{CoreView}
use Rattle.cd_core.specs.Workers.{made_by, named_by, GoesOn}
use Rattle.cd_feed.specs.declared.feed.Task.TheVariants as task
use Rattle.cd_feed.specs.Feeds.{IsTaskFit}
use Rattle.cd_run.specs.declared.outcome.Outcome.{Outcome}
use Rattle.cd_run.specs.Runs.{TaskAnswers, has_failed}
use Rattle.cd_command.specs.Naming.{first_task}
use Rattle.cd_export.specs.Serving.{ServedOn}

pub serve-fit : (id : BlockId) (max : ℕ) → 1 ≤ max → max ≤ 2097152 → IsTaskFit (task.Serve id max)
unfolding IsTaskFit
serve-fit id max some most = record { some = some; most = most }

module _ {K X : Type 0} (worker : ℕ) (a b : CoreView K X) (entries : List (Entry X)) where
  entries-are : a.journal ≡ [] → GoesOn worker a b → made_by worker b.journal ≡ made_by worker a.journal ++ entries → b.journal ≡ entries
  entries-are none went added =
      let journal : b.journal ≡ went.more = went.journal ∙ ap (λ (es : List (Entry X)). es ++ went.more) none in
      journal ∙ (sym went.own ∙ (ap (made_by worker) (sym journal) ∙ (added ∙ ap (λ (es : List (Entry X)). made_by worker es ++ entries) none)))

pub served-on : {K X : Type 0} (H : List ℕ → Hash256) (held : K → Option Contents) (faults : K → ℕ) (id : BlockId) (max n m : ℕ) (a b : CoreView K X)
    (entries : List (Entry X)) (end : Result Outcome Memory) → n ≡ 0 → m ≡ n → a.journal ≡ [] → GoesOn n a b → made_by m b.journal ≡ made_by n a.journal ++ entries
    → TaskAnswers H (named_by H held m b.start b.journal) first_task (task.Serve id max) entries end → RisesOnly (has_failed entries) (faults a.keeper) (faults b.keeper)
    → ServedOn H held faults id max a b end
served-on {K} {X} H held faults id max n m a b entries end first same none went added answers caused =
    let are : b.journal ≡ entries = entries-are n a b entries none went (ap (λ i. made_by i b.journal) (sym same) ∙ added) in
    record {
      start = went.start;
      answers = subst (λ (pins : List Named). TaskAnswers H pins first_task (task.Serve id max) b.journal end) (ap (λ i. named_by H held i b.start b.journal) (same ∙ first))
          (subst (λ (es : List (Entry X)). TaskAnswers H (named_by H held m b.start b.journal) first_task (task.Serve id max) es end) (sym are) answers);
      caused = subst (λ (es : List (Entry X)). RisesOnly (has_failed es) (faults a.keeper) (faults b.keeper)) (sym are) caused;
    }

-- What a task did under some pins it did under them and more.
use Rattle.std.proofs.Common.{◌≡◌, inl, inr, ⊎_elim, ℕ, ◌==◌, List, [], ◌++◌, Option, Some, ap, ◌∙◌}
use Rattle.std.specs.Option.{option_or}
use Rattle.std.proofs.lemmas.List.Folds.{find-append}
use Rattle.cd_base.specs.declared.hash.Hash256.{Hash256}
use Rattle.cd_block.specs.declared.block.BlockId.{BlockId}
use Rattle.cd_cell.specs.Tree.{Tree}
use Rattle.cd_event.specs.declared.names.Who.{Who}
use Rattle.cd_event.specs.declared.entry.Entry.{Entry}
use Rattle.cd_event.specs.Pins.{Named, find_pin}
use Rattle.cd_feed.specs.declared.feed.Task.{Task}
use Rattle.cd_feed.specs.declared.feed.Task.TheVariants as task
use Rattle.cd_run.specs.declared.outcome.Outcome.{Outcome}
use Rattle.cd_run.specs.Runs.{BlockRun, MergedRun, PinRun, IsFewFor, IsAnyNumber, TaskRun, TaskEvents, TaskBegun, block_unread, parent_not_pinned, block_stored, block_refused, merged_unread, left_not_pinned, right_not_pinned, merged_stored, merged_refused, block_not_pinned, let_go}
use Rattle.cd_run.specs.Finds.{ReadFinds, SliceFinds, ServeFinds}

pub found : (pins more : List Named) (n : ℕ) (m : Named) → find_pin pins n ≡ Some m → find_pin (pins ++ more) n ≡ Some m
found pins more n m is = find-append (λ x. x.number == n) pins more ∙ ap (λ o. option_or o (find_pin more n)) is

module _ {X : Type 0} (digest : List ℕ → Hash256) (pins more : List Named) (who : Who) where
  block_with_more : (id parent : BlockId) (tops : List BlockId) (bag : List ℕ) (es : List (Entry X)) (end : Outcome)
      → BlockRun digest pins who id parent tops bag es end → BlockRun digest (pins ++ more) who id parent tops bag es end
  block_with_more id parent tops bag es end (block_unread why a b c) = block_unread why a b c
  block_with_more id parent tops bag es end (parent_not_pinned u r why a b c d) = parent_not_pinned u r why a b c d
  block_with_more id parent tops bag es end (block_stored u m rest a is b c) = block_stored u m rest a (found pins more m.number m is) b c
  block_with_more id parent tops bag es end (block_refused u m rest why answer a is b c d) =
      block_refused u m rest why answer a (found pins more m.number m is) b c d

  merged_with_more : (id left right : BlockId) (tops : List BlockId) (bag : List ℕ) (es : List (Entry X)) (end : Outcome)
      → MergedRun digest pins who id left right tops bag es end → MergedRun digest (pins ++ more) who id left right tops bag es end
  merged_with_more id left right tops bag es end (merged_unread why a b c) = merged_unread why a b c
  merged_with_more id left right tops bag es end (left_not_pinned u r why a b c d) = left_not_pinned u r why a b c d
  merged_with_more id left right tops bag es end (right_not_pinned u m r why answer a is b c d) =
      right_not_pinned u m r why answer a (found pins more m.number m is) b c d
  merged_with_more id left right tops bag es end (merged_stored u m n rest a is its b c) =
      merged_stored u m n rest a (found pins more m.number m is) (found pins more n.number n its) b c
  merged_with_more id left right tops bag es end (merged_refused u m n rest why first second a is its b c d) =
      merged_refused u m n rest why first second a (found pins more m.number m is) (found pins more n.number n its) b c d

  pin_with_more : (Few : ℕ → Type 0) (Finds : Option Tree → Outcome → Type 0) (id : BlockId) (es : List (Entry X)) (end : Outcome)
      → PinRun Few Finds pins who id es end → PinRun Few Finds (pins ++ more) who id es end
  pin_with_more Few Finds id es end (block_not_pinned r why a b c) = block_not_pinned r why a b c
  pin_with_more Few Finds id es end (let_go m rest way answer is a b c) = let_go m rest way answer (found pins more m.number m is) a b c

  pub run_with_more : (job : Task) (es : List (Entry X)) (end : Outcome) → TaskRun digest pins who job es end → TaskRun digest (pins ++ more) who job es end
  run_with_more (task.Zero id tops bag) es end run = run
  run_with_more (task.Block id parent tops bag) es end run = block_with_more id parent tops bag es end run
  run_with_more (task.Expire id) es end run = run
  run_with_more (task.Read id path) es end run = pin_with_more (IsFewFor path) (ReadFinds digest path) id es end run
  run_with_more (task.Slice id max) es end run = pin_with_more IsAnyNumber (SliceFinds digest max) id es end run
  run_with_more (task.Serve id max) es end run = pin_with_more IsAnyNumber (ServeFinds digest) id es end run
  run_with_more (task.Merged id left right tops bag) es end run = merged_with_more id left right tops bag es end run

  pub begun_with_more : (job : Task) (es : List (Entry X)) → TaskBegun digest pins who job es → TaskBegun digest (pins ++ more) who job es
  begun_with_more job es begun = ⊎_elim (λ (none : es ≡ []). inl none)
      (λ (some : (rest : List (Entry X)) × TaskEvents digest pins who job (es ++ rest)).
      inr (some.0, (some.1.0, run_with_more job (es ++ some.0) some.1.0 some.1.1))) begun

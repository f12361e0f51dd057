-- The ways of a serve on an opened core: its entries, and how each ends.
use Rattle.std.proofs.Common.{◌≡◌, ◌⊎◌, inl, inr, ℕ, Bool, true, false, not, List, [], ◌∷◌, ◌++◌, Option, Some, None, Result, Ok, Err, IfSome, refl, sym, ap, subst, ◌∙◌, append-nil}
use Rattle.std.specs.Prelude.{nat_lt}
use Rattle.std.specs.Option.{option_or}
use Rattle.std.proofs.lemmas.Option.{same_Some}
use Rattle.cd_base.specs.declared.answers.Memory.{Memory}
use Rattle.cd_base.specs.declared.hash.Hash256.{Hash256}
use Rattle.cd_block.specs.declared.block.BlockId.{BlockId}
use Rattle.cd_block.specs.declared.description.Descr.{Descr}
use Rattle.cd_cell.specs.Tree.{Tree}
use Rattle.cd_event.specs.declared.entry.Entry.{Entry}
use Rattle.cd_event.specs.declared.entry.Reply.TheVariants as reply
use Rattle.cd_event.specs.declared.refusal.Refusal.{Refusal}
use Rattle.cd_event.specs.declared.refusal.Refusal.TheVariants as store
use Rattle.cd_event.specs.Looks.{looks, failed_look}
use Rattle.cd_event.specs.Pins.{Named, find_pin}
use Rattle.cd_feed.specs.declared.feed.Task.TheVariants as task
use Rattle.cd_world.specs.declared.limits.TheConstants.{MOST_PINS}
use Rattle.cd_world.specs.declared.world.World.{World}
use Rattle.cd_world.specs.Following.{AllFollow, Follows}
use Rattle.cd_world.specs.Machine.{answered, refused_if, unpinnable}
use Rattle.cd_world.specs.Standing.{kept_at, pins_of}
use Rattle.cd_run.specs.declared.outcome.Outcome.{Outcome}
use Rattle.cd_run.specs.declared.outcome.Outcome.TheVariants as outcome
use Rattle.cd_run.specs.declared.outcome.TaskRefusal.{TaskRefusal}
use Rattle.cd_run.specs.declared.outcome.TaskRefusal.TheVariants as word
use Rattle.cd_run.specs.Finds.{IsExported, IsTooBig, ServeFinds}
use Rattle.cd_run.specs.Runs.{PinRun, TaskAnswers, TaskBegun, IsAnyNumber, has_failed, let_go_end, pinned_as, not_pinned, unpinned_as, block_not_pinned, let_go, looked, look_failed}
use Rattle.cd_run.specs.Words.{word_of}
use Rattle.cd_run.proofs.StageLaws.{failed_first, failed_last}
use Rattle.cd_command.specs.Naming.{first_task}
use Rattle.cd_export.specs.ExportCall.{AreEntries, AreBegun, served, unserved}
use Rattle.cd_export.specs.Telling.{IsServeEnd}

-- the ways, by what is told of the block's state
pub data ServeRun (H : List ℕ → Hash256) {X : Type 0} (id : BlockId) (told : Option Tree) (es : List (Entry X)) (end : Outcome) : Type 0 where
  no_block : es ≡ not_pinned first_task id store.UnknownBlock ∷ [] → end ≡ outcome.Refused word.UnknownBlock → ServeRun H id told es end
  pins_full : es ≡ not_pinned first_task id store.PinsFull ∷ [] → end ≡ outcome.Refused word.PinsFull → ServeRun H id told es end
  sent : (pin : ℕ) (asked : List ℕ) (collected : Bool) (bytes done failed : ℕ) → es ≡ served id pin asked (Some collected) → IfSome told (IsExported H bytes)
      → end ≡ outcome.Serve bytes done failed → ServeRun H id told es end
  too_big : (pin : ℕ) (asked : List ℕ) (answer : Option Bool) → es ≡ served id pin asked answer → IfSome told (IsTooBig H)
      → end ≡ outcome.Refused word.TooMany → ServeRun H id told es end
  keeper_failed : AreEntries id es → has_failed es ≡ true → end ≡ outcome.Refused word.Keeper → ServeRun H id told es end

module _ {X : Type 0} where
  -- answered looks failed nowhere
  pub failed-behind : (pin : ℕ) (asked : List ℕ) (es : List (Entry X)) → has_failed (looks first_task pin asked ++ es) ≡ has_failed es
  failed-behind pin [] es = refl
  failed-behind pin (n ∷ ns) es = failed-behind pin ns es

  module _ (H : List ℕ → Hash256) (id : BlockId) where
    -- a pin is refused for its block, or for the number of pins, and for nothing else
    pin-refusals : (w : World) (why : Refusal) → Follows H w (not_pinned {H = X} first_task id why) → (why ≡ store.UnknownBlock) ⊎ (why ≡ store.PinsFull)
    pin-refusals w why (Some r, may, by) = absurd may.0
    pin-refusals w why (None, may, inr failed) = absurd (let asks = failed.asks in cc)
    pin-refusals w why (None, may, inl same) = by (kept_at w id) same
      where
        full : (b : Bool) → reply.Refused why ≡ answered (option_or (refused_if (not b) store.PinsFull) None) (reply.Pinned w.next)
            → (why ≡ store.UnknownBlock) ⊎ (why ≡ store.PinsFull)
        full true is = absurd (let no = is in cc)
        full false is = inr cc

        by : (o : Option Descr) → reply.Refused why ≡ answered (option_or (unpinnable w 0 o) None) (reply.Pinned w.next)
            → (why ≡ store.UnknownBlock) ⊎ (why ≡ store.PinsFull)
        by None is = inl cc
        by (Some d) is = full (nat_lt (pins_of w 0) MOST_PINS) is

    -- ---- from the ways of a task under a pin

    entries-run : (pins : List Named) (es : List (Entry X)) (end : Outcome) → PinRun IsAnyNumber (ServeFinds H) pins first_task id es end → AreEntries id es
    entries-run pins es end (block_not_pinned r why es_is is_word end_is) = inl (r, es_is)
    entries-run pins es end (let_go m rest found answer at (looked asked few finds rest_is) es_is end_is) =
        inr (inl (m.number, asked, answer, es_is ∙ ap (λ (l : List (Entry X)). pinned_as first_task id m.number ∷ (l ++ unpinned_as first_task m.number answer ∷ [])) rest_is))
    entries-run pins es end (let_go m rest found answer at (look_failed asked last few rest_is found_is) es_is end_is) =
        inr (inr (m.number, asked, last, answer, es_is ∙ ap (λ (l : List (Entry X)). pinned_as first_task id m.number ∷ (l ++ unpinned_as first_task m.number answer ∷ [])) rest_is))

    pub whole-begun : (es : List (Entry X)) → AreEntries id es → AreBegun id es
    whole-begun es are = ([], subst (AreEntries id) (sym (append-nil es)) are)

    begun-run : (pins : List Named) (max : ℕ) (es : List (Entry X)) → TaskBegun H pins first_task (task.Serve id max) es → AreBegun id es
    begun-run pins max es (inl none) =
        (not_pinned first_task id store.UnknownBlock ∷ [], inl (store.UnknownBlock, ap (λ (l : List (Entry X)). l ++ not_pinned first_task id store.UnknownBlock ∷ []) none))
    begun-run pins max es (inr more) = (more.0, (let run = more.1 in entries-run pins (es ++ more.0) run.0 run.1))

    pub begun-answer : (pins : List Named) (max : ℕ) (es : List (Entry X)) (answer : Result Outcome Memory) → TaskAnswers H pins first_task (task.Serve id max) es answer → AreBegun id es
    begun-answer pins max es (Ok end) run = whole-begun es (entries-run pins es end run)
    begun-answer pins max es (Err memory) begun = begun-run pins max es begun

    module _ (told : Option Tree) (es : List (Entry X)) (end : Outcome) where
      by-found : (pin : ℕ) (asked : List ℕ) (found : Outcome) (answer : Option Bool) → es ≡ served id pin asked answer → ServeFinds H told found
          → end ≡ let_go_end found answer → ServeRun H id told es end
      by-found pin asked (outcome.Serve bytes done failed) (Some collected) is finds end_is = sent pin asked collected bytes done failed is finds end_is
      by-found pin asked (outcome.Serve bytes done failed) None is finds end_is =
          keeper_failed (inr (inl (pin, asked, None, is))) (ap has_failed is ∙ failed-behind pin asked (unpinned_as first_task pin None ∷ [])) end_is
      by-found pin asked (outcome.Refused word.TooMany) (Some collected) is finds end_is = too_big pin asked (Some collected) is finds end_is
      by-found pin asked (outcome.Refused word.TooMany) None is finds end_is = too_big pin asked None is finds end_is
      by-found pin asked found answer is finds end_is = absurd finds

      failed-end : (answer : Option Bool) (found : Outcome) → found ≡ outcome.Refused word.Keeper → end ≡ let_go_end found answer → end ≡ outcome.Refused word.Keeper
      failed-end (Some collected) found is end_is = end_is ∙ is
      failed-end None found is end_is = end_is ∙ ap (λ (f : Outcome). let_go_end f None) is

      failed-run : (pin : ℕ) (asked : List ℕ) (last : ℕ) (answer : Option Bool) → has_failed {H = X} (unserved id pin asked last answer) ≡ true
      failed-run pin asked last answer = failed_first (looks first_task pin asked ++ failed_look first_task pin last ∷ []) (unpinned_as first_task pin answer ∷ [])
          (failed_last (looks first_task pin asked) (failed_look first_task pin last ∷ []) refl)

      unpinned-run : (why : Refusal) (w : TaskRefusal) → (why ≡ store.UnknownBlock) ⊎ (why ≡ store.PinsFull) → es ≡ not_pinned first_task id why ∷ [] → word_of why ≡ Some w
          → end ≡ outcome.Refused w → ServeRun H id told es end
      unpinned-run why w (inl unknown) is is_word end_is = no_block (is ∙ ap (λ (r : Refusal). not_pinned first_task id r ∷ []) unknown)
          (end_is ∙ ap (λ (x : TaskRefusal). outcome.Refused x) (same_Some w word.UnknownBlock (sym is_word ∙ ap word_of unknown)))
      unpinned-run why w (inr full) is is_word end_is = pins_full (is ∙ ap (λ (r : Refusal). not_pinned first_task id r ∷ []) full)
          (end_is ∙ ap (λ (x : TaskRefusal). outcome.Refused x) (same_Some w word.PinsFull (sym is_word ∙ ap word_of full)))

      pub serve-run : (pins : List Named) → ((n : ℕ) (m : Named) → find_pin pins n ≡ Some m → m.tree ≡ told) → (w : World) → AllFollow H w es
          → PinRun IsAnyNumber (ServeFinds H) pins first_task id es end → ServeRun H id told es end
      serve-run pins trees w follow (block_not_pinned r why es_is is_word end_is) =
          unpinned-run r why (pin-refusals w r (let all : AllFollow H w (not_pinned first_task id r ∷ []) = subst (AllFollow H w) es_is follow in all.0)) es_is is_word end_is
      serve-run pins trees w follow (let_go m rest found answer at (looked asked few finds rest_is) es_is end_is) =
          by-found m.number asked found answer
          (es_is ∙ ap (λ (l : List (Entry X)). pinned_as first_task id m.number ∷ (l ++ unpinned_as first_task m.number answer ∷ [])) rest_is)
          (subst (λ (t : Option Tree). ServeFinds H t found) (trees m.number m at) finds) end_is
      serve-run pins trees w follow (let_go m rest found answer at (look_failed asked last few rest_is found_is) es_is end_is) =
          let is : es ≡ unserved id m.number asked last answer =
          es_is ∙ ap (λ (l : List (Entry X)). pinned_as first_task id m.number ∷ (l ++ unpinned_as first_task m.number answer ∷ [])) rest_is in
          keeper_failed (inr (inr (m.number, asked, last, answer, is))) (ap has_failed is ∙ failed-run m.number asked last answer) (failed-end answer found found_is end_is)

-- ---- by its answer

module _ (H : List ℕ → Hash256) {X : Type 0} (id : BlockId) (told : Option Tree) where
  -- its way, or where memory ran out the first entries of one
  abbrev pub ServeAnswers : List (Entry X) → Result Outcome Memory → Type 0
  ServeAnswers es (Ok end) = ServeRun H id told es end
  ServeAnswers es (Err memory) = AreBegun id es

  pub serve-answers : (pins : List Named) → ((n : ℕ) (m : Named) → find_pin pins n ≡ Some m → m.tree ≡ told) → (w : World) (max : ℕ) (es : List (Entry X))
      (answer : Result Outcome Memory) → AllFollow H w es → TaskAnswers H pins first_task (task.Serve id max) es answer → ServeAnswers es answer
  serve-answers pins trees w max es (Ok end) follow run = serve-run H id told es end pins trees w follow run
  serve-answers pins trees w max es (Err memory) follow begun = begun-answer H id pins max es (Err memory) begun

  -- so it has an end that can be told
  pub serve-end : (es : List (Entry X)) (answer : Result Outcome Memory) → ServeAnswers es answer → IsServeEnd answer
  serve-end es (Ok end) (no_block is end_is) = subst (λ (e : Outcome). IsServeEnd (Ok e)) (sym end_is) tt
  serve-end es (Ok end) (pins_full is end_is) = subst (λ (e : Outcome). IsServeEnd (Ok e)) (sym end_is) tt
  serve-end es (Ok end) (sent pin asked collected bytes done failed is long end_is) = subst (λ (e : Outcome). IsServeEnd (Ok e)) (sym end_is) tt
  serve-end es (Ok end) (too_big pin asked answer is big end_is) = subst (λ (e : Outcome). IsServeEnd (Ok e)) (sym end_is) tt
  serve-end es (Ok end) (keeper_failed are failed end_is) = subst (λ (e : Outcome). IsServeEnd (Ok e)) (sym end_is) tt
  serve-end es (Err memory) begun = tt

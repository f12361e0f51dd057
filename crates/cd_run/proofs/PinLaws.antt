-- Tasks under one pin: stages, one after another, come to what their task does.
use Rattle.std.proofs.Common.{◌≡◌, inl, inr, ℕ, ◌+◌, ◌≤◌, ◌==◌, Bool, true, false, ◌||◌, ◌&&◌, not, cond, List, [], ◌∷◌, ◌++◌, sum, Option, Some, None, Result, Ok, Err, IfOk, IfSome, refl, sym, ap, subst, ◌∙◌, append-nil, append_assoc, eq-eqb, arith}
use Rattle.std.specs.Option.{option_and_then}
use Rattle.std.proofs.lemmas.Option.{none-some}
use Rattle.std.proofs.lemmas.List.Sums.{fold-append}
use Rattle.cd_base.specs.declared.hash.Hash256.{Hash256}
use Rattle.cd_base.specs.declared.answers.Memory.{Memory}
use Rattle.cd_block.specs.declared.block.BlockId.{BlockId}
use Rattle.cd_cell.specs.Tree.{Tree, info_of}
use Rattle.cd_event.specs.declared.answers.Pinned.{Pinned}
use Rattle.cd_event.specs.declared.names.Who.{Who}
use Rattle.cd_event.specs.declared.names.At.{At}
use Rattle.cd_event.specs.declared.entry.Entry.{Entry}
use Rattle.cd_event.specs.declared.entry.Reply.TheVariants as reply
use Rattle.cd_event.specs.declared.event.Event.TheVariants as event
use Rattle.cd_event.specs.declared.faults.UnpinFault.{UnpinFault}
use Rattle.cd_event.specs.Replies.{who_of, entry_of, entries_of, pin_reply, unpin_reply}
use Rattle.cd_event.specs.Looks.{looks, failed_look}
use Rattle.cd_event.specs.Pins.{Named, IsState, AddsPin, find_pin, state_of, is_live, live_after}
use Rattle.cd_event.specs.Turning.{Turned, RisesOnly, counted}
use Rattle.cd_feed.specs.declared.feed.Task.{Task}
use Rattle.cd_looks.specs.Answers.{IsRootOf}
use Rattle.cd_run.specs.declared.outcome.Outcome.{Outcome}
use Rattle.cd_run.specs.declared.outcome.Outcome.TheVariants as outcome
use Rattle.cd_run.specs.declared.outcome.TaskRefusal.TheVariants as word
use Rattle.cd_run.specs.declared.pinned.Halt.{Halt}
use Rattle.cd_run.specs.declared.pinned.Halt.TheVariants as halt
use Rattle.cd_run.specs.declared.words.Stop.{Stop}
use Rattle.cd_run.specs.declared.words.Stop.TheVariants as stop
use Rattle.cd_run.specs.Ends.{no_memory, stop_end}
use Rattle.cd_run.specs.Runs.{Did, TaskRun, TaskAnswers, PinRun, has_failed, let_go_end, pinned_as, unpinned_as, looked, look_failed, block_not_pinned, let_go}
use Rattle.cd_run.specs.Stages.{Stage, AreLooks, LetGoBy, LooksFor, Pins, PinsBy, is_halted, work_end}
use Rattle.cd_run.proofs.StageLaws.{whose, failed_both, failed_last, stage_call}
use Rattle.cd_run.proofs.CallLaws.{did_by}

-- a fact that holds of each state, and where none is told
pub by_told : (P : Option Tree → Type 0) (Q : Tree → Type 0) (told : Option Tree) → P None → ((t : Tree) → Q t → P (Some t)) → IfSome told Q → P told
by_told P Q None none some is = none
by_told P Q (Some t) none some is = some t is

-- ---- pins by their numbers

find-more : (xs ys : List Named) (n : ℕ) (m : Named) → find_pin xs n ≡ Some m → find_pin (xs ++ ys) n ≡ Some m
find-more [] ys n m e = absurd (none-some m e)
find-more (x ∷ xs) ys n m e = elim (x.number == n) as (λ b. cond b (Some x) (find_pin xs n) ≡ Some m → cond b (Some x) (find_pin (xs ++ ys) n) ≡ Some m) [
  | true ↦ λ f. f
  | false ↦ λ f. find-more xs ys n m f
] e

find-new : (xs : List Named) (n : ℕ) (m : Named) → m.number ≡ n → find_pin xs n ≡ None → find_pin (xs ++ m ∷ []) n ≡ Some m
find-new [] n m is e = ap (λ b. cond b (Some m) None) (eq-eqb m.number n is)
find-new (x ∷ xs) n m is e = elim (x.number == n) as (λ b. cond b (Some x) (find_pin xs n) ≡ None → cond b (Some x) (find_pin (xs ++ m ∷ []) n) ≡ Some m) [
  | true ↦ λ f. cc
  | false ↦ λ f. find-new xs n m is f
] e

-- a pin that was just given is live
live-pinned : {H : Type 0} (who : Who) (id : BlockId) (pin : ℕ) (made : List (Entry H)) → is_live pin (made ++ entry_of who (event.Pin id) (reply.Pinned pin) ∷ []) ≡ true
live-pinned who id pin made = fold-append (live_after pin) false made _ ∙ ap (λ b. b || (is_live pin made && not false)) (eq-eqb pin pin refl)

-- ---- counts of faults

rises_then : (b c : Bool) (x y z : ℕ) → RisesOnly b x y → RisesOnly c y z → RisesOnly (b || c) x z
rises_then false c x y z a d = subst (λ n. RisesOnly c n z) (a.steady refl) d
rises_then true c x y z a d = record { later = omega (arith, a.later, d.later); steady = λ never. cc; rose = λ _. let up = a.rose refl in omega (arith, up, d.later) }

-- a count that stands still at the last u64 tells a small number of hashes
pub few_asked : (limit count n : ℕ) → limit ≤ 65 → count ≤ counted 0 limit → count ≡ counted 0 n → n ≤ limit
few_asked limit count n small most is = omega (arith, small, most, is)

module _ (H : Type 0) where
  none_failed : (who : Who) (pin : ℕ) (asked : List ℕ) → has_failed {H = H} (looks who pin asked) ≡ false
  none_failed who pin [] = refl
  none_failed who pin (n ∷ ns) = none_failed who pin ns

  last_failed : (who : Who) (pin : ℕ) (asked : List ℕ) (last : ℕ) → has_failed {H = H} (looks who pin asked ++ failed_look who pin last ∷ []) ≡ true
  last_failed who pin asked last = failed_last (looks who pin asked) (failed_look who pin last ∷ []) refl

abbrev pub at_of : Who → At
at_of who = record { phase = who.phase; task = who.task }

-- ---- stages

module _ {S H : Type 0} (worker faults : S → ℕ) (made : S → List (Entry H)) (goes : S → S → Type 0) (named : S → List Named) where
  -- one stage after another
  stage_then : ((x y z : S) → goes x y → goes y z → goes x z) → (p q : List Named) (A B C : List (Entry H) → Type 0) → ((es fs : List (Entry H)) → A es → B fs → C (es ++ fs)) → (x y z : S)
      → Stage worker faults made goes named p A x y → Stage worker faults made goes named q B y z → Stage worker faults made goes named (p ++ q) C x z
  stage_then on p q A B C both x y z a b = record {
    same_worker = b.same_worker ∙ a.same_worker;
    went = on x y z a.went b.went;
    pinned = b.pinned ∙ (ap (λ l. l ++ q) a.pinned ∙ append_assoc (named x) p q);
    entries = a.entries ++ b.entries;
    added = b.added ∙ (ap (λ l. l ++ b.entries) a.added ∙ append_assoc (made x) a.entries b.entries);
    caused = subst (λ f. RisesOnly f (faults x) (faults z)) (sym (failed_both a.entries b.entries)) (rises_then _ _ _ _ _ a.caused b.caused);
    are = both a.entries b.entries a.are b.are;
  }

  -- looks under a pin are a stage
  looked_stage : (Few : ℕ → Type 0) (failed : Bool) (who : Who) (pin : ℕ) (x y : S) (count : ℕ) → ((n : ℕ) → count ≡ counted 0 n → Few n)
      → LooksFor worker faults made goes named failed who pin x y 0 count → Stage worker faults made goes named [] (AreLooks Few failed who pin) x y
  looked_stage Few false who pin x y count few on = record {
    same_worker = on.same.same_worker;
    went = on.same.went;
    pinned = on.same.same_named ∙ sym (append-nil (named x));
    entries = looks who pin on.asked;
    added = on.added;
    caused = subst (λ f. RisesOnly f (faults x) (faults y)) (sym (none_failed H who pin on.asked)) on.same.caused;
    are = (on.asked, few (sum on.asked) on.counts, refl);
  }
  looked_stage Few true who pin x y count few on = record {
    same_worker = on.same.same_worker;
    went = on.same.went;
    pinned = on.same.same_named ∙ sym (append-nil (named x));
    entries = looks who pin on.asked ++ failed_look who pin on.last ∷ [];
    added = on.added;
    caused = subst (λ f. RisesOnly f (faults x) (faults y)) (sym (last_failed H who pin on.asked on.last)) on.same.caused;
    are = (on.asked, on.last, few (sum on.asked + on.last) on.counts, refl);
  }

  pub looks_named : (failed : Bool) (who : Who) (pin : ℕ) (x y : S) (before after : ℕ) → LooksFor worker faults made goes named failed who pin x y before after → named y ≡ named x
  looks_named false who pin x y before after on = on.same.same_named
  looks_named true who pin x y before after on = on.same.same_named

  -- ---- the pin

  module _ (digest : List ℕ → Hash256) (at : At) (id : BlockId) (old new : S) where
    pub pin_came : (pinned : Pinned) → Turned worker faults made goes old new at (event.Pin id) (pin_reply (Ok pinned)) → AddsPin digest (named old) (named new) pinned
        → PinsBy worker faults made goes named (who_of at (worker old)) id old new (Ok pinned)
    pin_came pinned turned adds = record {
      pin = record { number = pinned.pin; root = pinned.root; tree = adds.tree };
      number = refl;
      found = subst (λ l. find_pin l pinned.pin ≡ Some (record { number = pinned.pin; root = pinned.root; tree = adds.tree })) (sym adds.added) (find-new (named old) pinned.pin _ refl adds.fresh);
      stage = record {
        same_worker = turned.same_worker;
        went = turned.went;
        pinned = adds.added;
        entries = pinned_as (who_of at (worker old)) id pinned.pin ∷ [];
        added = turned.entry;
        caused = turned.caused;
        are = refl;
      };
    }

    pub pin_live : (pinned : Pinned) → Turned worker faults made goes old new at (event.Pin id) (pin_reply (Ok pinned)) → is_live pinned.pin (made new) ≡ true
    pin_live pinned turned = ap (is_live pinned.pin) turned.entry ∙ live-pinned (who_of at (worker old)) id pinned.pin (made old)

    pub pin_root : (pinned : Pinned) → AddsPin digest (named old) (named new) pinned → IsRootOf digest (state_of (named new) pinned.pin) pinned.root
    pin_root pinned adds t told =
        let m : Named = record { number = pinned.pin; root = pinned.root; tree = adds.tree } in
        let found : find_pin (named new) pinned.pin ≡ Some m = subst (λ l. find_pin l pinned.pin ≡ Some m) (sym adds.added) (find-new (named old) pinned.pin m refl adds.fresh) in
        let is : adds.tree ≡ Some t = sym (ap (option_and_then (λ n. n.tree)) found) ∙ told in
        sym ((subst (λ o. IfSome o (λ s. IsState digest s × (info_of digest s ≡ pinned.root))) is adds.state).1)

  -- ---- the unpin

  -- an unpin that was answered, and the end of its task
  pub let_go_as : (at : At) (number : ℕ) (old new : S) (end : Outcome) (result : Result Bool UnpinFault) (answer : Option Bool) (last : Outcome)
      → Turned worker faults made goes old new at (event.Unpin number) (unpin_reply result) → named new ≡ named old
      → entries_of {H = H} (who_of at (worker old)) (event.Unpin number) (unpin_reply result) ≡ unpinned_as (who_of at (worker old)) number answer ∷ [] → last ≡ let_go_end end answer
      → Stage worker faults made goes named [] (λ es. LetGoBy (who_of at (worker old)) number (Some end) es (Ok last)) old new
  let_go_as at number old new end result answer last turned same entry is =
      stage_call worker faults made goes named (who_of at (worker old)) at old new (event.Unpin number) (unpin_reply result) (λ es. LetGoBy (who_of at (worker old)) number (Some end) es (Ok last)) refl turned same (answer, entry, is)

  -- ---- the whole task

  module _ (on : (x y z : S) → goes x y → goes y z → goes x z) (digest : List ℕ → Hash256) (who : Who) (job : Task) (id : BlockId) (Few : ℕ → Type 0) (Finds : Option Tree → Outcome → Type 0)
      (run : (pins : List Named) (es : List (Entry H)) (end : Outcome) → PinRun Few Finds pins who id es end → TaskRun digest pins who job es end) where
    -- without a pin
    pub did_unpinned : (old new : S) (why : Stop) → worker old ≡ who.worker → PinsBy worker faults made goes named (who_of (at_of who) (worker old)) id old new (Err why)
        → Did digest worker faults made goes named who job old new (stop_end why)
    did_unpinned old new why its by = unpinned why (subst (λ w. PinsBy worker faults made goes named w id old new (Err why)) (whose who (worker old) its) by)
      where
        unpinned : (why : Stop) → PinsBy worker faults made goes named who id old new (Err why) → Did digest worker faults made goes named who job old new (stop_end why)
        unpinned (stop.Refused why) stage = did_by digest worker faults made goes named who job [] old new (Ok (outcome.Refused why)) (record {
          same_worker = stage.same_worker;
          went = stage.went;
          pinned = stage.pinned;
          entries = stage.entries;
          added = stage.added;
          caused = stage.caused;
          are = run (named new) stage.entries (outcome.Refused why) (block_not_pinned stage.are.0 why stage.are.1 stage.are.2 refl);
        })
        unpinned stop.Memory stage = did_by digest worker faults made goes named who job [] old new (Err no_memory) (record {
          same_worker = stage.same_worker;
          went = stage.went;
          pinned = stage.pinned;
          entries = stage.entries;
          added = stage.added;
          caused = stage.caused;
          are = inl stage.are;
        })

    module _ (pins : List Named) (m : Named) (found : find_pin pins m.number ≡ Some m) where
      -- the looks, the unpin that may come, and how they end
      answers : (work : Result Outcome Halt) (es fs : List (Entry H)) (result : Result Outcome Memory) → AreLooks Few (is_halted work) who m.number es → IfOk work (Finds m.tree)
          → LetGoBy who m.number (work_end work) fs result → TaskAnswers digest pins who job (pinned_as who id m.number ∷ (es ++ fs)) result
      answers (Ok end) es fs (Ok last) are finds let_go_by = run pins _ last
          (let_go m es end let_go_by.0 found (looked are.0 are.1 finds are.2) (ap (λ l. pinned_as who id m.number ∷ (es ++ l)) let_go_by.1) let_go_by.2)
      answers (Ok end) es fs (Err memory) are finds none = inr (
        unpinned_as who m.number (Some false) ∷ [],
        (
          end,
          run pins _ end (let_go m es end (Some false) found (looked are.0 are.1 finds are.2)
              (ap (λ l. pinned_as who id m.number ∷ (l ++ unpinned_as who m.number (Some false) ∷ [])) (ap (λ l. es ++ l) none ∙ append-nil es)) refl),
        ),
      )
      answers (Err halt.Keeper) es fs (Ok last) are finds let_go_by = run pins _ last
          (let_go m es (outcome.Refused word.Keeper) let_go_by.0 found (look_failed are.0 are.1 are.2 are.3 refl) (ap (λ l. pinned_as who id m.number ∷ (es ++ l)) let_go_by.1) let_go_by.2)
      answers (Err halt.Keeper) es fs (Err memory) are finds none = inr (
        unpinned_as who m.number (Some false) ∷ [],
        (
          outcome.Refused word.Keeper,
          run pins _ (outcome.Refused word.Keeper) (let_go m es (outcome.Refused word.Keeper) (Some false) found (look_failed are.0 are.1 are.2 are.3 refl)
              (ap (λ l. pinned_as who id m.number ∷ (l ++ unpinned_as who m.number (Some false) ∷ [])) (ap (λ l. es ++ l) none ∙ append-nil es)) refl),
        ),
      )
      answers (Err halt.Memory) es fs (Ok last) are finds never = absurd never
      -- a failed look and an unpin would have ended it
      answers (Err halt.Memory) es fs (Err memory) are finds none =
          let fail : Entry H = failed_look who m.number 0 in
          let last : Entry H = unpinned_as who m.number (Some false) in
          inr (
            fail ∷ (last ∷ []),
            (
              outcome.Refused word.Keeper,
              run pins _ (outcome.Refused word.Keeper) (let_go m (es ++ fail ∷ []) (outcome.Refused word.Keeper) (Some false) found
                  (look_failed are.0 0 (subst Few (zero_more (sum are.0)) are.1) (ap (λ l. l ++ fail ∷ []) are.2) refl)
                  (ap (λ l. pinned_as who id m.number ∷ l) (ap (λ l. l ++ fail ∷ (last ∷ [])) (ap (λ l. es ++ l) none ∙ append-nil es) ∙ sym (append_assoc es (fail ∷ []) (last ∷ [])))) refl),
            ),
          )
        where
          zero_more : (n : ℕ) → n ≡ n + 0
          zero_more n = omega arith

    -- a pin, the looks under it, and what is left of it
    pub did_pinned : (old a b new : S) (pinned : Pinned) (count : ℕ) (work : Result Outcome Halt) (result : Result Outcome Memory) → worker old ≡ who.worker
        → Pins worker faults made goes named (who_of (at_of who) (worker old)) id old a pinned
        → ((n : ℕ) → count ≡ counted 0 n → Few n) → LooksFor worker faults made goes named (is_halted work) (who_of (at_of who) (worker a)) pinned.pin a b 0 count
        → IfOk work (Finds (state_of (named a) pinned.pin))
        → Stage worker faults made goes named [] (λ es. LetGoBy (who_of (at_of who) (worker b)) pinned.pin (work_end work) es result) b new
        → Did digest worker faults made goes named who job old new result
    did_pinned old a b new pinned count work result its pins few went finds gone =
        let came = subst (λ w. Pins worker faults made goes named w id old a pinned) (whose who (worker old) its) pins in
        let m = came.pin in
        let its_a : worker a ≡ who.worker = came.stage.same_worker ∙ its in
        let looks_stage = looked_stage Few (is_halted work) who m.number a b count few
        (subst (λ n. LooksFor worker faults made goes named (is_halted work) who n a b 0 count) (sym came.number)
        (subst (λ w. LooksFor worker faults made goes named (is_halted work) w pinned.pin a b 0 count) (whose who (worker a) its_a) went)) in
        let its_b : worker b ≡ who.worker = looks_stage.same_worker ∙ its_a in
        let gone_stage = subst (λ n. Stage worker faults made goes named [] (λ es. LetGoBy who n (work_end work) es result) b new) (sym came.number)
        (subst (λ w. Stage worker faults made goes named [] (λ es. LetGoBy w pinned.pin (work_end work) es result) b new) (whose who (worker b) its_b) gone) in
        let last_pins : named new ≡ named a = gone_stage.pinned ∙ (append-nil (named b) ∙ (looks_stage.pinned ∙ append-nil (named a))) in
        let found : find_pin (named new) m.number ≡ Some m = subst (λ l. find_pin l m.number ≡ Some m) (sym last_pins) (subst (λ n. find_pin (named a) n ≡ Some m) (sym came.number) came.found) in
        let told : state_of (named a) pinned.pin ≡ m.tree = ap (option_and_then (λ n. n.tree)) came.found in
        let finds' : IfOk work (Finds m.tree) = subst (λ t. IfOk work (Finds t)) told finds in
        did_by digest worker faults made goes named who job (m ∷ []) old new result
        (stage_then on (m ∷ []) [] (λ es. es ≡ pinned_as who id m.number ∷ [])
        (λ es. (fs gs : List (Entry H)) × AreLooks Few (is_halted work) who m.number fs × LetGoBy who m.number (work_end work) gs result × (es ≡ fs ++ gs))
        (λ es. TaskAnswers digest (named new) who job es result)
        (λ es fs first then. subst (λ l. TaskAnswers digest (named new) who job l result) (λ i. sym first i ++ sym then.4 i)
        (answers (named new) m found work then.0 then.1 result then.2 finds' then.3))
        old a new came.stage
        (stage_then on [] [] (AreLooks Few (is_halted work) who m.number) (λ es. LetGoBy who m.number (work_end work) es result)
        (λ es. (fs gs : List (Entry H)) × AreLooks Few (is_halted work) who m.number fs × LetGoBy who m.number (work_end work) gs result × (es ≡ fs ++ gs))
        (λ es fs first then. (es, fs, first, then, refl)) a b new looks_stage gone_stage))

-- What a pin, a look and an unpin of a task come to.
use Rattle.std.proofs.Common.{◌≡◌, ◌≢◌, ℕ, ◌==◌, Bool, true, false, cond, List, [], ◌∷◌, ◌++◌, Option, Some, None, Result, Ok, Err, refl, sym, ap, subst, ◌∙◌, append-nil, eq-eqb}
use Rattle.std.specs.Option.{option_and_then}
use Rattle.cd_base.specs.declared.hash.Hash256.{Hash256}
use Rattle.cd_base.specs.declared.answers.Memory.{Memory}
use Rattle.cd_block.specs.declared.block.BlockId.{BlockId}
use Rattle.cd_event.specs.declared.names.Who.{Who}
use Rattle.cd_event.specs.declared.names.At.{At}
use Rattle.cd_event.specs.declared.answers.Pinned.{Pinned}
use Rattle.cd_event.specs.declared.entry.Entry.{Entry}
use Rattle.cd_event.specs.declared.event.Event.TheVariants as event
use Rattle.cd_event.specs.declared.refusal.Refusal.TheVariants as refusal
use Rattle.cd_event.specs.declared.faults.PinFault.{PinFault}
use Rattle.cd_event.specs.declared.faults.PinFault.TheVariants as pin
use Rattle.cd_event.specs.declared.faults.LookFault.{LookFault}
use Rattle.cd_event.specs.declared.faults.LookFault.TheVariants as look
use Rattle.cd_event.specs.declared.faults.UnpinFault.{UnpinFault}
use Rattle.cd_event.specs.declared.faults.UnpinFault.TheVariants as unpin
use Rattle.cd_event.specs.Replies.{who_of, entries_of, pin_reply, pin_refusal, look_reply, look_refusal, unpin_reply}
use Rattle.cd_event.specs.Pins.{Named, find_pin, is_live, AddsPin}
use Rattle.cd_event.specs.Turning.{Turned}
use Rattle.cd_run.specs.declared.words.Stop.{Stop}
use Rattle.cd_run.specs.Words.{word_of}
use Rattle.cd_run.specs.Ends.{stopped}
use Rattle.cd_run.specs.Runs.{pinned_as}
use Rattle.cd_run.specs.Stages.{Stage}
use Rattle.cd_run.specs.Merging.{named_as, IsPinned, Pins, PinsBy, unpin_end, UnpinsBy, LooksBy}
use Rattle.cd_run.proofs.StageLaws.{whose, stage_call}
use Rattle.cd_run.proofs.TurnLaws.{Keeps, live_on, live_pinned}

-- the name of a worker's task
pub its_name : (who : Who) (at : At) (n : ℕ) → at ≡ record { phase = who.phase; task = who.task } → n ≡ who.worker → who_of at n ≡ who
its_name who at n place is = ap (λ (a : At). who_of a n) place ∙ whose who n is

-- ---- pins

find_new : (pins : List Named) (n : ℕ) (m : Named) → m.number ≡ n → find_pin pins n ≡ None → find_pin (pins ++ m ∷ []) n ≡ Some m
find_new [] n m is none = ap (λ b. cond b (Some m) None) (eq-eqb m.number n is)
find_new (x ∷ pins) n m is none = elim (x.number == n) as (λ b. cond b (Some x) (find_pin pins n) ≡ None → cond b (Some x) (find_pin (pins ++ m ∷ []) n) ≡ Some m) [
  | true ↦ λ f. cc
  | false ↦ λ f. find_new pins n m is f
] none

module _ {S H : Type 0} (digest : List ℕ → Hash256) (worker faults : S → ℕ) (made : S → List (Entry H)) (goes : S → S → Type 0) (named : S → List Named)
    (who : Who) (at : At) (old new : S) (is : who_of at (worker old) ≡ who) where
  pub pins_are : (id : BlockId) (pinned : Pinned) → Turned worker faults made goes old new at (event.Pin id) (pin_reply (Ok pinned)) → AddsPin digest (named old) (named new) pinned
      → Pins digest worker faults made goes named who id old new pinned
  pins_are id pinned turned adds =
      let m = named_as pinned adds.tree in
      let added : made new ≡ made old ++ pinned_as who id pinned.pin ∷ [] = turned.entry ∙ ap (λ w. made old ++ pinned_as w id pinned.pin ∷ []) is in
      record {
        tree = adds.tree;
        is_pinned = record {
          live = subst (λ l. is_live pinned.pin l ≡ true) (sym added) (live_pinned pinned.pin who id (made old));
          found = subst (λ l. find_pin l pinned.pin ≡ Some m) (sym adds.added) (find_new (named old) pinned.pin m refl adds.fresh);
          plain = adds.plain;
          state = adds.state;
        };
        fresh = adds.fresh;
        stage = record {
          same_worker = turned.same_worker;
          went = turned.went;
          pinned = adds.added;
          entries = pinned_as who id pinned.pin ∷ [];
          added = added;
          caused = turned.caused;
          are = refl;
        };
      }

  pub not_pinned_is : (id : BlockId) (fault : PinFault) → Turned worker faults made goes old new at (event.Pin id) (pin_reply (Err fault)) → named new ≡ named old
      → PinsBy digest worker faults made goes named who id old new (Err (stopped (option_and_then word_of (pin_refusal fault))))
  not_pinned_is id pin.UnknownBlock turned same = stage_call worker faults made goes named who at old new (event.Pin id) _ _ is turned same (refusal.UnknownBlock, refl, refl)
  not_pinned_is id pin.PinsFull turned same = stage_call worker faults made goes named who at old new (event.Pin id) _ _ is turned same (refusal.PinsFull, refl, refl)
  not_pinned_is id pin.Memory turned same = stage_call worker faults made goes named who at old new (event.Pin id) _ _ is turned same refl

-- a pin that is kept stays what it is
pub still_pinned : {S H : Type 0} (digest : List ℕ → Hash256) (worker faults : S → ℕ) (made : S → List (Entry H)) (goes : S → S → Type 0) (named : S → List Named)
    (old new : S) (pinned : Pinned) (tree : Option _) (A : List (Entry H) → Type 0) → ((es : List (Entry H)) → A es → Keeps pinned.pin es)
    → Stage worker faults made goes named [] A old new → IsPinned digest (made old) (named old) pinned tree → IsPinned digest (made new) (named new) pinned tree
still_pinned digest worker faults made goes named old new pinned tree A keeps stage is = record {
  live = subst (λ l. is_live pinned.pin l ≡ true) (sym stage.added) (live_on pinned.pin (made old) stage.entries (keeps stage.entries stage.are) is.live);
  found = subst (λ l. find_pin l pinned.pin ≡ Some (named_as pinned tree)) (sym (stage.pinned ∙ append-nil (named old))) is.found;
  plain = is.plain;
  state = is.state;
}

-- what a live pin isn't answered
pub not_gone : (A : Type 0) (live : Bool) (asked : A) (answer : A) → live ≡ true → (answer ≡ asked → live ≡ false) → answer ≢ asked
not_gone A live asked answer is told bad = let never : true ≡ false = sym is ∙ told bad in cc

-- ---- calls

abbrev pub unpin_done : Result Bool UnpinFault → Result (Unit {0}) Memory
unpin_done (Ok collected) = Ok tt
unpin_done (Err fault) = unpin_end fault

abbrev pub look_end : {A : Type 0} → Result A LookFault → Result A Stop
look_end (Ok found) = Ok found
look_end (Err fault) = Err (stopped (option_and_then word_of (look_refusal fault)))

module _ (H : Type 0) (who : Who) (n : ℕ) where
  pub unpin_called : (result : Result Bool UnpinFault) → result ≢ Err unpin.NoPin → UnpinsBy {H = H} who n (unpin_done result) (entries_of who (event.Unpin n) (unpin_reply result))
  unpin_called (Ok collected) live = (Some collected, refl)
  unpin_called (Err unpin.NoPin) live = absurd (live refl)
  unpin_called (Err unpin.Keeper) live = (None, refl)
  unpin_called (Err unpin.Memory) live = refl

  pub look_called : {A : Type 0} (asked : ℕ) (result : Result A LookFault) → result ≢ Err look.NoPin
      → LooksBy {H = H} who n (look_end result) (entries_of who (event.Look n asked) (look_reply result))
  look_called asked (Ok found) live = (asked ∷ [], refl)
  look_called asked (Err look.NoPin) live = absurd (live refl)
  look_called asked (Err look.Keeper) live = (refl, ([], (asked, refl)))
  look_called asked (Err look.Memory) live = ([], refl)

-- All entries of a task have its name.
use Rattle.std.proofs.Common.{◌≡◌, ℕ, List, [], ◌∷◌, ◌++◌, All, Option, refl, sym, subst}
use Rattle.std.proofs.lemmas.List.Elements.{All-nil, All-cons, All-append}
use Rattle.cd_base.specs.declared.hash.Hash256.{Hash256}
use Rattle.cd_block.specs.declared.block.BlockId.{BlockId}
use Rattle.cd_cell.specs.Tree.{Tree}
use Rattle.cd_event.specs.declared.names.Who.{Who}
use Rattle.cd_event.specs.declared.entry.Entry.{Entry}
use Rattle.cd_event.specs.declared.entry.Reply.TheVariants as reply
use Rattle.cd_event.specs.Pins.{Named}
use Rattle.cd_event.specs.Looks.{looks, look_with}
use Rattle.cd_feed.specs.declared.feed.Task.{Task}
use Rattle.cd_feed.specs.declared.feed.Task.TheVariants as task
use Rattle.cd_run.specs.declared.outcome.Outcome.{Outcome}
use Rattle.cd_run.specs.declared.outcome.TaskRefusal.{TaskRefusal}
use Rattle.cd_run.specs.Runs.{ZeroRun, ExpireRun, UnmergedRun, BlockRun, UnjoinedRun, MergedRun, LooksRun, PinRun, IsFewFor, IsAnyNumber, TaskRun, TaskEvents, both_looks, zero_unprepared, zero_stored, zero_refused, expired, expire_refused, old_unseen, unprepared, unmerged, block_unread, parent_not_pinned, block_stored, block_refused, left_unseen, right_unseen, not_joined, join_refused, merged_unread, left_not_pinned, right_not_pinned, merged_stored, merged_refused, looked, look_failed, block_not_pinned, let_go}
use Rattle.cd_run.specs.Finds.{ReadFinds, SliceFinds, ServeFinds}

module _ {H : Type 0} (digest : List ℕ → Hash256) (who : Who) where
  abbrev pub IsOf : Entry H → Type 0
  IsOf e = e.who ≡ who

  none : (es : List (Entry H)) → es ≡ [] → All IsOf es
  none es is = subst (All IsOf) (sym is) (All-nil IsOf)

  last_one : (e : Entry H) → e.who ≡ who → All IsOf (e ∷ [])
  last_one e of = All-cons IsOf e [] of (All-nil IsOf)

  one : (es : List (Entry H)) (e : Entry H) → es ≡ e ∷ [] → e.who ≡ who → All IsOf es
  one es e is of = subst (All IsOf) (sym is) (last_one e of)

  of_looks : (pin : ℕ) (asked : List ℕ) → All IsOf (looks who pin asked)
  of_looks pin [] = All-nil IsOf
  of_looks pin (n ∷ ns) = All-cons IsOf (look_with reply.Looked who pin n) (looks who pin ns) refl (of_looks pin ns)

  of_both : (m n : Named) (left right : List ℕ) → All IsOf (both_looks who m n left right)
  of_both m n left right = All-append IsOf (looks who m.number left) (looks who n.number right) (of_looks m.number left) (of_looks n.number right)

  only : (es fs : List (Entry H)) → es ≡ fs → All IsOf fs → All IsOf es
  only es fs is all = subst (All IsOf) (sym is) all

  and_last : (rest : List (Entry H)) (e : Entry H) → All IsOf rest → e.who ≡ who → All IsOf (rest ++ e ∷ [])
  and_last rest e all of = All-append IsOf rest (e ∷ []) all (last_one e of)

  and_two : (rest : List (Entry H)) (e f : Entry H) → All IsOf rest → e.who ≡ who → f.who ≡ who → All IsOf (rest ++ e ∷ (f ∷ []))
  and_two rest e f all of its = All-append IsOf rest (e ∷ (f ∷ [])) all (All-cons IsOf e (f ∷ []) of (last_one f its))

  pinned_and : (es : List (Entry H)) (e : Entry H) (rest : List (Entry H)) → es ≡ e ∷ rest → e.who ≡ who → All IsOf rest → All IsOf es
  pinned_and es e rest is of all = only es (e ∷ rest) is (All-cons IsOf e rest of all)

  of_zero : (id : BlockId) (tops : List BlockId) (bag : List ℕ) (es : List (Entry H)) (end : Outcome) → ZeroRun digest who id tops bag es end → All IsOf es
  of_zero id tops bag es end (zero_unprepared why a is c) = none es is
  of_zero id tops bag es end (zero_stored p a is c) = one es _ is refl
  of_zero id tops bag es end (zero_refused p r why a is c d) = one es _ is refl

  of_expire : (id : BlockId) (es : List (Entry H)) (end : Outcome) → ExpireRun who id es end → All IsOf es
  of_expire id es end (expired gone is c) = one es _ is refl
  of_expire id es end (expire_refused r why is a b) = one es _ is refl

  of_unmerged : (m : Named) (u : Tree) (id : BlockId) (tops : List BlockId) (es : List (Entry H)) (why : TaskRefusal) → UnmergedRun digest who m u id tops es why → All IsOf es
  of_unmerged m u id tops es why (old_unseen asked last is a) = only es _ is (and_last _ _ (of_looks m.number asked) refl)
  of_unmerged m u id tops es why (unprepared asked a is) = only es _ is (of_looks m.number asked)
  of_unmerged m u id tops es why (unmerged asked p r a is b) = only es _ is (and_last _ _ (of_looks m.number asked) refl)

  of_block : (pins : List Named) (id parent : BlockId) (tops : List BlockId) (bag : List ℕ) (es : List (Entry H)) (end : Outcome) → BlockRun digest pins who id parent tops bag es end → All IsOf es
  of_block pins id parent tops bag es end (block_unread why a is c) = none es is
  of_block pins id parent tops bag es end (parent_not_pinned u r why a is b c) = one es _ is refl
  of_block pins id parent tops bag es end (block_stored u m rest a b run is) =
      pinned_and es _ rest is refl (only rest _ run.entries_are (and_last _ _ (of_looks m.number run.asked) refl))
  of_block pins id parent tops bag es end (block_refused u m rest why answer a b run is c) =
      pinned_and es _ _ is refl (and_last rest _ (of_unmerged m u id tops rest why run) refl)

  of_unjoined : (m n : Named) (u : Tree) (id : BlockId) (tops : List BlockId) (es : List (Entry H)) (why : TaskRefusal) → UnjoinedRun digest who m n u id tops es why → All IsOf es
  of_unjoined m n u id tops es why (left_unseen asked last is a) = only es _ is (and_last _ _ (of_looks m.number asked) refl)
  of_unjoined m n u id tops es why (right_unseen left right last is a) = only es _ is (and_last _ _ (of_both m n left right) refl)
  of_unjoined m n u id tops es why (not_joined left right a is) = only es _ is (of_both m n left right)
  of_unjoined m n u id tops es why (join_refused left right p r a is b) = only es _ is (and_last _ _ (of_both m n left right) refl)

  of_merged : (pins : List Named) (id left right : BlockId) (tops : List BlockId) (bag : List ℕ) (es : List (Entry H)) (end : Outcome) → MergedRun digest pins who id left right tops bag es end
      → All IsOf es
  of_merged pins id left right tops bag es end (merged_unread why a is c) = none es is
  of_merged pins id left right tops bag es end (left_not_pinned u r why a is b c) = one es _ is refl
  of_merged pins id left right tops bag es end (right_not_pinned u m r why answer a b is c d) =
      pinned_and es _ _ is refl (and_two [] _ _ (All-nil IsOf) refl refl)
  of_merged pins id left right tops bag es end (merged_stored u m n rest a b c run is) =
      pinned_and es _ _ is refl (All-cons IsOf _ rest refl (only rest _ run.entries_are (and_last _ _ (of_both m n run.left run.right) refl)))
  of_merged pins id left right tops bag es end (merged_refused u m n rest why first second a b c run is d) =
      pinned_and es _ _ is refl (All-cons IsOf _ _ refl (and_two rest _ _ (of_unjoined m n u id tops rest why run) refl refl))

  module _ (Few : ℕ → Type 0) (Finds : Option Tree → Outcome → Type 0) where
    of_work : (m : Named) (es : List (Entry H)) (end : Outcome) → LooksRun Few Finds who m es end → All IsOf es
    of_work m es end (looked asked few a is) = only es _ is (of_looks m.number asked)
    of_work m es end (look_failed asked last few is a) = only es _ is (and_last _ _ (of_looks m.number asked) refl)

    of_pin : (pins : List Named) (id : BlockId) (es : List (Entry H)) (end : Outcome) → PinRun Few Finds pins who id es end → All IsOf es
    of_pin pins id es end (block_not_pinned r why is a b) = one es _ is refl
    of_pin pins id es end (let_go m rest found answer a run is b) = pinned_and es _ _ is refl (and_last rest _ (of_work m rest found run) refl)

  pub of_run : (pins : List Named) (job : Task) (es : List (Entry H)) (end : Outcome) → TaskRun digest pins who job es end → All IsOf es
  of_run pins (task.Zero id tops bag) es end run = of_zero id tops bag es end run
  of_run pins (task.Block id parent tops bag) es end run = of_block pins id parent tops bag es end run
  of_run pins (task.Expire id) es end run = of_expire id es end run
  of_run pins (task.Read id path) es end run = of_pin (IsFewFor path) (ReadFinds digest path) pins id es end run
  of_run pins (task.Slice id max) es end run = of_pin IsAnyNumber (SliceFinds digest max) pins id es end run
  of_run pins (task.Serve id max) es end run = of_pin IsAnyNumber (ServeFinds digest) pins id es end run
  of_run pins (task.Merged id left right tops bag) es end run = of_merged pins id left right tops bag es end run

  pub of_events : (pins : List Named) (job : Task) (es : List (Entry H)) → TaskEvents digest pins who job es → All IsOf es
  of_events pins job es events = of_run pins job es events.0 events.1

-- A task that is no serve never ends as one that ended well.
use Rattle.std.proofs.Common.{◌≡◌, ◌⊎◌, inl, inr, ⊎_elim, ℕ, Bool, true, false, List, Option, Some, None, Result, Ok, Err, refl, sym, ap, ◌∙◌}
use Rattle.cd_base.specs.declared.answers.Memory.{Memory}
use Rattle.cd_base.specs.declared.hash.Hash256.{Hash256}
use Rattle.cd_block.specs.declared.block.BlockId.{BlockId}
use Rattle.cd_cell.specs.Tree.{Tree}
use Rattle.cd_event.specs.declared.names.Who.{Who}
use Rattle.cd_event.specs.declared.entry.Entry.{Entry}
use Rattle.cd_event.specs.Pins.{Named, find_pin}
use Rattle.cd_feed.specs.declared.feed.Task.{Task}
use Rattle.cd_feed.specs.declared.feed.Task.TheVariants as task
use Rattle.cd_run.specs.declared.outcome.Outcome.{Outcome}
use Rattle.cd_run.specs.declared.outcome.Outcome.TheVariants as outcome
use Rattle.cd_run.specs.Clients.{Sent, Serves, LeavesClients, IsUnserved}
use Rattle.cd_run.specs.Finds.{ReadFinds, SliceFinds}
use Rattle.cd_run.specs.Runs.{ZeroRun, ExpireRun, BlockRun, MergedRun, LooksRun, PinRun, IsFewFor, IsAnyNumber, TaskAnswers, let_go_end, zero_unprepared, zero_stored, zero_refused, expired, expire_refused, block_unread, parent_not_pinned, block_stored, block_refused, merged_unread, left_not_pinned, right_not_pinned, merged_stored, merged_refused, looked, look_failed, block_not_pinned, let_go}
use Rattle.cd_run.proofs.KeeperLaws.{ok_in}

-- whether an end is that of a serve that ended well
abbrev is_well : Outcome → Bool
is_well (outcome.Serve bytes done failed) = true
is_well _ = false

-- ---- what the looks find

read_finds : (path : List ℕ) (digest : List ℕ → Hash256) (told : Option Tree) (end : Outcome) → ReadFinds digest path told end → is_well end ≡ false
read_finds path digest told (outcome.Zero root cells) h = refl
read_finds path digest told (outcome.Block root new) h = refl
read_finds path digest told (outcome.Expire gone) h = refl
read_finds path digest told (outcome.Read hash) h = refl
read_finds path digest told (outcome.Slice b slices sha) h = refl
read_finds path digest told (outcome.Serve b d f) h = absurd h
read_finds path digest told (outcome.Merged root new) h = refl
read_finds path digest told (outcome.Refused why) h = refl

slice_finds : (max : ℕ) (digest : List ℕ → Hash256) (told : Option Tree) (end : Outcome) → SliceFinds digest max told end → is_well end ≡ false
slice_finds max digest told (outcome.Zero root cells) h = refl
slice_finds max digest told (outcome.Block root new) h = refl
slice_finds max digest told (outcome.Expire gone) h = refl
slice_finds max digest told (outcome.Read hash) h = refl
slice_finds max digest told (outcome.Slice b slices sha) h = refl
slice_finds max digest told (outcome.Serve b d f) h = absurd h
slice_finds max digest told (outcome.Merged root new) h = refl
slice_finds max digest told (outcome.Refused why) h = refl

-- an unpin makes none of another end
let_go_not : (end : Outcome) (answer : Option Bool) → is_well end ≡ false → is_well (let_go_end end answer) ≡ false
let_go_not end (Some collected) h = h
let_go_not (outcome.Zero root cells) None h = refl
let_go_not (outcome.Block root new) None h = refl
let_go_not (outcome.Expire gone) None h = refl
let_go_not (outcome.Read hash) None h = refl
let_go_not (outcome.Slice b slices sha) None h = refl
let_go_not (outcome.Serve b d f) None h = refl
let_go_not (outcome.Merged root new) None h = refl
let_go_not (outcome.Refused why) None h = refl

-- ---- tasks

module _ {H : Type 0} (digest : List ℕ → Hash256) (pins : List Named) (who : Who) where
  zero_not : (id : BlockId) (tops : List BlockId) (bag : List ℕ) (es : List (Entry H)) (end : Outcome) → ZeroRun digest who id tops bag es end → is_well end ≡ false
  zero_not id tops bag es end (zero_unprepared why a b is) = ap is_well is
  zero_not id tops bag es end (zero_stored p a b is) = ap is_well is
  zero_not id tops bag es end (zero_refused p r why a b c is) = ap is_well is

  expire_not : (id : BlockId) (es : List (Entry H)) (end : Outcome) → ExpireRun who id es end → is_well end ≡ false
  expire_not id es end (expired gone a is) = ap is_well is
  expire_not id es end (expire_refused r why a b is) = ap is_well is

  block_not : (id parent : BlockId) (tops : List BlockId) (bag : List ℕ) (es : List (Entry H)) (end : Outcome) → BlockRun digest pins who id parent tops bag es end → is_well end ≡ false
  block_not id parent tops bag es end (block_unread why a b is) = ap is_well is
  block_not id parent tops bag es end (parent_not_pinned u r why a b c is) = ap is_well is
  block_not id parent tops bag es end (block_stored u m rest a b merge c) = ap is_well merge.end_is
  block_not id parent tops bag es end (block_refused u m rest why answer a b c d is) = ap is_well is

  merged_not : (id left right : BlockId) (tops : List BlockId) (bag : List ℕ) (es : List (Entry H)) (end : Outcome) → MergedRun digest pins who id left right tops bag es end → is_well end ≡ false
  merged_not id left right tops bag es end (merged_unread why a b is) = ap is_well is
  merged_not id left right tops bag es end (left_not_pinned u r why a b c is) = ap is_well is
  merged_not id left right tops bag es end (right_not_pinned u m r why answer a b c d is) = ap is_well is
  merged_not id left right tops bag es end (merged_stored u m n rest a b c join d) = ap is_well join.end_is
  merged_not id left right tops bag es end (merged_refused u m n rest why first second a b c d e is) = ap is_well is

  module _ (Few : ℕ → Type 0) (Finds : Option Tree → Outcome → Type 0) (finds : (told : Option Tree) (end : Outcome) → Finds told end → is_well end ≡ false) where
    looks_not : (m : Named) (es : List (Entry H)) (end : Outcome) → LooksRun Few Finds who m es end → is_well end ≡ false
    looks_not m es end (looked asked a is b) = finds m.tree end is
    looks_not m es end (look_failed asked last a b is) = ap is_well is

    pin_not : (id : BlockId) (es : List (Entry H)) (end : Outcome) → PinRun Few Finds pins who id es end → is_well end ≡ false
    pin_not id es end (block_not_pinned r why a b is) = ap is_well is
    pin_not id es end (let_go m rest its answer a run b is) = ap is_well is ∙ let_go_not its answer (looks_not m rest its run)

not_well : (end : Outcome) → is_well end ≡ false → IsUnserved (Ok end)
not_well end never bytes done failed is = absurd (let both : true ≡ false = sym (ap (λ r. is_well (ok_in r)) is) ∙ never in cc)

-- ---- what each task leaves

module _ {C : Type 0} (got : C → Option (List ℕ)) (steady : C → Bool) (digest : List ℕ → Hash256) (pins : List Named) where
  -- the clients as they were, and no serve that ended well; or what a serve sent under its pin
  abbrev pub LeavesSo : Task → List C → List C → Result Outcome Memory → Type 0
  LeavesSo job old new result = ((new ≡ old) × IsUnserved result)
      ⊎ ((id : BlockId) × (max : ℕ) × (job ≡ task.Serve id max) × (m : Named) × (find_pin pins m.number ≡ Some m) × Sent got steady digest m.tree old new result)

  module _ {H : Type 0} (who : Who) (es : List (Entry H)) (old new : List C) where
    serve_so : (id : BlockId) (max : ℕ) (result : Result Outcome Memory) → Serves got steady digest pins old new result → LeavesSo (task.Serve id max) old new result
    serve_so id max result leaves = ⊎_elim (λ (still : (new ≡ old) × IsUnserved result). inl still)
        (λ (s : (m : Named) × (find_pin pins m.number ≡ Some m) × Sent got steady digest m.tree old new result). inr (id, max, refl, s.0, s.1, s.2)) leaves

    pub leaves_so : (job : Task) (result : Result Outcome Memory) → TaskAnswers digest pins who job es result → LeavesClients got steady digest pins job old new result → LeavesSo job old new result
    leaves_so (task.Zero id tops bag) (Ok end) run same = inl (same, not_well end (zero_not digest pins who id tops bag es end run))
    leaves_so (task.Block id parent tops bag) (Ok end) run same = inl (same, not_well end (block_not digest pins who id parent tops bag es end run))
    leaves_so (task.Expire id) (Ok end) run same = inl (same, not_well end (expire_not digest pins who id es end run))
    leaves_so (task.Read id path) (Ok end) run same = inl (same, not_well end (pin_not digest pins who (IsFewFor path) (ReadFinds digest path) (read_finds path digest) id es end run))
    leaves_so (task.Slice id max) (Ok end) run same = inl (same, not_well end (pin_not digest pins who IsAnyNumber (SliceFinds digest max) (slice_finds max digest) id es end run))
    leaves_so (task.Merged id left right tops bag) (Ok end) run same = inl (same, not_well end (merged_not digest pins who id left right tops bag es end run))
    leaves_so (task.Serve id max) result run leaves = serve_so id max result leaves
    leaves_so (task.Zero id tops bag) (Err memory) run same = inl (same, λ bytes done failed is. cc)
    leaves_so (task.Block id parent tops bag) (Err memory) run same = inl (same, λ bytes done failed is. cc)
    leaves_so (task.Expire id) (Err memory) run same = inl (same, λ bytes done failed is. cc)
    leaves_so (task.Read id path) (Err memory) run same = inl (same, λ bytes done failed is. cc)
    leaves_so (task.Slice id max) (Err memory) run same = inl (same, λ bytes done failed is. cc)
    leaves_so (task.Merged id left right tops bag) (Err memory) run same = inl (same, λ bytes done failed is. cc)

-- Trusted: the entries of a task and how it ends, each way by its name. `pins` are the pins that the worker was given,
-- each with its root and, where it is told, its tree.
use Rattle.std.specs.Prelude.{◌≡◌, ◌⊎◌, ℕ, ◌+◌, ◌≤◌, Bool, false, ◌||◌, List, [], ◌∷◌, ◌++◌, length, sum, Option, Some, None, Result, Ok, Err}
use Rattle.cd_base.specs.Counts.{Rose}
use Rattle.cd_base.specs.declared.hash.Hash256.{Hash256}
use Rattle.cd_base.specs.declared.answers.Memory.{Memory}
use Rattle.cd_block.specs.declared.block.BlockId.{BlockId}
use Rattle.cd_cell.specs.Infos.{rep_of_info}
use Rattle.cd_cell.specs.PreparedView.{PreparedView}
use Rattle.cd_cell.specs.Tree.{Tree}
use Rattle.cd_event.specs.declared.names.Who.{Who}
use Rattle.cd_event.specs.declared.event.Event.TheVariants as event
use Rattle.cd_event.specs.declared.entry.Entry.{Entry}
use Rattle.cd_event.specs.declared.entry.Reply.{Reply}
use Rattle.cd_event.specs.declared.entry.Reply.TheVariants as reply
use Rattle.cd_event.specs.declared.refusal.Refusal.{Refusal}
use Rattle.cd_event.specs.declared.refusal.Refusal.TheVariants as refusal
use Rattle.cd_event.specs.Replies.{entry_of}
use Rattle.cd_event.specs.Pins.{Named, find_pin}
use Rattle.cd_event.specs.Looks.{looks, failed_look}
use Rattle.cd_event.specs.Turning.{RisesOnly, is_keeper}
use Rattle.cd_feed.specs.declared.feed.Task.{Task}
use Rattle.cd_feed.specs.declared.feed.Task.TheVariants as task
use Rattle.cd_run.specs.declared.outcome.Outcome.{Outcome}
use Rattle.cd_run.specs.declared.outcome.Outcome.TheVariants as outcome
use Rattle.cd_run.specs.declared.outcome.TaskRefusal.{TaskRefusal}
use Rattle.cd_run.specs.declared.outcome.TaskRefusal.TheVariants as word
use Rattle.cd_run.specs.Finds.{ReadFinds, SliceFinds, ServeFinds}
use Rattle.cd_run.specs.Words.{word_of}
use Rattle.cd_run.specs.Prepared.{HasNoState, IsStateOf, HasNoUpdate, HasUpdate, IsPrepared, IsUnprepared, IsMergePrepared, IsMergeUnprepared}

-- ---- a zero state is stored

pub data ZeroRun {H : Type 0} (digest : List ℕ → Hash256)
    (who : Who) (id : BlockId) (tops : List BlockId) (bag : List ℕ) (es : List (Entry H))
    (end : Outcome) : Type 0 where
  -- the bag has no state: no entry
  zero_unprepared : (why : TaskRefusal) → HasNoState digest bag why → es ≡ [] → end ≡ outcome.Refused why
      → ZeroRun digest who id tops bag es end
  zero_stored : (p : PreparedView) → IsStateOf digest bag p
      → es ≡ entry_of who (event.Zero id tops p) reply.Stored ∷ []
      → end ≡ outcome.Zero (rep_of_info p.root) (length p.cells) → ZeroRun digest who id tops bag es end
  zero_refused : (p : PreparedView) (r : Refusal) (why : TaskRefusal) → IsStateOf digest bag p
      → es ≡ entry_of who (event.Zero id tops p) (reply.Refused r) ∷ []
      → word_of r ≡ Some why → end ≡ outcome.Refused why → ZeroRun digest who id tops bag es end

-- ---- blocks expire

pub data ExpireRun {H : Type 0} (who : Who) (id : BlockId) (es : List (Entry H)) (end : Outcome) : Type 0 where
  expired : (gone : ℕ) → es ≡ entry_of who (event.Expire id) (reply.Expired gone) ∷ []
      → end ≡ outcome.Expire gone → ExpireRun who id es end
  expire_refused : (r : Refusal) (why : TaskRefusal)
      → es ≡ entry_of who (event.Expire id) (reply.Refused r) ∷ [] → word_of r ≡ Some why
      → end ≡ outcome.Refused why → ExpireRun who id es end

-- ---- entries of pins

-- the reply to an unpin: whether the block went with its pin, or, with none, that the keeper failed
abbrev pub unpin_answer : Option Bool → Reply
unpin_answer None = reply.Refused refusal.Keeper
unpin_answer (Some collected) = reply.Unpinned collected

module _ {H : Type 0} where
  abbrev pub pinned_as : Who → BlockId → ℕ → Entry H
  pinned_as who id pin = entry_of who (event.Pin id) (reply.Pinned pin)

  abbrev pub not_pinned : Who → BlockId → Refusal → Entry H
  not_pinned who id r = entry_of who (event.Pin id) (reply.Refused r)

  abbrev pub unpinned_as : Who → ℕ → Option Bool → Entry H
  unpinned_as who pin answer = entry_of who (event.Unpin pin) (unpin_answer answer)

-- ---- a block is stored over the state of its parent

-- looks, and then the merge
pub record MergeRun {H : Type 0} (digest : List ℕ → Hash256)
    (who : Who) (m : Named) (u : Tree) (id : BlockId) (tops : List BlockId) (es : List (Entry H))
    (end : Outcome) : Type 0 where
  pub asked : List ℕ
  pub prepared : PreparedView
  pub is_prepared : IsPrepared digest m u prepared
  pub entries_are : es ≡ looks who m.number asked
      ++ entry_of who (event.Merge m.number None id tops prepared) reply.Stored ∷ []
  pub end_is : end ≡ outcome.Block (rep_of_info prepared.root) (length prepared.cells)

-- or why there was none
pub data UnmergedRun {H : Type 0} (digest : List ℕ → Hash256)
    (who : Who) (m : Named) (u : Tree) (id : BlockId) (tops : List BlockId) (es : List (Entry H))
    (why : TaskRefusal) : Type 0 where
  -- the keeper failed a look
  old_unseen : (asked : List ℕ) (last : ℕ)
      → es ≡ looks who m.number asked ++ failed_look who m.number last ∷ [] → why ≡ word.Keeper
      → UnmergedRun digest who m u id tops es why
  -- the update doesn't apply to the state
  unprepared : (asked : List ℕ) → IsUnprepared digest m u why → es ≡ looks who m.number asked
      → UnmergedRun digest who m u id tops es why
  -- the merge was refused
  unmerged : (asked : List ℕ) (p : PreparedView) (r : Refusal) → IsPrepared digest m u p
      → es ≡ looks who m.number asked
      ++ entry_of who (event.Merge m.number None id tops p) (reply.Refused r) ∷ [] → word_of r ≡ Some why
      → UnmergedRun digest who m u id tops es why

pub data BlockRun {H : Type 0} (digest : List ℕ → Hash256)
    (pins : List Named) (who : Who) (id parent : BlockId) (tops : List BlockId) (bag : List ℕ)
    (es : List (Entry H)) (end : Outcome) : Type 0 where
  -- the bag has no update: no entry
  block_unread : (why : TaskRefusal) → HasNoUpdate digest bag why → es ≡ [] → end ≡ outcome.Refused why
      → BlockRun digest pins who id parent tops bag es end
  parent_not_pinned : (u : Tree) (r : Refusal) (why : TaskRefusal) → HasUpdate digest bag u
      → es ≡ not_pinned who parent r ∷ [] → word_of r ≡ Some why
      → end ≡ outcome.Refused why → BlockRun digest pins who id parent tops bag es end
  -- the merge ends the pin
  block_stored : (u : Tree) (m : Named) (rest : List (Entry H)) → HasUpdate digest bag u
      → find_pin pins m.number ≡ Some m → MergeRun digest who m u id tops rest end
      → es ≡ pinned_as who parent m.number ∷ rest → BlockRun digest pins who id parent tops bag es end
  -- after a refusal behind the pin comes one unpin
  block_refused : (u : Tree) (m : Named) (rest : List (Entry H)) (why : TaskRefusal) (answer : Option Bool)
      → HasUpdate digest bag u → find_pin pins m.number ≡ Some m
      → UnmergedRun digest who m u id tops rest why
      → es ≡ pinned_as who parent m.number ∷ (rest ++ unpinned_as who m.number answer ∷ [])
      → end ≡ outcome.Refused why → BlockRun digest pins who id parent tops bag es end

-- ---- a block is stored over the joined state of two parents

-- looks under the left pin, and then under the right one
abbrev pub both_looks : {H : Type 0} → Who → Named → Named → List ℕ → List ℕ → List (Entry H)
both_looks who m n left right = looks who m.number left ++ looks who n.number right

pub record JoinRun {H : Type 0} (digest : List ℕ → Hash256)
    (who : Who) (m n : Named) (u : Tree) (id : BlockId) (tops : List BlockId) (es : List (Entry H))
    (end : Outcome) : Type 0 where
  pub left : List ℕ
  pub right : List ℕ
  pub prepared : PreparedView
  pub is_prepared : IsMergePrepared digest m n u prepared
  pub entries_are : es ≡ both_looks who m n left right
      ++ entry_of who (event.Merge m.number (Some n.number) id tops prepared) reply.Stored ∷ []
  pub end_is : end ≡ outcome.Merged (rep_of_info prepared.root) (length prepared.cells)

pub data UnjoinedRun {H : Type 0} (digest : List ℕ → Hash256)
    (who : Who) (m n : Named) (u : Tree) (id : BlockId) (tops : List BlockId) (es : List (Entry H))
    (why : TaskRefusal) : Type 0 where
  left_unseen : (asked : List ℕ) (last : ℕ)
      → es ≡ looks who m.number asked ++ failed_look who m.number last ∷ [] → why ≡ word.Keeper
      → UnjoinedRun digest who m n u id tops es why
  right_unseen : (left right : List ℕ) (last : ℕ)
      → es ≡ both_looks who m n left right ++ failed_look who n.number last ∷ [] → why ≡ word.Keeper
      → UnjoinedRun digest who m n u id tops es why
  not_joined : (left right : List ℕ) → IsMergeUnprepared digest m n u why
      → es ≡ both_looks who m n left right → UnjoinedRun digest who m n u id tops es why
  join_refused : (left right : List ℕ) (p : PreparedView) (r : Refusal) → IsMergePrepared digest m n u p
      → es ≡ both_looks who m n left right
      ++ entry_of who (event.Merge m.number (Some n.number) id tops p) (reply.Refused r) ∷ []
      → word_of r ≡ Some why
      → UnjoinedRun digest who m n u id tops es why

pub data MergedRun {H : Type 0} (digest : List ℕ → Hash256)
    (pins : List Named) (who : Who) (id left right : BlockId) (tops : List BlockId) (bag : List ℕ)
    (es : List (Entry H)) (end : Outcome) : Type 0 where
  merged_unread : (why : TaskRefusal) → HasNoUpdate digest bag why → es ≡ [] → end ≡ outcome.Refused why
      → MergedRun digest pins who id left right tops bag es end
  left_not_pinned : (u : Tree) (r : Refusal) (why : TaskRefusal) → HasUpdate digest bag u
      → es ≡ not_pinned who left r ∷ [] → word_of r ≡ Some why
      → end ≡ outcome.Refused why → MergedRun digest pins who id left right tops bag es end
  -- the left pin is ended again
  right_not_pinned : (u : Tree) (m : Named) (r : Refusal) (why : TaskRefusal) (answer : Option Bool)
      → HasUpdate digest bag u → find_pin pins m.number ≡ Some m
      → es ≡ pinned_as who left m.number ∷ (not_pinned who right r ∷ unpinned_as who m.number answer ∷ [])
      → word_of r ≡ Some why
      → end ≡ outcome.Refused why → MergedRun digest pins who id left right tops bag es end
  -- the merge ends both pins
  merged_stored : (u : Tree) (m n : Named) (rest : List (Entry H)) → HasUpdate digest bag u
      → find_pin pins m.number ≡ Some m → find_pin pins n.number ≡ Some n
      → JoinRun digest who m n u id tops rest end
      → es ≡ pinned_as who left m.number ∷ (pinned_as who right n.number ∷ rest)
      → MergedRun digest pins who id left right tops bag es end
  -- after a refusal behind the pins comes one unpin of each, of the left one first
  merged_refused : (u : Tree) (m n : Named) (rest : List (Entry H)) (why : TaskRefusal)
      (first second : Option Bool) → HasUpdate digest bag u
      → find_pin pins m.number ≡ Some m → find_pin pins n.number ≡ Some n
      → UnjoinedRun digest who m n u id tops rest why
      → es ≡ pinned_as who left m.number ∷ (pinned_as who right n.number ∷ (rest
      ++ unpinned_as who m.number first ∷ (unpinned_as who n.number second ∷ [])))
      → end ≡ outcome.Refused why → MergedRun digest pins who id left right tops bag es end

-- ---- reads, slices and serves: a pin, looks under it, and one unpin

-- the first refusal, the unpin's included
abbrev pub let_go_end : Outcome → Option Bool → Outcome
let_go_end end (Some collected) = end
let_go_end (outcome.Refused why) None = outcome.Refused why
let_go_end end None = outcome.Refused word.Keeper

-- for so many hashes as `Few` allows, and with such an end
module _ {H : Type 0} (Few : ℕ → Type 0) (Finds : Option Tree → Outcome → Type 0) where
  -- all looks are answered, and the state decides the end; or the last one fails
  pub data LooksRun (who : Who) (m : Named) (es : List (Entry H)) (end : Outcome) : Type 0 where
    looked : (asked : List ℕ) → Few (sum asked) → Finds m.tree end → es ≡ looks who m.number asked
        → LooksRun who m es end
    look_failed : (asked : List ℕ) (last : ℕ) → Few (sum asked + last)
        → es ≡ looks who m.number asked ++ failed_look who m.number last ∷ []
        → end ≡ outcome.Refused word.Keeper → LooksRun who m es end

  pub data PinRun (pins : List Named) (who : Who) (id : BlockId) (es : List (Entry H)) (end : Outcome) : Type 0 where
    block_not_pinned : (r : Refusal) (why : TaskRefusal) → es ≡ not_pinned who id r ∷ [] → word_of r ≡ Some why
        → end ≡ outcome.Refused why → PinRun pins who id es end
    let_go : (m : Named) (rest : List (Entry H)) (found : Outcome) (answer : Option Bool)
        → find_pin pins m.number ≡ Some m → LooksRun who m rest found
        → es ≡ pinned_as who id m.number ∷ (rest ++ unpinned_as who m.number answer ∷ [])
        → end ≡ let_go_end found answer → PinRun pins who id es end

-- a read looks for one hash more than its path has steps at most
abbrev pub IsFewFor : List ℕ → ℕ → Type 0
IsFewFor path asked = asked ≤ length path + 1

abbrev pub IsAnyNumber : ℕ → Type 0
IsAnyNumber asked = Unit {0}

-- ---- a task

module _ {H : Type 0} (digest : List ℕ → Hash256) (pins : List Named) (who : Who) where
  -- its entries, in order, each once, and its end
  abbrev pub TaskRun : Task → List (Entry H) → Outcome → Type 0
  TaskRun (task.Zero id tops bag) es end = ZeroRun digest who id tops bag es end
  TaskRun (task.Block id parent tops bag) es end = BlockRun digest pins who id parent tops bag es end
  TaskRun (task.Expire id) es end = ExpireRun who id es end
  TaskRun (task.Read id path) es end = PinRun (IsFewFor path) (ReadFinds digest path) pins who id es end
  TaskRun (task.Slice id max) es end = PinRun IsAnyNumber (SliceFinds digest max) pins who id es end
  TaskRun (task.Serve id max) es end = PinRun IsAnyNumber (ServeFinds digest) pins who id es end
  TaskRun (task.Merged id left right tops bag) es end = MergedRun digest pins who id left right tops bag es end

  -- all of its entries
  abbrev pub TaskEvents : Task → List (Entry H) → Type 0
  TaskEvents job es = (end : Outcome) × TaskRun job es end

  -- none, or the first ones of its entries
  abbrev pub TaskBegun : Task → List (Entry H) → Type 0
  TaskBegun job es = (es ≡ []) ⊎ ((rest : List (Entry H)) × TaskEvents job (es ++ rest))

  -- its entries by its answer: all, or where memory ran out the first ones
  abbrev pub TaskAnswers : Task → List (Entry H) → Result Outcome Memory → Type 0
  TaskAnswers job es (Ok end) = TaskRun job es end
  TaskAnswers job es (Err memory) = TaskBegun job es

-- whether the keeper failed one of some entries
abbrev pub has_failed : {H : Type 0} → List (Entry H) → Bool
has_failed [] = false
has_failed (e ∷ es) = is_keeper (Some e.reply) || has_failed es

module _ {S H : Type 0} (digest : List ℕ → Hash256) (worker faults : S → ℕ) (made : S
    → List (Entry H)) (goes : S → S → Type 0) (named : S → List Named) where
  -- a worker did a task: its pins and entries grew by those of the task, and its keeper failed where an entry says so
  pub record Did (who : Who) (job : Task) (old new : S) (result : Result Outcome Memory) : Type 0 where
    pub same_worker : worker new ≡ worker old
    pub went : goes old new
    pub pins : List Named
    pub pinned : named new ≡ named old ++ pins
    pub entries : List (Entry H)
    pub added : made new ≡ made old ++ entries
    pub answers : TaskAnswers digest (named new) who job entries result
    pub caused : RisesOnly (has_failed entries) (faults old) (faults new)
    pub cause : result ≡ Ok (outcome.Refused word.Keeper) → Rose (faults old) (faults new)

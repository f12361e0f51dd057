-- Trusted: reading a feed from left to right, with the first field at fault. `total` is the number of bytes given, so
-- that the place of a field is what is no more left of them; `fault` is the one that names the task.
use Rattle.std.specs.Prelude.{ℕ, zero, suc, ◌+◌, ◌-◌, ◌==◌, nat_lt, Bool, false, not, ◌&&◌, ◌||◌, List, [], ◌∷◌, length, Result, Ok, Err, if◌then◌else◌}
use Rattle.cd_base.specs.Reading.{◌>>=◌, require, part_at, byte_at, number_at, each_at}
use Rattle.cd_block.specs.declared.block.BlockId.{BlockId}
use Rattle.cd_block.specs.Shard.{is_master}
use Rattle.cd_block.specs.Block.{id_of}
use Rattle.cd_feed.specs.declared.feed.Task.{Task}
use Rattle.cd_feed.specs.declared.feed.Task.TheVariants.{Zero, Block, Expire, Read, Slice, Serve, Merged}
use Rattle.cd_feed.specs.declared.feed.Phase.{Phase}
use Rattle.cd_feed.specs.declared.feed.Feed.{Feed}
use Rattle.cd_feed.specs.declared.feed_fault.FeedFault.{FeedFault}
use Rattle.cd_feed.specs.declared.feed_fault.FeedFault.TheVariants.{Magic, Cut, Limit, Extra, Task as TaskFault}

-- ---- fields

-- a number in so many bytes, from the least to the most that it may be, and else the fault
unfoldable pub within_at : FeedFault → FeedFault → ℕ → ℕ → ℕ → List ℕ → Result (ℕ × List ℕ) FeedFault
within_at cut fault len least most bytes = do
  number ← number_at cut len bytes
  if nat_lt number.0 least || nat_lt most number.0 then Err fault else Ok number

-- the same, where the fault is a limit passed at the field's place
abbrev pub limited_at : ℕ → ℕ → ℕ → ℕ → List ℕ → Result (ℕ × List ℕ) FeedFault
limited_at total len least most bytes = within_at (Cut total) (Limit (total - length bytes)) len least most bytes

-- a key
unfoldable pub id_at : ℕ → List ℕ → Result (BlockId × List ℕ) FeedFault
id_at total bytes = do
  key ← part_at (Cut total) 80 bytes
  Ok (id_of key.0, key.1)

-- the tops of a block, which only one of the masterchain may have
unfoldable pub tops_at : ℕ → FeedFault → BlockId → List ℕ → Result (List BlockId × List ℕ) FeedFault
tops_at total fault id bytes = do
  count ← limited_at total 1 0 64 bytes
  if nat_lt 0 count.0 && not (is_master id.shard_id) then Err fault else each_at (id_at total) count.0 count.1

unfoldable pub bag_at : ℕ → List ℕ → Result (List ℕ × List ℕ) FeedFault
bag_at total bytes = do
  len ← limited_at total 4 0 67108864 bytes
  part_at (Cut total) len.0 len.1

-- the steps of a path, each of which is a field
unfoldable pub path_at : ℕ → FeedFault → List ℕ → Result (List ℕ × List ℕ) FeedFault
path_at total fault bytes = do
  len ← limited_at total 1 0 64 bytes
  each_at (within_at (Cut total) fault 1 0 3) len.0 len.1

-- the greatest length of a slice
unfoldable pub max_at : ℕ → FeedFault → List ℕ → Result (ℕ × List ℕ) FeedFault
max_at total fault bytes = within_at (Cut total) fault 4 1 2097152 bytes

-- ---- tasks: the fields of each kind

unfoldable pub zero_at : ℕ → FeedFault → List ℕ → Result (Task × List ℕ) FeedFault
zero_at total fault bytes = do
  id ← id_at total bytes
  tops ← tops_at total fault id.0 id.1
  bag ← bag_at total tops.1
  Ok (Zero id.0 tops.0 bag.0, bag.1)

unfoldable pub block_at : ℕ → FeedFault → List ℕ → Result (Task × List ℕ) FeedFault
block_at total fault bytes = do
  id ← id_at total bytes
  parent ← id_at total id.1
  tops ← tops_at total fault id.0 parent.1
  bag ← bag_at total tops.1
  Ok (Block id.0 parent.0 tops.0 bag.0, bag.1)

unfoldable pub expire_at : ℕ → List ℕ → Result (Task × List ℕ) FeedFault
expire_at total bytes = do
  id ← id_at total bytes
  Ok (Expire id.0, id.1)

unfoldable pub read_at : ℕ → FeedFault → List ℕ → Result (Task × List ℕ) FeedFault
read_at total fault bytes = do
  id ← id_at total bytes
  path ← path_at total fault id.1
  Ok (Read id.0 path.0, path.1)

unfoldable pub slice_at : ℕ → FeedFault → List ℕ → Result (Task × List ℕ) FeedFault
slice_at total fault bytes = do
  id ← id_at total bytes
  max ← max_at total fault id.1
  Ok (Slice id.0 max.0, max.1)

unfoldable pub serve_at : ℕ → FeedFault → List ℕ → Result (Task × List ℕ) FeedFault
serve_at total fault bytes = do
  id ← id_at total bytes
  max ← max_at total fault id.1
  Ok (Serve id.0 max.0, max.1)

unfoldable pub merged_at : ℕ → FeedFault → List ℕ → Result (Task × List ℕ) FeedFault
merged_at total fault bytes = do
  id ← id_at total bytes
  left ← id_at total id.1
  right ← id_at total left.1
  tops ← tops_at total fault id.0 right.1
  bag ← bag_at total tops.1
  Ok (Merged id.0 left.0 right.0 tops.0 bag.0, bag.1)

-- behind a kind byte
unfoldable pub fields_at : ℕ → FeedFault → ℕ → List ℕ → Result (Task × List ℕ) FeedFault
fields_at total fault kind bytes =
    if kind == 1 then zero_at total fault bytes
    else if kind == 2 then block_at total fault bytes
    else if kind == 3 then expire_at total bytes
    else if kind == 4 then read_at total fault bytes
    else if kind == 5 then slice_at total fault bytes
    else if kind == 6 then serve_at total fault bytes
    else if kind == 7 then merged_at total fault bytes
    else Err fault

-- ---- what holds tasks

-- what is left of a feed: the bytes, and whether a Serve stood before them
pub record Rest : Type 0 where
  pub served : Bool
  pub bytes : List ℕ

-- so many values one behind another, each read by its number and with what came before it
unfoldable pub each_from : {F X S : Type 0} → (ℕ → S → Result (X × S) F) → ℕ → ℕ → S → Result (List X × S) F
each_from one i zero rest = Ok ([], rest)
each_from one i (suc count) rest = do
  first ← one i rest
  others ← each_from one (i + 1) count first.1
  Ok (first.0 ∷ others.0, others.1)

-- a second Serve is at fault at its kind byte
unfoldable pub task_at : ℕ → FeedFault → Rest → Result (Task × Rest) FeedFault
task_at total fault rest = do
  kind ← byte_at (Cut total) rest.bytes
  free ← require (not (kind.0 == 6 && rest.served)) fault
  task ← fields_at total fault kind.0 kind.1
  Ok (task.0, record { served = rest.served || kind.0 == 6; bytes = task.1 })

-- so many tasks of a worker
abbrev pub tasks_at : ℕ → ℕ → ℕ → ℕ → Rest → Result (List Task × Rest) FeedFault
tasks_at total phase worker count rest = each_from (λ task. task_at total (TaskFault phase worker task)) 0 count rest

unfoldable pub worker_at : ℕ → ℕ → ℕ → Rest → Result (List Task × Rest) FeedFault
worker_at total phase worker rest = do
  count ← limited_at total 2 0 4096 rest.bytes
  tasks_at total phase worker count.0 (record { served = rest.served; bytes = count.1 })

-- so many workers of a phase
abbrev pub workers_at : ℕ → ℕ → ℕ → Rest → Result (List (List Task) × Rest) FeedFault
workers_at total phase count rest = each_from (worker_at total phase) 0 count rest

unfoldable pub phase_at : ℕ → ℕ → Rest → Result (Phase × Rest) FeedFault
phase_at total phase rest = do
  count ← limited_at total 2 1 16 rest.bytes
  workers ← workers_at total phase count.0 (record { served = rest.served; bytes = count.1 })
  Ok (record { workers = workers.0 }, workers.1)

-- so many phases, before which no Serve stood
abbrev pub phases_at : ℕ → ℕ → List ℕ → Result (List Phase × List ℕ) FeedFault
phases_at total count bytes = do
  phases ← each_from (phase_at total) 0 count (record { served = false; bytes = bytes })
  Ok (phases.0, phases.1.bytes)

-- all of the bytes
unfoldable pub feed_in : List ℕ → Result Feed FeedFault
feed_in bytes = do
  magic ← number_at (Cut (length bytes)) 4 bytes
  known ← require (magic.0 == 0x63646631) Magic
  count ← limited_at (length bytes) 2 0 4096 magic.1
  phases ← phases_at (length bytes) count.0 count.1
  if length phases.1 == 0 then Ok (record { phases = phases.0 }) else Err (Extra (length bytes - length phases.1))

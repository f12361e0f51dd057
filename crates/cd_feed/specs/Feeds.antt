-- Trusted: the text of a feed, and what is within its limits.
use Rattle.std.specs.Prelude.{ℕ, ◌≤◌, ◌<◌, Bool, true, false, List, [], ◌∷◌, ◌++◌, length, IsTrue}
use Rattle.std.specs.List.{flat_map, count_by, sum_by, AllByRecursion}
use Rattle.cd_base.specs.Numbers.{big}
use Rattle.cd_block.specs.declared.block.BlockId.{BlockId}
use Rattle.cd_block.specs.Shard.{is_master}
use Rattle.cd_block.specs.Block.{IsBlockId, key_of}
use Rattle.cd_block.specs.Description.{ids_text}
use Rattle.cd_feed.specs.declared.feed.Task.{Task}
use Rattle.cd_feed.specs.declared.feed.Task.TheVariants.{Zero, Block, Expire, Read, Slice, Serve, Merged}
use Rattle.cd_feed.specs.declared.feed.Phase.{Phase}
use Rattle.cd_feed.specs.declared.feed.Feed.{Feed}

-- ---- the text: numbers have their highest byte first, an id is its key, tops are a byte of their number and their ids

unfoldable pub bag_text : List ℕ → List ℕ
bag_text bag = big 4 (length bag) ++ bag

unfoldable pub path_text : List ℕ → List ℕ
path_text path = length path ∷ path

-- a byte of the kind, and the fields
unfoldable pub task_text : Task → List ℕ
task_text (Zero id tops bag) = 1 ∷ (key_of id ++ (ids_text tops ++ bag_text bag))
task_text (Block id parent tops bag) = 2 ∷ (key_of id ++ (key_of parent ++ (ids_text tops ++ bag_text bag)))
task_text (Expire id) = 3 ∷ key_of id
task_text (Read id path) = 4 ∷ (key_of id ++ path_text path)
task_text (Slice id max) = 5 ∷ (key_of id ++ big 4 max)
task_text (Serve id max) = 6 ∷ (key_of id ++ big 4 max)
task_text (Merged id left right tops bag) = 7 ∷ (key_of id ++ (key_of left ++ (key_of right ++ (ids_text tops ++ bag_text bag))))

-- the number of the tasks, and the tasks
unfoldable pub worker_text : List Task → List ℕ
worker_text tasks = big 2 (length tasks) ++ flat_map task_text tasks

-- the number of the workers, and the workers
unfoldable pub phase_text : Phase → List ℕ
phase_text p = big 2 (length p.workers) ++ flat_map worker_text p.workers

-- the ASCII text cdf1, the number of the phases, and the phases
unfoldable pub feed_text : Feed → List ℕ
feed_text f = big 4 0x63646631 ++ (big 2 (length f.phases) ++ flat_map phase_text f.phases)

-- ---- the limits

pub record IsTopsFit (id : BlockId) (tops : List BlockId) : Type 0 where
  pub few : length tops ≤ 64
  -- shard tops stand on a masterchain block alone
  pub on_master : 0 < length tops → IsTrue (is_master id.shard_id)

abbrev pub IsBagFit : List ℕ → Type 0
IsBagFit bag = length bag ≤ 67108864

pub record IsPathFit (path : List ℕ) : Type 0 where
  pub short : length path ≤ 64
  pub steps : AllByRecursion (λ step. step ≤ 3) path

pub record IsMaxFit (max : ℕ) : Type 0 where
  pub some : 1 ≤ max
  pub most : max ≤ 2097152

unfoldable pub IsTaskFit : Task → Type 0
IsTaskFit (Zero id tops bag) = IsTopsFit id tops × IsBagFit bag
IsTaskFit (Block id parent tops bag) = IsTopsFit id tops × IsBagFit bag
IsTaskFit (Expire id) = Unit {0}
IsTaskFit (Read id path) = IsPathFit path
IsTaskFit (Slice id max) = IsMaxFit max
IsTaskFit (Serve id max) = IsMaxFit max
IsTaskFit (Merged id left right tops bag) = IsTopsFit id tops × IsBagFit bag

pub record IsWorkerFit (all : List Task) : Type 0 where
  pub few : length all ≤ 4096
  pub tasks : AllByRecursion IsTaskFit all

pub record IsPhaseFit (p : Phase) : Type 0 where
  pub some : 1 ≤ length p.workers
  pub few : length p.workers ≤ 16
  pub workers : AllByRecursion IsWorkerFit p.workers

unfoldable pub is_serve : Task → Bool
is_serve (Serve id max) = true
is_serve task = false

-- how many Serves a worker, a phase and a feed have
unfoldable pub worker_serves : List Task → ℕ
worker_serves tasks = count_by is_serve tasks

unfoldable pub phase_serves : Phase → ℕ
phase_serves p = sum_by worker_serves p.workers

unfoldable pub feed_serves : Feed → ℕ
feed_serves f = sum_by phase_serves f.phases

pub record IsFeedFit (f : Feed) : Type 0 where
  pub few : length f.phases ≤ 4096
  pub phases : AllByRecursion IsPhaseFit f.phases
  pub serves : feed_serves f ≤ 1

-- ---- what each feed of the program is; a clause that ranges over all of them has this as its premise

unfoldable pub IsTask : Task → Type 0
IsTask (Zero id tops bag) = IsBlockId id × AllByRecursion IsBlockId tops
IsTask (Block id parent tops bag) = IsBlockId id × IsBlockId parent × AllByRecursion IsBlockId tops
IsTask (Expire id) = IsBlockId id
IsTask (Read id path) = IsBlockId id
IsTask (Slice id max) = IsBlockId id
IsTask (Serve id max) = IsBlockId id
IsTask (Merged id left right tops bag) = IsBlockId id × IsBlockId left × IsBlockId right × AllByRecursion IsBlockId tops

unfoldable pub IsPhase : Phase → Type 0
IsPhase p = AllByRecursion (AllByRecursion IsTask) p.workers

unfoldable pub IsFeed : Feed → Type 0
IsFeed f = AllByRecursion IsPhase f.phases

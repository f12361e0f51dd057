-- Trusted: what stands in a world of the code, which has a description in the place of each state: the blocks by their
-- ids, the pins by worker and number, and the blocks that a masterchain block lets expire.
use Rattle.std.specs.Prelude.{◌≡◌, ℕ, ◌<◌, ◌≤◌, nat_eq, Bool, not, ◌&&◌, if◌then◌else◌, List, find, All, AllPairs, Option, Some, None, IsSome}
use Rattle.std.specs.Option.{option_and_then}
use Rattle.std.specs.List.{filter, list_any, count_by}
use Rattle.std.specs.Ordering.{int_eq}
use Rattle.std.specs.Str.{bytes_eq}
use Rattle.std.specs.declared.cmp.Ordering.TheVariants.{Less}
use Rattle.cd_block.specs.declared.shard.ShardId.{ShardId}
use Rattle.cd_block.specs.declared.block.BlockId.{BlockId}
use Rattle.cd_block.specs.declared.description.Descr.{Descr}
use Rattle.cd_block.specs.Block.{id_cmp}
use Rattle.cd_block.specs.Expiry.{expires}
use Rattle.cd_world.specs.declared.limits.TheConstants.{MOST_PINS}
use Rattle.cd_world.specs.declared.world.PinRow.{PinRow}
use Rattle.cd_world.specs.declared.world.World.{World}

-- ---- blocks

abbrev pub same_shard : ShardId → ShardId → Bool
same_shard a b = int_eq a.workchain b.workchain && nat_eq a.shard b.shard

abbrev pub same_id : BlockId → BlockId → Bool
same_id a b =
    (same_shard a.shard_id b.shard_id && nat_eq a.seqno b.seqno)
    && (bytes_eq a.root.0 b.root.0 && bytes_eq a.file.0 b.file.0)

abbrev pub has_id : BlockId → Descr → Bool
has_id id d = same_id d.id id

-- the block with this id, kept or leaving
abbrev pub block_at : World → BlockId → Option Descr
block_at w id = find (has_id id) w.blocks

abbrev pub unless_leaving : Descr → Option Descr
unless_leaving d = if d.leaving then None else Some d

-- the kept block with this id
abbrev pub kept_at : World → BlockId → Option Descr
kept_at w id = option_and_then unless_leaving (block_at w id)

-- ---- pins

-- whether a pin has this worker and number
abbrev pub is_pin : ℕ → ℕ → PinRow → Bool
is_pin worker number r = nat_eq r.pin number && nat_eq r.worker worker

-- the pin with this number, where it is this worker's
abbrev pub pin_at : World → ℕ → ℕ → Option PinRow
pin_at w worker number = find (is_pin worker number) w.pins

abbrev pub is_of_worker : ℕ → PinRow → Bool
is_of_worker worker r = nat_eq r.worker worker

-- how many pins a worker has
abbrev pub pins_of : World → ℕ → ℕ
pins_of w worker = count_by (is_of_worker worker) w.pins

abbrev pub names_block : BlockId → PinRow → Bool
names_block id r = same_id r.block id

-- whether one of these pins is on the block
abbrev pub is_pinned : List PinRow → BlockId → Bool
is_pinned pins id = list_any (names_block id) pins

-- ---- expiry

-- a kept block expires by a masterchain block and its shard tops
abbrev pub is_expired : Descr → Descr → Bool
is_expired m d = not d.leaving && expires d.id m.id m.tops

abbrev pub expired : World → Descr → List Descr
expired w m = filter (is_expired m) w.blocks

-- ---- what is plain of a world

abbrev pub IsBeforeBlock : Descr → Descr → Type 0
IsBeforeBlock a b = id_cmp a.id b.id ≡ Less

abbrev pub IsBeforePin : PinRow → PinRow → Type 0
IsBeforePin r s = r.pin < s.pin

-- The blocks stand in the order of their ids, each once. The pins stand in the order of their numbers, which are below
-- the next, each on a block that is there, and no worker has more than 64.
pub record IsTidy (w : World) : Type 0 where
  pub ordered : AllPairs IsBeforeBlock w.blocks
  pub numbered : AllPairs IsBeforePin w.pins
  pub below : All (λ r. r.pin < w.next) w.pins
  pub on_blocks : All (λ r. IsSome (block_at w r.block)) w.pins
  pub few : (worker : ℕ) → pins_of w worker ≤ MOST_PINS

-- Trusted: which blocks the shard tops of a masterchain block have passed.
use Rattle.std.specs.Prelude.{nat_lt, ◌&&◌, Bool, List, if◌then◌else◌}
use Rattle.std.specs.List.{filter, list_any, list_all}
use Rattle.cd_block.specs.declared.block.BlockId.{BlockId}
use Rattle.cd_block.specs.Shard.{meets, is_master}

-- the tops that an id's shard meets
unfoldable pub tops_met : BlockId → List BlockId → List BlockId
tops_met id tops = filter (λ top. meets id.shard_id top.shard_id) tops

-- a block meets a top, and is older than every top that it meets
unfoldable pub is_passed : BlockId → List BlockId → Bool
is_passed id tops =
    list_any (λ top. meets id.shard_id top.shard_id) tops && list_all (λ top. nat_lt id.seqno top.seqno) (tops_met id tops)

-- A masterchain block expires where it is older than the master block, and a shard block where the tops passed it.
unfoldable pub expires : BlockId → BlockId → List BlockId → Bool
expires id master tops = if is_master id.shard_id then nat_lt id.seqno master.seqno else is_passed id tops

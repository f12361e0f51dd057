-- Trusted: which parents a block may have.
use Rattle.std.specs.Prelude.{ℕ, ◌+◌, ◌==◌, ◌&&◌, ◌||◌, not, max, nat_lt, Bool, negsuc, List, [], ◌∷◌, Option, Some, None, if◌then◌else◌}
use Rattle.std.specs.Ordering.{int_eq}
use Rattle.cd_block.specs.declared.shard.ShardId.{ShardId}
use Rattle.cd_block.specs.declared.block.BlockId.{BlockId}
use Rattle.cd_block.specs.declared.ancestry.LineageFault.{LineageFault}
use Rattle.cd_block.specs.declared.ancestry.LineageFault.TheVariants.{Shard, Seqno}
use Rattle.cd_block.specs.Shard.{is_child_of, is_master}

-- the shard number has a tag, and the workchain -1 has the whole shard alone
unfoldable pub is_valid_shard : ShardId → Bool
is_valid_shard s = not (s.shard == 0) && (not (int_eq s.workchain (negsuc 0)) || is_master s)

-- the shard stays the parent's, or is a child of it
unfoldable pub stays_or_splits : ShardId → ShardId → Bool
stays_or_splits s parent = (int_eq s.workchain parent.workchain && s.shard == parent.shard) || is_child_of s parent

-- the shard is asked first, and then the seqno
unfoldable pub fault_by : Bool → ℕ → ℕ → Option LineageFault
fault_by shard_fits stated due =
    if not shard_fits then Some Shard else if stated == due then None else Some (Seqno stated due)

-- the shard's left and right half, in that order: the left one has the smaller number
unfoldable pub are_halves : ShardId → ShardId → ShardId → Bool
are_halves left right s = (is_child_of left s && is_child_of right s) && nat_lt left.shard right.shard

-- A zero state has no parent, and each other block one, or two after a merge of two shards: the left child, and then
-- the right one.
unfoldable pub lineage_fault : BlockId → List BlockId → Option LineageFault
lineage_fault id [] = fault_by (is_valid_shard id.shard_id) id.seqno 0
lineage_fault id (parent ∷ []) =
    fault_by (is_valid_shard id.shard_id && stays_or_splits id.shard_id parent.shard_id) id.seqno (parent.seqno + 1)
lineage_fault id (left ∷ right ∷ []) =
    fault_by (are_halves left.shard_id right.shard_id id.shard_id) id.seqno (max left.seqno right.seqno + 1)
lineage_fault id (left ∷ right ∷ other ∷ more) = Some Shard

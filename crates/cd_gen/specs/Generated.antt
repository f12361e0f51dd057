-- Trusted: the feed of a number.
use Rattle.std.specs.Prelude.{ℕ, ◌-◌, ◌*◌, ◌/◌, ◌%◌, ◌^◌, ◌==◌, nat_lt, pos, negsuc, List, [], ◌∷◌, ◌++◌, map, replicate, if◌then◌else◌}
use Rattle.std.specs.List.{range_with_len}
use Rattle.std.specs.Int.{w32, w64, to_be_bytes}
use Rattle.cd_base.specs.declared.hash.Hash256.{Hash256}
use Rattle.cd_boc_write.specs.Exports.{bag_of}
use Rattle.cd_block.specs.declared.shard.ShardId.{ShardId}
use Rattle.cd_block.specs.declared.block.BlockId.{BlockId}
use Rattle.cd_feed.specs.declared.feed.Task.{Task}
use Rattle.cd_feed.specs.declared.feed.Task.TheVariants.{Zero, Block, Expire, Read, Slice}
use Rattle.cd_feed.specs.declared.feed.Phase.{Phase}
use Rattle.cd_feed.specs.declared.feed.Feed.{Feed}
use Rattle.cd_gen.specs.States.{sha, state_of, zero_root, update_of}

-- chain 0 is the masterchain, chains 1 and 2 are the halves of workchain 0
abbrev pub shard_of : ℕ → ShardId
shard_of chain =
    if chain == 0 then record { workchain = negsuc 0; shard = 0x8000000000000000 }
    else if chain == 1 then record { workchain = pos 0; shard = 0x4000000000000000 }
    else record { workchain = pos 0; shard = 0xc000000000000000 }

-- the root hash of a zero state is its own, that of another block names the chain and the seqno
abbrev pub root_of : ℕ → ℕ → ℕ → Hash256
root_of number chain seqno =
    if seqno == 0 then zero_root number chain else record { 0 = replicate 27 0 ++ chain ∷ to_be_bytes w32 seqno }

-- the file hash names the feed's number
unfoldable pub block_id : ℕ → ℕ → ℕ → BlockId
block_id number chain seqno = record {
  shard_id = shard_of chain;
  seqno = seqno;
  root = root_of number chain seqno;
  file = record { 0 = replicate 24 0 ++ to_be_bytes w64 number };
}

-- the bags are exports: of the whole state of a zero state, and of the update of another block
unfoldable pub zero_bag : ℕ → ℕ → List ℕ
zero_bag number chain = bag_of sha (state_of number chain 0)

unfoldable pub update_bag : ℕ → ℕ → ℕ → List ℕ
update_bag number chain seqno = bag_of sha (update_of number chain seqno)

-- a zero state
abbrev pub zero_task : ℕ → ℕ → List BlockId → Task
zero_task number chain tops = Zero (block_id number chain 0) tops (zero_bag number chain)

-- a block on the one before it
abbrev pub block_task : ℕ → ℕ → ℕ → List BlockId → Task
block_task number chain seqno tops =
    Block (block_id number chain seqno) (block_id number chain (seqno - 1)) tops (update_bag number chain seqno)

-- the blocks of a seqno of both shards
abbrev pub shard_blocks : ℕ → ℕ → List BlockId
shard_blocks number seqno = block_id number 1 seqno ∷ block_id number 2 seqno ∷ []

-- one worker stores the zero states
unfoldable pub zero_phase : ℕ → Phase
zero_phase number = record {
  workers = (zero_task number 0 (shard_blocks number 0) ∷ zero_task number 1 [] ∷ zero_task number 2 [] ∷ []) ∷ [];
}

-- the bits of a number of nine, the highest first
abbrev pub path_of : ℕ → List ℕ
path_of leaf = map (λ step. (leaf / 2 ^ (8 - step)) % 2) (range_with_len 0 9)

-- the masterchain's last block is that of seqno 66
unfoldable pub master_tasks : ℕ → ℕ → List Task
master_tasks number seqno =
    if nat_lt 66 seqno then [] else block_task number 0 seqno (shard_blocks number seqno) ∷ []

unfoldable pub reading_tasks : ℕ → ℕ → List Task
reading_tasks number seqno =
    Read (block_id number 1 (seqno - 1)) (path_of ((7 * seqno) % 512))
    ∷ (if seqno % 16 == 0 then Slice (block_id number 2 (seqno - 1)) 4096 ∷ [] else [])

unfoldable pub expiring_tasks : ℕ → ℕ → List Task
expiring_tasks number seqno = if seqno % 8 == 0 then Expire (block_id number 0 (seqno - 1)) ∷ [] else []

-- the five workers with the blocks of a seqno
unfoldable pub block_phase : ℕ → ℕ → Phase
block_phase number seqno = record {
  workers = (block_task number 1 seqno [] ∷ []) ∷ (block_task number 2 seqno [] ∷ [])
      ∷ master_tasks number seqno ∷ reading_tasks number seqno ∷ expiring_tasks number seqno ∷ [];
}

-- the zero states, and the blocks of the seqnos 1 to 67
unfoldable pub feed_of : ℕ → Feed
feed_of number = record { phases = zero_phase number ∷ map (block_phase number) (range_with_len 1 67) }

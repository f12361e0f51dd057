-- Trusted: the names of blocks and their keys of 80 bytes.
use Rattle.std.specs.Prelude.{◌≡◌, ℕ, ◌^◌, ◌<◌, List, ◌++◌, length, take, FitsSigned, slice_index, slice_range}
use Rattle.std.specs.Int.{w32, w64, to_be_bytes, from_be_bytes, cast_unsigned, cast_signed}
use Rattle.std.specs.Cmp.Lexicographic.{slice_cmp}
use Rattle.std.specs.Ordering.{on, then_cmp, nat_cmp}
use Rattle.std.specs.declared.cmp.Ordering.{Ordering}
use Rattle.cd_base.specs.declared.hash.Hash256.{Hash256}
use Rattle.cd_block.specs.declared.shard.ShardId.{ShardId}
use Rattle.cd_block.specs.declared.block.BlockId.{BlockId}
use Rattle.cd_block.specs.Shard.{shard_cmp}

-- What each hash, shard and id of the program is. A clause that ranges over all of them has this as its premise,
-- since the numbers of a clause have no bound.
pub record IsHash (hash : Hash256) : Type 0 where
  pub len : length hash.0 ≡ 32
  pub bytes : (i : ℕ) → slice_index hash.0 i < 256

pub record IsShardId (s : ShardId) : Type 0 where
  pub workchain : FitsSigned w32 s.workchain
  pub shard : s.shard < 2 ^ 64

pub record IsBlockId (id : BlockId) : Type 0 where
  pub shard_id : IsShardId id.shard_id
  pub seqno : id.seqno < 2 ^ 32
  pub root : IsHash id.root
  pub file : IsHash id.file

-- four bytes of workchain, in two's complement, and eight of the shard number
unfoldable pub shard_key : ShardId → List ℕ
shard_key s = to_be_bytes w32 (cast_unsigned w32 s.workchain) ++ to_be_bytes w64 s.shard

-- the key of a block: the shard, four bytes of seqno, the root hash and the file hash
unfoldable pub key_of : BlockId → List ℕ
key_of id = shard_key id.shard_id ++ to_be_bytes w32 id.seqno ++ id.root.0 ++ id.file.0

-- the id whose key these 80 bytes are
unfoldable pub id_of : List ℕ → BlockId
id_of key = record {
  shard_id = record {
    workchain = cast_signed w32 (from_be_bytes w32 (take 4 key));
    shard = from_be_bytes w64 (slice_range key 4 12);
  };
  seqno = from_be_bytes w32 (slice_range key 12 16);
  root = record { 0 = slice_range key 16 48 };
  file = record { 0 = slice_range key 48 80 };
}

-- the order of ids, by their fields; on the ids of the program it is the order of their keys
abbrev pub id_cmp : BlockId → BlockId → Ordering
id_cmp = then_cmp (on (λ id. id.shard_id) shard_cmp) (then_cmp (on (λ id. id.seqno) nat_cmp) (then_cmp (on (λ id. id.root.0) (slice_cmp nat_cmp)) (on (λ id. id.file.0) (slice_cmp nat_cmp))))

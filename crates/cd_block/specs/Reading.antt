-- Trusted: reading a description from left to right, with the first fault that is met.
use Rattle.std.specs.Prelude.{◌≡◌, ℕ, zero, suc, ◌==◌, nat_lt, List, [], ◌∷◌, length, take, drop, Result, Ok, Err, if◌then◌else◌}
use Rattle.std.specs.Int.{w16, from_be_bytes}
use Rattle.cd_base.specs.Reading.{◌>>=◌, GivesUnless, part_at, each_at}
use Rattle.cd_block.specs.declared.shard.ShardId.{ShardId}
use Rattle.cd_block.specs.declared.block.BlockId.{BlockId}
use Rattle.cd_block.specs.declared.description.Descr.{Descr}
use Rattle.cd_block.specs.declared.description.DescrFault.{DescrFault}
use Rattle.cd_block.specs.declared.description.DescrFault.TheVariants.{Version, Cut, Extra, Form, Memory}
use Rattle.cd_block.specs.Shard.{is_master}
use Rattle.cd_block.specs.Block.{id_of}

-- What a call answered, seen by view, is what reading gives, unless memory ran out.
abbrev pub Gives : {X Y : Type 0} → (X → Y) → Result X DescrFault → Result Y DescrFault → Type 0
Gives view result read = GivesUnless Memory view result read

-- the first byte
unfoldable pub version_at : List ℕ → Result (List ℕ) DescrFault
version_at [] = Err Cut
version_at (version ∷ rest) = if version == 1 then Ok rest else Err Version

-- a byte that is at most so much
unfoldable pub small_at : ℕ → List ℕ → Result (ℕ × List ℕ) DescrFault
small_at most [] = Err Cut
small_at most (byte ∷ rest) = if nat_lt most byte then Err Form else Ok (byte, rest)

-- two bytes of depth
unfoldable pub depth_at : List ℕ → Result (ℕ × List ℕ) DescrFault
depth_at bytes = do
  part ← part_at Cut 2 bytes
  if nat_lt 1024 (from_be_bytes w16 part.0) then Err Form else Ok (from_be_bytes w16 part.0, part.1)

-- a key
unfoldable pub id_at : List ℕ → Result (BlockId × List ℕ) DescrFault
id_at bytes = do
  key ← part_at Cut 80 bytes
  Ok (id_of key.0, key.1)

-- shard tops stand on a masterchain block alone
unfoldable pub most_tops : ShardId → ℕ
most_tops shard = if is_master shard then 64 else 0

-- the whole of a value, under a key
unfoldable pub descr_in : List ℕ → List ℕ → Result Descr DescrFault
descr_in key value = do
  flags ← version_at value
  leaving ← small_at 1 flags
  parent_count ← small_at 2 leaving.1
  parents ← each_at id_at parent_count.0 parent_count.1
  root ← part_at Cut 32 parents.1
  depth ← depth_at root.1
  top_count ← small_at (most_tops (id_of key).shard_id) depth.1
  tops ← each_at id_at top_count.0 top_count.1
  if length tops.1 == 0
      then Ok (record {
        id = id_of key;
        parents = parents.0;
        root = record { 0 = root.0 };
        depth = depth.0;
        tops = tops.0;
        leaving = leaving.0 == 1;
      })
      else Err Extra

-- Trusted: the spelling of a block's name.
use Rattle.std.specs.Prelude.{ℕ, List, ◌++◌, codes}
use Rattle.std.specs.Int.{w64, to_be_bytes}
use Rattle.std.specs.Fmt.{decimal, signed_decimal}
use Rattle.hex.specs.Hex.{encode_lower}
use Rattle.cd_block.specs.declared.block.BlockId.{BlockId}

-- (W,S,N):R:F with the workchain and the seqno in decimal, and the shard and the hashes in hex
unfoldable pub id_text : BlockId → List ℕ
id_text id =
    codes "(" ++ signed_decimal id.shard_id.workchain ++ codes "," ++ encode_lower (to_be_bytes w64 id.shard_id.shard)
    ++ codes "," ++ decimal id.seqno ++ codes "):" ++ encode_lower id.root.0 ++ codes ":" ++ encode_lower id.file.0

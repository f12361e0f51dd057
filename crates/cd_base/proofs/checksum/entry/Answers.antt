use Rattle.std.proofs.Common.{◌≡◌, ℕ, ◌<◌, ◌+◌, ◌*◌, map, get_or, List, refl, ap, ◌∙◌, arith}
use Rattle.std.specs.List.{range_with_len}
use Rattle.std.proofs.lemmas.List.FromFn.{get_or-map-range_with_len}
use Rattle.cd_base.specs.Checksum.{crc_bits}
use Rattle.cd_base.specs.declared.checksum.TheConstants.{TABLES}
use Rattle.cd_base.proofs.checksum.entry.Goals as goal

row_of : ℕ → List ℕ
row_of row = map (crc_bits (8 * (row + 1))) (range_with_len 0 256)

-- each of the entries, computed bit by bit
are_tables : TABLES ≡ map row_of (range_with_len 0 4)
unfolding crc_bits row_of
are_tables = refl

entry_of : (tables : List (List ℕ)) (none : List ℕ) (row index byte : ℕ) → tables ≡ map row_of (range_with_len 0 4) → row < 4 → index ≡ byte → byte < 256 → get_or (get_or tables row none) index 0 ≡ crc_bits (8 * (row + 1)) byte
unfolding row_of
entry_of tables none row index byte are in_tables same in_row =
    ap (λ t. get_or (get_or t row none) index 0) are
    ∙ ap (λ r. get_or r index 0) (get_or-map-range_with_len row_of 0 4 row row none in_tables (omega arith))
    ∙ get_or-map-range_with_len (crc_bits (8 * (row + 1))) 0 256 index byte 0 (omega arith) (omega arith)

pub returns : goal.returns
returns c = entry_of TABLES _ c.args.row c.from.result c.args.byte are_tables c.requires c.from.ensures (omega arith)

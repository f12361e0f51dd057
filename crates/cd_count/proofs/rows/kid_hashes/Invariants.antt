use Rattle.std.proofs.Common.{◌≡◌, take, map, length}
use Rattle.cd_cell.specs.Infos.{rep_of_info}
use Rattle.cd_count.proofs.rows.kid_hashes.Given as goal

abbrev pub invariant-loop-place : goal.invariant-loop-place
invariant-loop-place l = record {
  four : length l.hashes ≡ 4;
  first : take l.place l.hashes ≡ map rep_of_info (take l.place l.kids);
}

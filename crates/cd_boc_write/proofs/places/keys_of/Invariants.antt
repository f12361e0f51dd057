use Rattle.std.proofs.Common.{◌≡◌, ◌<◌, ℕ, List, length, get_or}
use Rattle.cd_cell.specs.declared.new_cell.NewCell.{NewCell}
use Rattle.cd_boc_write.specs.declared.placed_hash.PlacedHash.{PlacedHash}
use Rattle.cd_boc_write.specs.Keys.{placed_at}
use Rattle.cd_boc_write.proofs.places.keys_of.Given as goal

pub record AreMade (cells : List NewCell) (keys : List PlacedHash) (count : ℕ) : Type 0 where
  pub counted : length keys ≡ count
  pub made : (k : ℕ) (d : PlacedHash) → k < count → get_or keys k d ≡ placed_at cells k

abbrev pub invariant-loop-place : goal.invariant-loop-place
invariant-loop-place l = AreMade l.cells l.keys.items l.place

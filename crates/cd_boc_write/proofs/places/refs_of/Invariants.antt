use Rattle.std.proofs.Common.{◌≡◌, ℕ, List, length, take}
use Rattle.cd_cell.specs.declared.info.ChildInfo.{ChildInfo}
use Rattle.cd_cell.specs.declared.new_cell.NewCell.{NewCell}
use Rattle.cd_boc_write.specs.declared.placed_hash.PlacedHash.{PlacedHash}
use Rattle.cd_boc_write.specs.Exports.{refs_among}
use Rattle.cd_boc_write.specs.Keys.{AreKeysOf}
use Rattle.cd_boc_write.proofs.places.refs_of.Given as goal

pub record AreRefs (keys : List PlacedHash) (kids : List ChildInfo) (refs : List ℕ) (count : ℕ) : Type 0 where
  pub four : length refs ≡ 4
  pub found : (cells : List NewCell) → AreKeysOf cells keys → take count refs ≡ refs_among cells (take count kids)

abbrev pub invariant-loop-at : goal.invariant-loop-at
invariant-loop-at l = AreRefs l.keys l.kids l.refs l.at

use Rattle.std.proofs.Common.{◌≡◌, map, take}
use Rattle.cd_prepare.specs.Keys.{cell_of_key}
use Rattle.cd_prepare.proofs.listing.cells_of.Given as goal

abbrev pub invariant-loop-key : goal.invariant-loop-key
invariant-loop-key l = l.cells.items ≡ map (cell_of_key l.faces) (take l.key-index l.keys)

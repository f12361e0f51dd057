use Rattle.std.proofs.Common.{◌≡◌, map, take}
use Rattle.cd_gen.specs.Keys.{cell_at}
use Rattle.cd_gen.proofs.export.cells_of.Given as goal

abbrev pub invariant-loop-key : goal.invariant-loop-key
invariant-loop-key l = l.listed.items ≡ map (cell_at l.cells) (take l.key-index l.keys)

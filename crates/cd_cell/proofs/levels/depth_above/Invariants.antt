use Rattle.std.proofs.Common.{◌≡◌, ◌≤◌, take}
use Rattle.cd_cell.specs.Infos.{depth_above}
use Rattle.cd_cell.proofs.levels.depth_above.Given as goal

abbrev pub invariant-loop-kid : goal.invariant-loop-kid
invariant-loop-kid l = (l.depth ≡ depth_above l.level (take l.kid-index l.kids)) × (l.depth ≤ 65536)

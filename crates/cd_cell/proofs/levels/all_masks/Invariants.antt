use Rattle.std.proofs.Common.{◌≡◌, take}
use Rattle.cd_cell.specs.Infos.{all_masks}
use Rattle.cd_cell.proofs.levels.all_masks.Given as goal

abbrev pub invariant-loop-kid : goal.invariant-loop-kid
invariant-loop-kid l = l.mask ≡ all_masks (take l.kid-index l.kids)

use Rattle.std.proofs.Common.{◌≡◌, ◌+◌, ◌*◌, ◌++◌, length, take}
use Rattle.cd_cell.specs.Levels.{depths_text}
use Rattle.cd_cell.proofs.levels.put_depths.Given as goal

abbrev pub invariant-loop-kid : goal.invariant-loop-kid
invariant-loop-kid l =
    (l.text ≡ l.initial.text ++ depths_text l.level (take l.kid-index l.kids)) × (length l.text ≡ length l.initial.text + 2 * l.kid-index)

use Rattle.std.proofs.Common.{◌≡◌, ◌+◌, ◌*◌, ◌++◌, length, take}
use Rattle.cd_cell.specs.Levels.{hashes_text}
use Rattle.cd_cell.proofs.levels.put_hashes.Given as goal

abbrev pub invariant-loop-kid : goal.invariant-loop-kid
invariant-loop-kid l =
    (l.text ≡ l.initial.text ++ hashes_text l.level (take l.kid-index l.kids)) × (length l.text ≡ length l.initial.text + 32 * l.kid-index)

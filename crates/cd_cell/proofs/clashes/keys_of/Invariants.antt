use Rattle.std.proofs.Common.{◌≡◌, take}
use Rattle.cd_cell.specs.Infos.{rep_of_info}
use Rattle.cd_cell.specs.ClashSearch.{numbered_from}
use Rattle.cd_cell.proofs.clashes.keys_of.Given as goal

abbrev pub invariant-loop-number : goal.invariant-loop-number
invariant-loop-number l = l.keys.items ≡ numbered_from rep_of_info 0 (take l.number l.infos)

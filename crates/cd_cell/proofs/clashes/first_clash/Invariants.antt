use Rattle.cd_cell.specs.ClashSearch.{AllAgree}
use Rattle.cd_cell.proofs.clashes.first_clash.Given as goal

abbrev pub invariant-loop-place : goal.invariant-loop-place
invariant-loop-place l = AllAgree l.faces l.keys l.place

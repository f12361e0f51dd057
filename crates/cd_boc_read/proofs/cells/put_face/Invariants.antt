use Rattle.std.proofs.Common.{◌≡◌, get_or, map, take}
use Rattle.cd_cell.specs.CellFaults.{no_info}
use Rattle.cd_boc_read.proofs.cells.put_face.Given as goal

abbrev pub invariant-loop-child : goal.invariant-loop-child
invariant-loop-child l = l.face ≡ record { exotic = l.text.exotic; bits = l.text.bits; kids = map (λ r. get_or l.infos r no_info) (take l.child-index l.child-items) }

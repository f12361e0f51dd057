-- What is left tells.
use Rattle.std.proofs.Common.{◌≡◌, drop}
use Rattle.std.specs.List.{list_any}
use Rattle.cd_cell.specs.Equality.{same_face}
use Rattle.cd_update.proofs.own.is_among.Given as goal

abbrev pub invariant-loop-other : goal.invariant-loop-other
invariant-loop-other l = list_any (same_face l.face) (drop l.other-index l.faces) ≡ list_any (same_face l.face) l.faces

-- What is left tells.
use Rattle.std.proofs.Common.{◌≡◌, drop}
use Rattle.std.specs.List.{list_any}
use Rattle.cd_cell.specs.Equality.{same_info}
use Rattle.cd_update.proofs.known.is_among.Given as goal

abbrev pub invariant-loop-other : goal.invariant-loop-other
invariant-loop-other l = list_any (same_info l.info) (drop l.other-index l.infos) ≡ list_any (same_info l.info) l.infos

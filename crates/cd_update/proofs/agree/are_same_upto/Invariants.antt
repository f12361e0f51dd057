-- The levels so far.
use Rattle.std.proofs.Common.{◌≡◌}
use Rattle.cd_cell.specs.Updates.{same_upto}
use Rattle.cd_update.proofs.agree.are_same_upto.Given as goal

abbrev pub invariant-loop-level : goal.invariant-loop-level
invariant-loop-level l = l.same ≡ same_upto l.level l.a l.b

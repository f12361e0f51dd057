use Rattle.std.proofs.Common.{◌≡◌, None, take}
use Rattle.std.specs.Prelude.{find}
use Rattle.cd_core.specs.Settling.{is_leaving}
use Rattle.cd_core.proofs.settling.leaving_place.Given as goal

abbrev pub invariant-loop-place : goal.invariant-loop-place
invariant-loop-place l = find is_leaving (take l.place l.world.blocks) ≡ None

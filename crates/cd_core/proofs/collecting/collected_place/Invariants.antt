use Rattle.std.proofs.Common.{◌≡◌, false, take}
use Rattle.std.specs.List.{list_any}
use Rattle.cd_world.specs.Changes.{goes_with}
use Rattle.cd_core.proofs.collecting.collected_place.Given as goal

abbrev pub invariant-loop-place : goal.invariant-loop-place
invariant-loop-place l = list_any (goes_with l.world l.row) (take l.place l.world.blocks) ≡ false

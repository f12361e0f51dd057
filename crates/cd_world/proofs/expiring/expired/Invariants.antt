use Rattle.std.proofs.Common.{◌≡◌, map, take}
use Rattle.std.specs.List.{filter}
use Rattle.cd_world.specs.Standing.{is_expired}
use Rattle.cd_world.proofs.expiring.expired.Given as goal

abbrev pub invariant-loop-block : goal.invariant-loop-block
invariant-loop-block l = l.ids.items ≡ map (λ d. d.id) (filter (is_expired l.master) (take l.block-index l.world.blocks))

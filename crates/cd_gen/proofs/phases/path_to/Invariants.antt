use Rattle.std.proofs.Common.{◌≡◌, ◌-◌, ◌/◌, ◌%◌, ◌^◌, map}
use Rattle.std.specs.List.{range_with_len}
use Rattle.cd_gen.proofs.phases.path_to.Given as goal

abbrev pub invariant-loop-step : goal.invariant-loop-step
invariant-loop-step l = l.path.items ≡ map (λ step. (l.leaf / 2 ^ (8 - step)) % 2) (range_with_len 0 l.step)

use Rattle.std.proofs.Common.{◌-◌, ◌/◌, ◌%◌, ◌^◌, ℕ, sym, arith}
use Rattle.std.proofs.lemmas.List.FromFn.{map-range_with_len_more}
use Rattle.cd_gen.proofs.phases.path_to.Goals as goal

pub loop-step-preserved : goal.loop-step-preserved
loop-step-preserved c =
    let f = λ (step : ℕ). (c.args.leaf / 2 ^ (8 - step)) % 2 in
    rw c.in_ok-push.ensures.items (rw (c.loop-step.invariant, c.bit.ensures) (sym (map-range_with_len_more f 0 c.loop-step.step c.loop-step.step (omega arith))))

use Rattle.std.proofs.Common.{◌≡◌}
use Rattle.cd_gate.specs.Gates.{IsSameSeat}
use Rattle.cd_gate.proofs.steps.await_turn.Given as goal

abbrev pub invariant-loop : goal.invariant-loop
invariant-loop g l = IsSameSeat l.initial.seat l.seat × (l.seat.me ≡ l.initial.seat.me)

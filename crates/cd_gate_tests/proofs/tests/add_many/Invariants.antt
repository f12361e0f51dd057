use Rattle.std.proofs.Common.{◌≡◌}
use Rattle.cd_gate_tests.proofs.tests.add_many.Given as goal

-- the seat has seen more, and is else as it was
abbrev pub invariant-loop-amount : goal.invariant-loop-amount
invariant-loop-amount g l = l.seat ≡ record l.initial.seat { seen = l.seat.seen }

use Rattle.std.proofs.Common.{◌≡◌}
use Rattle.cd_shared_tests.proofs.tests.see_often.Given as goal

-- the seat has seen more, and is else as it was
abbrev pub invariant-loop : goal.invariant-loop
invariant-loop g l = l.seat ≡ record l.initial.seat { seen = l.seat.seen }

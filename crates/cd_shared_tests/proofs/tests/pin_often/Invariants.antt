use Rattle.cd_shared_tests.proofs.tests.pin_often.Given as goal

-- the turns went on
abbrev pub invariant-loop : goal.invariant-loop
invariant-loop g l = g.T.Turns.goes l.initial.turns l.turns

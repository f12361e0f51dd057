use Rattle.cd_upkeep.proofs.checking.check.Goals as goal

pub returns-clause-ends : goal.returns-clause-ends
returns-clause-ends g c = rw (c.of.ensures.status, c.of.ensures.keeper) c.check_and_print-status.ensures

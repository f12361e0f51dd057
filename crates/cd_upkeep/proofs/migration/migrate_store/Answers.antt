use Rattle.cd_upkeep.proofs.migration.migrate_store.Goals as goal

pub returns-clause-ends : goal.returns-clause-ends
returns-clause-ends g c = rw (c.of.ensures.status, c.of.ensures.keeper) c.rewrite_and_print-status.ensures

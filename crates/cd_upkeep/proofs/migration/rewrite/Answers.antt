use Rattle.std.proofs.Common.{sym, subst}
use Rattle.cd_upkeep.specs.MigrateCall.{IsUnmigrated}
use Rattle.cd_upkeep.proofs.MigrateLaws.{unmigrated-unchecked, unmigrated-by, migrated-all}
use Rattle.cd_upkeep.proofs.migration.rewrite.Goals as goal

pub returns-in-Err-clause-refused : goal.returns-in-Err-clause-refused
returns-in-Err-clause-refused g c =
    unmigrated-unchecked g.H.Hash32.digest_of g.K.Keeper c.args.keeper.now c.read_store.new.keeper c.in-Err.status c.in-Err.ensures.refused

pub returns-in-Ok-migrate-clause-done : goal.returns-in-Ok-migrate-clause-done
returns-in-Ok-migrate-clause-done g c =
    migrated-all g.H.Hash32.digest_of g.K.Keeper c.args.keeper.now c.read_store.new.keeper c.migrate.new.keeper c.in-Ok.field-0 c.in-Ok.ensures.read
    c.in-Ok-migrate.done c.in-Ok-migrate.ensures.part c.in-Ok-migrate.ensures.numbers c.in-Ok-migrate.ensures.cause.steady

pub returns-in-Err-migrate-clause-refused : goal.returns-in-Err-migrate-clause-refused
returns-in-Err-migrate-clause-refused g c =
    subst (IsUnmigrated g.H.Hash32.digest_of g.K.Keeper c.args.keeper.now c.migrate.new.keeper) (sym c.status_by.ensures)
    (unmigrated-by g.H.Hash32.digest_of g.K.Keeper c.args.keeper.now c.read_store.new.keeper c.migrate.new.keeper c.in-Ok.field-0 c.in-Ok.ensures.read
    c.in-Err-migrate.fault c.in-Err-migrate.ensures.part c.in-Err-migrate.ensures.cause.caused)

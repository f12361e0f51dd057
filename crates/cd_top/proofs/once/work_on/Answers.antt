use Rattle.std.proofs.Common.{refl}
use Rattle.cd_top.proofs.once.work_on.Goals as goal

pub returns-in-Check : goal.returns-in-Check
returns-in-Check g c = rw c.in-Check.is (c.check.ensures.ends, refl, c.check.ensures.no_entry, refl)

pub returns-in-Migrate : goal.returns-in-Migrate
returns-in-Migrate g c = rw c.in-Migrate.is (c.migrate_store.ensures.ends, refl, c.migrate_store.ensures.no_entry, refl)

pub returns-in-Gen : goal.returns-in-Gen
returns-in-Gen g c = rw (c.in-Gen.is, c.of.ensures.status, c.of.ensures.keeper) (c.print_feed.ensures, refl, refl, c.of.ensures.journal, refl)

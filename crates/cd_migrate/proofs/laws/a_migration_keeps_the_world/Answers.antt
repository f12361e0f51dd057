use Rattle.cd_migrate.proofs.Kept.{keeps_the_world}
use Rattle.cd_migrate.proofs.laws.a_migration_keeps_the_world.Goals as goal

pub returns : goal.returns
returns g c = keeps_the_world g.H.Hash32.digest_of

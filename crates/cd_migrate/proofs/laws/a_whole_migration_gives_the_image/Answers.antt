use Rattle.cd_migrate.proofs.Kept.{gives_the_image}
use Rattle.cd_migrate.proofs.laws.a_whole_migration_gives_the_image.Goals as goal

pub returns : goal.returns
returns g c = gives_the_image g.H.Hash32.digest_of

use Rattle.cd_world.proofs.TidyWorlds.{tidy_replay}
use Rattle.cd_world.proofs.laws.a_tidy_world_stays_tidy.Goals as goal

pub returns : goal.returns
returns g c = tidy_replay g.H.Hash32.digest_of

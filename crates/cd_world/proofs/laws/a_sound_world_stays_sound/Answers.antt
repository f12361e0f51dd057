use Rattle.cd_world.proofs.SoundWorlds.{stays_sound}
use Rattle.cd_world.proofs.laws.a_sound_world_stays_sound.Goals as goal

pub returns : goal.returns
returns g c = stays_sound g.H.Hash32.digest_of

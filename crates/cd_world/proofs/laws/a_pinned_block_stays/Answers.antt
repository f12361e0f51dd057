use Rattle.cd_world.proofs.PinsStay.{stays}
use Rattle.cd_world.proofs.laws.a_pinned_block_stays.Goals as goal

pub returns : goal.returns
returns g c = stays g.H.Hash32.digest_of

use Rattle.cd_world.proofs.OldInfos.{old_tree-known}
use Rattle.cd_world.proofs.laws.a_world_knows_the_old_tree.Goals as goal

pub returns : goal.returns
returns g c = old_tree-known g.H.Hash32.digest_of

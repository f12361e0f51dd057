use Rattle.cd_world.proofs.UnfoldedTrees.{contents_tell}
use Rattle.cd_world.proofs.laws.contents_tell_the_trees.Goals as goal

pub returns : goal.returns
returns g c = contents_tell g.H.Hash32.digest_of g.met.H.Hash32.has_32_bytes

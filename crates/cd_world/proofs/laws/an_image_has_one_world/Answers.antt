use Rattle.cd_world.proofs.EqualImages.{equal_images, one_world}
use Rattle.cd_world.proofs.laws.an_image_has_one_world.Goals as goal

pub returns-clause-image : goal.returns-clause-image
returns-clause-image g c = equal_images g.H.Hash32.digest_of g.met.H.Hash32.has_32_bytes

pub returns-clause-contents : goal.returns-clause-contents
returns-clause-contents g c = one_world g.H.Hash32.digest_of g.met.H.Hash32.has_32_bytes

use Rattle.cd_cell.proofs.FaceLemmas.{AreKids-put}
use Rattle.cd_cell.proofs.face.Face.new.Goals as goal

pub invariant_of-result : goal.invariant_of-result
invariant_of-result c = rw c.copy_from_slice.ensures.after (AreKids-put c.args.kids.now c.requires)

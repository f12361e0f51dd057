use Rattle.cd_count.proofs.Changes.{exactly}
use Rattle.cd_count.proofs.laws.plans_are_exact.Goals as goal

pub returns : goal.returns
returns c = λ H old grown left come gone news dead rows are. exactly H old grown left come gone news dead rows are

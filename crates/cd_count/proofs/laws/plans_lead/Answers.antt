use Rattle.cd_count.proofs.Changes.{leads}
use Rattle.cd_count.proofs.laws.plans_lead.Goals as goal

pub returns : goal.returns
returns c = λ H old grown left come gone news dead rows are. leads H old grown left come gone news dead rows are

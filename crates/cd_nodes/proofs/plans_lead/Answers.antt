use Rattle.std.specs.FinMap as finite
use Rattle.cd_nodes.proofs.Batches.{after_batch-records}
use Rattle.cd_nodes.proofs.Counts.{clash_free-few}
use Rattle.cd_nodes.proofs.Plans.{plan_is}
use Rattle.cd_nodes.proofs.plans_lead.Goals as goal

pub returns : goal.returns
returns g c = λ G laws face text old more grown gone left news dead rows came went clear new ended so apart.
    after_batch-records G laws face text old left (clash_free-few G laws old more grown came clear) (clash_free-few G laws left gone grown went clear) rows apart
    (plan_is G laws face text old more grown gone left came went clear news dead new ended (λ h. finite.find G.order h rows) so)

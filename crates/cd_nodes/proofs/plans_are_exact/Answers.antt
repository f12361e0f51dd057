use Rattle.cd_nodes.proofs.Plans.{exact}
use Rattle.cd_nodes.proofs.plans_are_exact.Goals as goal

pub returns : goal.returns
returns g c = λ G laws face text most tells old new plan clear_old clear_new old_few new_few so h value is stays.
    exact G laws face text old new clear_old clear_new plan so most tells old_few new_few h value is stays

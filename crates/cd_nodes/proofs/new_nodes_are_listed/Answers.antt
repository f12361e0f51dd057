use Rattle.cd_nodes.proofs.Listed.{new-listed}
use Rattle.cd_nodes.proofs.new_nodes_are_listed.Goals as goal

pub returns : goal.returns
returns g c = λ G laws few more many listed sum distinct within every. new-listed G laws few more many listed sum distinct within every

use Rattle.cd_nodes.proofs.Records.{get-records}
use Rattle.cd_nodes.proofs.records_are_counted.Goals as goal

pub returns : goal.returns
returns g c = λ G laws face text roots h. get-records G laws face text roots h

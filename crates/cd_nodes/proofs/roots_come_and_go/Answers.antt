use Rattle.cd_nodes.proofs.Together.{together-insert, together-filter}
use Rattle.cd_nodes.proofs.roots_come_and_go.Goals as goal

pub returns-clause-comes : goal.returns-clause-comes
returns-clause-comes g c = λ G lower higher root. together-insert G lower higher root

pub returns-clause-go : goal.returns-clause-go
returns-clause-go g c = λ G root stays bs. together-filter G root stays bs

use Rattle.cd_count.proofs.Changes.{block_comes, blocks_go}
use Rattle.cd_count.proofs.laws.blocks_come_and_go.Goals as goal

pub returns-clause-comes : goal.returns-clause-comes
returns-clause-comes c = λ H. block_comes H

pub returns-clause-go : goal.returns-clause-go
returns-clause-go c = λ H. blocks_go H

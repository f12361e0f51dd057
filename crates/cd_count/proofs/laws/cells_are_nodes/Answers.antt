use Rattle.cd_count.proofs.CellGraph.{is_graph, clash_free, held-states, count-states}
use Rattle.cd_world.specs.World.{World}
use Rattle.cd_count.proofs.laws.cells_are_nodes.Goals as goal

pub returns-clause-graph : goal.returns-clause-graph
returns-clause-graph c = λ H. is_graph H

pub returns-clause-clash_free : goal.returns-clause-clash_free
returns-clause-clash_free c = λ H ts free. clash_free H ts free

pub returns-clause-held : goal.returns-clause-held
returns-clause-held c = λ H (world : World). held-states H world.blocks

pub returns-clause-counted : goal.returns-clause-counted
returns-clause-counted c = λ H world hash. count-states H world hash

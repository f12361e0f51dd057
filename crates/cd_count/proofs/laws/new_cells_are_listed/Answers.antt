use Rattle.cd_count.proofs.Changes.{new_cells_listed}
use Rattle.cd_count.proofs.laws.new_cells_are_listed.Goals as goal

pub returns : goal.returns
returns c = λ H. new_cells_listed H

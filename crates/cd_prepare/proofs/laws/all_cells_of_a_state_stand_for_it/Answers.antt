use Rattle.std.proofs.Common.{refl}
use Rattle.cd_cell.proofs.ListedTrees.{IsValid-all_cells, all_cells-listed, Fits-all_cells, tree_of-all_cells}
use Rattle.cd_prepare.proofs.laws.all_cells_of_a_state_stand_for_it.Goals as goal

pub returns-clause-valid : goal.returns-clause-valid
returns-clause-valid c = λ H state good clear plain. IsValid-all_cells H state good clear plain

pub returns-clause-whole : goal.returns-clause-whole
returns-clause-whole c =
    λ H state good clear.
    record { root_is = refl; cells_are = refl; fits = Fits-all_cells H state good clear; stands = tree_of-all_cells H state good clear; known = all_cells-listed H state good clear }

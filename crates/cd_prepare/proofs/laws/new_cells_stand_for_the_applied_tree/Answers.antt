use Rattle.cd_cell.proofs.NewCells.{tree_of-new_cells}
use Rattle.cd_prepare.proofs.laws.new_cells_stand_for_the_applied_tree.Goals as goal

pub returns : goal.returns
returns c = λ H u t new good_u good_t is_update plain is_applied clear. tree_of-new_cells H u t good_u good_t is_update plain new is_applied clear

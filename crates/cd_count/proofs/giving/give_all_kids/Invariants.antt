use Rattle.std.proofs.Common.{◌≡◌, ◌+◌, ◌*◌, ◌≤◌, take, IfSome}
use Rattle.cd_keeper.specs.Keeping.{KeepsHeld}
use Rattle.cd_count.specs.Reading.{stored_in}
use Rattle.cd_count.specs.PlanRows.{rows_of}
use Rattle.cd_count.specs.PlanGiving.{AreGiven, AreRowsGood, due_of}
use Rattle.cd_count.proofs.giving.give_all_kids.Given as goal

abbrev pub invariant-loop-cell : goal.invariant-loop-cell
invariant-loop-cell g l = record {
  given : IfSome (g.K.Keeper.held l.initial.keeper) (λ contents.
      AreGiven (stored_in contents) l.initial.rows (due_of (stored_in contents) l.initial.rows (take l.cell-index l.cells)) l.rows);
  keeps : KeepsHeld g.K.Keeper.held g.K.Keeper.trail g.K.Keeper.batches l.initial.keeper l.keeper;
  steady : g.K.Keeper.faults l.keeper ≡ g.K.Keeper.faults l.initial.keeper;
  good : AreRowsGood (rows_of l.initial.rows.entries) → AreRowsGood (rows_of l.rows.entries);
  reads : g.K.Keeper.reads l.keeper ≤ g.K.Keeper.reads l.initial.keeper + 4 * l.cell-index;
}

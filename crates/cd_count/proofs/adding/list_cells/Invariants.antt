use Rattle.std.proofs.Common.{◌≡◌, ℕ, ◌+◌, ◌≤◌, List, [], drop, length, filter, IfSome}
use Rattle.std.specs.Option.{option_map}
use Rattle.cd_base.specs.declared.hash.Hash256.{Hash256}
use Rattle.cd_keeper.specs.Keeping.{KeepsHeld}
use Rattle.cd_world.specs.Told as told
use Rattle.cd_count.specs.Reading.{stored_in}
use Rattle.cd_count.specs.PlanRows.{rows_of}
use Rattle.cd_count.specs.PlanGiving.{is_another, AreRowsGood, AreListed}
use Rattle.cd_count.proofs.adding.list_cells.Given as goal

abbrev pub invariant-loop-place : goal.invariant-loop-place
invariant-loop-place g l = record {
  within : l.place ≤ length l.fn.cells;
  listed : IfSome (g.K.Keeper.held l.fn.keeper) (λ contents.
      AreListed (stored_in contents) [] l.fn.rows → AreListed (stored_in contents) (drop l.place l.fn.cells) l.rows);
  least : IfSome (g.K.Keeper.held l.fn.keeper) (λ contents. (H : List ℕ → Hash256)
      → option_map (λ r. r.now) l.least ≡ told.least H (filter (λ c. is_another (stored_in contents c.hash.0) c.face) (drop l.place l.fn.cells)));
  keeps : KeepsHeld g.K.Keeper.held g.K.Keeper.trail g.K.Keeper.batches l.fn.keeper l.keeper;
  steady : g.K.Keeper.faults l.keeper ≡ g.K.Keeper.faults l.fn.keeper;
  good : AreRowsGood (rows_of l.fn.rows.entries) → AreRowsGood (rows_of l.rows.entries);
  reads : g.K.Keeper.reads l.keeper + l.place ≤ g.K.Keeper.reads l.fn.keeper + length l.fn.cells;
}

abbrev pub decreases-loop-place : goal.decreases-loop-place
decreases-loop-place g l = l.place

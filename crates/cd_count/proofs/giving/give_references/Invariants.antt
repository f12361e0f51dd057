use Rattle.std.proofs.Common.{◌≡◌, ◌+◌, ◌≤◌, take, map, IfSome}
use Rattle.cd_keeper.specs.Keeping.{KeepsHeld}
use Rattle.cd_keeper.specs.Shown.{hash_bytes}
use Rattle.cd_count.specs.Reading.{stored_in}
use Rattle.cd_count.specs.PlanRows.{rows_of}
use Rattle.cd_count.specs.PlanGiving.{AreGiven, AreRowsGood}
use Rattle.cd_count.proofs.giving.give_references.Given as goal

abbrev pub invariant-loop-hash : goal.invariant-loop-hash
invariant-loop-hash g l = record {
  given : IfSome (g.K.Keeper.held l.initial.keeper) (λ contents.
      AreGiven (stored_in contents) l.initial.rows (map hash_bytes (take l.hash-index l.hashes)) l.rows);
  keeps : KeepsHeld g.K.Keeper.held g.K.Keeper.trail g.K.Keeper.batches l.initial.keeper l.keeper;
  steady : g.K.Keeper.faults l.keeper ≡ g.K.Keeper.faults l.initial.keeper;
  good : AreRowsGood (rows_of l.initial.rows.entries) → AreRowsGood (rows_of l.rows.entries);
  reads : g.K.Keeper.reads l.keeper ≤ g.K.Keeper.reads l.initial.keeper + l.hash-index;
}

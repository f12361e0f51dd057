use Rattle.std.proofs.Common.{◌≡◌, ◌+◌, ◌≤◌, take, map, length, IfSome}
use Rattle.cd_keeper.specs.Keeping.{KeepsHeld}
use Rattle.cd_keeper.specs.Shown.{hash_bytes}
use Rattle.cd_count.specs.Reading.{stored_in}
use Rattle.cd_count.specs.PlanRows.{rows_of, AreRowsFit}
use Rattle.cd_count.specs.PlanSteps.{AreTaken}
use Rattle.cd_count.proofs.rows.take_references.Given as goal

abbrev pub invariant-loop-hash : goal.invariant-loop-hash
invariant-loop-hash g l = record {
  taken : IfSome (g.K.Keeper.held l.initial.keeper) (λ contents.
      AreTaken (stored_in contents) l.initial.rows l.initial.dead.items (map hash_bytes (take l.hash-index l.hashes)) l.rows l.dead.items);
  keeps : KeepsHeld g.K.Keeper.held g.K.Keeper.trail g.K.Keeper.batches l.initial.keeper l.keeper;
  steady : g.K.Keeper.faults l.keeper ≡ g.K.Keeper.faults l.initial.keeper;
  fit : AreRowsFit (rows_of l.initial.rows.entries) → AreRowsFit (rows_of l.rows.entries);
  longer : length l.initial.dead.items ≤ length l.dead.items;
  reads : g.K.Keeper.reads l.keeper ≤ g.K.Keeper.reads l.initial.keeper + l.hash-index;
}

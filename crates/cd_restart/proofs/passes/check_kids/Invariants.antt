use Rattle.std.proofs.Common.{◌≡◌, ℕ, List, [], None, IfSome}
use Rattle.std.specs.Option.{option_map}
use Rattle.std.specs.FinMap as finite
use Rattle.cd_base.specs.declared.hash.Hash256.{Hash256}
use Rattle.cd_keeper.specs.Contents.{Contents}
use Rattle.cd_keeper.specs.Keeping.{KeepsHeld}
use Rattle.cd_keeper.specs.Shown.{hash_bytes}
use Rattle.cd_restart.specs.Answers.{IsOwn}
use Rattle.cd_restart.specs.Lists.{first_of}
use Rattle.cd_restart.specs.Rows.{AreRowsOf}
use Rattle.cd_restart.specs.ScanFaults.{record_fault}
use Rattle.cd_restart.specs.Stored.{cells_in}
use Rattle.cd_restart.specs.Walks.{AreKidsRead}
use Rattle.cd_restart.proofs.passes.check_kids.Given as goal

abbrev pub invariant-reading : goal.invariant-reading
invariant-reading g l = record {
  read : IfSome (g.K.Keeper.held l.fn.keeper) (λ (contents : Contents). (H : List ℕ → Hash256)
      → first_of record_fault (finite.entries contents.cells) ≡ None → AreRowsOf H (cells_in contents) [] l.fn.rows
      → AreKidsRead H (cells_in contents) (finite.entries contents.cells) (option_map hash_bytes l.after) l.other l.rows);
  keeps : KeepsHeld g.K.Keeper.held g.K.Keeper.trail g.K.Keeper.batches l.fn.keeper l.keeper;
  steady : g.K.Keeper.faults l.keeper ≡ g.K.Keeper.faults l.fn.keeper;
  own : IfSome l.other IsOwn;
}

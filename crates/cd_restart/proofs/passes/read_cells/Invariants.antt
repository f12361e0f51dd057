use Rattle.std.proofs.Common.{◌≡◌, IfSome}
use Rattle.std.specs.Option.{option_map}
use Rattle.std.specs.FinMap as finite
use Rattle.cd_keeper.specs.Contents.{Contents}
use Rattle.cd_keeper.specs.Keeping.{KeepsHeld}
use Rattle.cd_keeper.specs.Shown.{hash_bytes}
use Rattle.cd_restart.specs.Answers.{IsOwn}
use Rattle.cd_restart.specs.Walks.{AreCellsRead}
use Rattle.cd_restart.proofs.passes.read_cells.Given as goal

abbrev pub invariant-reading : goal.invariant-reading
invariant-reading g l = record {
  read : IfSome (g.K.Keeper.held l.fn.keeper) (λ (contents : Contents).
      AreCellsRead g.H.Hash32.digest_of (finite.entries contents.cells) (option_map hash_bytes l.after) l.wrong l.rows.items);
  keeps : KeepsHeld g.K.Keeper.held g.K.Keeper.trail g.K.Keeper.batches l.fn.keeper l.keeper;
  steady : g.K.Keeper.faults l.keeper ≡ g.K.Keeper.faults l.fn.keeper;
  own : IfSome l.wrong IsOwn;
}

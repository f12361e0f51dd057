use Rattle.std.proofs.Common.{◌≡◌, IfSome}
use Rattle.std.specs.Option.{option_map}
use Rattle.std.specs.FinMap as finite
use Rattle.cd_keeper.specs.Keeping.{KeepsHeld}
use Rattle.cd_keeper.specs.Shown.{hash_bytes}
use Rattle.cd_core.specs.Totalling.{AreSoFar}
use Rattle.cd_core.proofs.totalling.total_cells.Given as goal

abbrev pub invariant-reading : goal.invariant-reading
invariant-reading g l = let k = g.K.Keeper in record {
  sums : IfSome (k.held l.fn.keeper) (λ contents. AreSoFar (finite.entries contents.cells) (option_map hash_bytes l.after) l.cells l.counts);
  keeps : KeepsHeld k.held k.trail k.batches l.fn.keeper l.keeper;
  steady : k.faults l.keeper ≡ k.faults l.fn.keeper;
}

use Rattle.std.proofs.Common.{◌≡◌, IfSome}
use Rattle.std.specs.FinMap as finite
use Rattle.cd_keeper.specs.Contents.{Contents}
use Rattle.cd_keeper.specs.Keeping.{KeepsHeld}
use Rattle.cd_restart.specs.Walks.{AreBlocksRead, AreBlocksTo}
use Rattle.cd_restart.proofs.passes.read_blocks.Given as goal

abbrev pub invariant-reading : goal.invariant-reading
invariant-reading g l = record {
  read : IfSome (g.K.Keeper.held l.fn.keeper) (λ (contents : Contents). AreBlocksRead (finite.entries contents.descs) l.after l.all.items);
  to : AreBlocksTo l.after l.all.items;
  keeps : KeepsHeld g.K.Keeper.held g.K.Keeper.trail g.K.Keeper.batches l.fn.keeper l.keeper;
  steady : g.K.Keeper.faults l.keeper ≡ g.K.Keeper.faults l.fn.keeper;
}

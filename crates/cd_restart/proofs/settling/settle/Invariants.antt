use Rattle.std.proofs.Common.{◌≡◌, List, []}
use Rattle.cd_world.specs.declared.world.World.{World}
use Rattle.cd_restart.specs.Settled.{IsSettling}
use Rattle.cd_restart.proofs.settling.settle.Given as goal

abbrev pub invariant-settling : goal.invariant-settling
invariant-settling g l = record {
  journal : l.core.journal ≡ [];
  settling : (passed : List World) × IsSettling g.H.Hash32.digest_of g.K.Keeper l.fn.core l.core passed;
  begun : l.fn.core.start.keeper.value ≡ l.fn.core.keeper → l.core.start.keeper.value ≡ l.core.keeper;
  steady : g.K.Keeper.faults l.core.keeper ≡ g.K.Keeper.faults l.fn.core.keeper;
}

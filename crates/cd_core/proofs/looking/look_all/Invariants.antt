use Rattle.std.proofs.Common.{◌≡◌, ◌+◌, ◌≤◌, length, map, take}
use Rattle.std.specs.Prelude.{IfSome}
use Rattle.cd_keeper.specs.Keeping.{KeepsHeld}
use Rattle.cd_event.specs.Turning.{AreGood}
use Rattle.cd_world.specs.Unfolded.{face_in}
use Rattle.cd_core.proofs.looking.look_all.Given as goal

abbrev pub invariant-loop-hash : goal.invariant-loop-hash
invariant-loop-hash g l = let k = g.K.Keeper in record {
  keeps : KeepsHeld k.held k.trail k.batches l.initial.keeper l.keeper;
  reads : k.reads l.keeper ≤ k.reads l.initial.keeper + l.hash-index;
  steady : k.faults l.keeper ≡ k.faults l.initial.keeper;
  found : length l.found.items ≡ l.hash-index;
  good : AreGood l.found.items;
  told : IfSome (k.held l.initial.keeper) (λ contents. l.found.items ≡ map (λ hash. face_in contents hash.0) (take l.hash-index l.hashes));
}

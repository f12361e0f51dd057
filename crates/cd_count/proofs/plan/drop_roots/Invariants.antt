use Rattle.std.proofs.Common.{◌≡◌, ℕ, ◌+◌, ◌*◌, ◌-◌, ◌^◌, ◌≤◌, List, map, length, IfSome}
use Rattle.cd_base.specs.declared.hash.Hash256.{Hash256}
use Rattle.cd_cell.specs.Tree.{Tree}
use Rattle.cd_keeper.specs.Keeping.{KeepsHeld}
use Rattle.cd_keeper.specs.Shown.{hash_bytes}
use Rattle.cd_world.specs.World.{World, Block}
use Rattle.cd_count.specs.Changes.{states, rep_bytes, AreTogether, AreAdded}
use Rattle.cd_count.specs.PlanRows.{rows_of, AreRowsFit}
use Rattle.cd_count.specs.PlanWorlds.{IsReadable}
use Rattle.cd_count.proofs.Drops.{IsGoing}
use Rattle.cd_count.proofs.plan.drop_roots.Given as goal

abbrev pub invariant-loop-next : goal.invariant-loop-next
invariant-loop-next g l = record {
  within : l.next ≤ length l.dead.items;
  going : IfSome (g.K.Keeper.held l.fn.keeper) (λ contents. (H : List ℕ → Hash256) (old grown left : World) (come gone : List Block) (news : List Tree)
      (readable : IsReadable H old contents) (added : AreAdded H old grown come news (rows_of l.fn.rows.entries)) (went : AreTogether H left.blocks gone grown.blocks)
      → map (rep_bytes H) (states gone) ≡ map hash_bytes l.fn.roots
      → IsGoing H contents old grown left come gone news readable l.fn.rows added went l.rows l.dead.items l.next);
  keeps : KeepsHeld g.K.Keeper.held g.K.Keeper.trail g.K.Keeper.batches l.fn.keeper l.keeper;
  fit : AreRowsFit (rows_of l.fn.rows.entries) → AreRowsFit (rows_of l.rows.entries);
  steady : g.K.Keeper.faults l.keeper ≡ g.K.Keeper.faults l.fn.keeper;
  reads : g.K.Keeper.reads l.keeper ≤ g.K.Keeper.reads l.fn.keeper + (length l.fn.roots + 4 * l.next);
}

abbrev pub decreases-loop-next : goal.decreases-loop-next
decreases-loop-next g l = 2 ^ 64 - l.next

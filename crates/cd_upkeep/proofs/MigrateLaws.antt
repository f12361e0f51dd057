-- How the command `migrate` ends.
use Rattle.std.proofs.Common.{◌≡◌, ◌≤◌, ℕ, List, Option, Some, None, Result, Ok, Err, refl, ap, ◌∙◌, subst, arith}
use Rattle.std.specs.Prelude.{IfSome}
use Rattle.cd_base.specs.declared.hash.Hash256.{Hash256}
use Rattle.cd_base.specs.declared.sink.Sink.{Ghosts as SinkGhosts}
use Rattle.cd_base.specs.Counts.{Rose}
use Rattle.cd_keeper.specs.declared.keeper.Keeper.{Ghosts as KeeperGhosts}
use Rattle.cd_keeper.specs.Contents.{Contents}
use Rattle.cd_keeper.specs.Keeping.{KeepsHeld}
use Rattle.cd_migrate.specs.declared.migrate_fault.MigrateFault.{MigrateFault}
use Rattle.cd_migrate.specs.declared.migrate_fault.MigrateFault.TheVariants as migrate
use Rattle.cd_migrate.specs.declared.migrated.Migrated.{Migrated}
use Rattle.cd_migrate.specs.Answers.{IsCaused}
use Rattle.cd_migrate.specs.Rewritten.{AreMade, all_batches, migrated_of, trail_with, count_with}
use Rattle.cd_migrate.specs.Walking.{IsPart}
use Rattle.cd_restart.specs.declared.opened.Opened.{Opened}
use Rattle.cd_restart.specs.Opened.{IsOpened, world_of}
use Rattle.cd_world.specs.Unfolded.{told_in}
use Rattle.cd_command.specs.declared.status.Status.{Status}
use Rattle.cd_command.specs.declared.status.Status.TheVariants as status
use Rattle.cd_command.specs.Printing.{HasGot, HasFailed, PrintingEnds}
use Rattle.cd_upkeep.specs.CheckCall.{IsChecked, IsUnchecked}
use Rattle.cd_upkeep.specs.MigrateCall.{status_by, IsRewritten, IsMigrated, IsPartly, IsUnmigrated, MigrateEnds}
use Rattle.cd_upkeep.specs.Texts.{migrated_text}

module _ {K : Type 0} (k : KeeperGhosts K) where
  -- batches that were made of what an earlier call left as it was
  made-since : (n : ℕ) (contents : Contents) (old mid new : K) → KeepsHeld k.held k.trail k.batches old mid → AreMade k.held k.trail k.batches n contents mid new
      → AreMade k.held k.trail k.batches n contents old new
  made-since n contents old mid new keeps made = record {
    made = made.made;
    trailed = made.trailed ∙ ap (trail_with n contents) keeps.same_trail;
    counted = made.counted ∙ ap (count_with n) keeps.same_batches;
  }

module _ (H : List ℕ → Hash256) {K : Type 0} (k : KeeperGhosts K) where
  -- no batch was made
  kept-partly : (old new : K) → KeepsHeld k.held k.trail k.batches old new → IsPartly H k old new
  kept-partly old new keeps = by (k.held old) refl
    where
      by : (o : Option Contents) → k.held old ≡ o → IfSome o (λ contents. (n : ℕ) × (n ≤ all_batches contents) × AreMade k.held k.trail k.batches n contents old new)
      by None said = tt
      by (Some contents) said = (0, omega arith, record { made = keeps.same_held ∙ said; trailed = keeps.same_trail; counted = keeps.same_batches })

  -- what wasn't read isn't migrated
  pub unmigrated-unchecked : (old new : K) (end : Status) → IsUnchecked H k old new end → IsUnmigrated H k old new end
  unmigrated-unchecked old new (status.Damaged fault) un = un
  unmigrated-unchecked old new status.KeeperFault un = (kept-partly old new un.0, un.1)
  unmigrated-unchecked old new status.Memory un = (kept-partly old new un.0, un.1)
  unmigrated-unchecked old new end un = absurd un

  module _ (old mid new : K) (totals : Opened) (checked : IsChecked H k old mid totals) where
    -- so many batches of the store that was read
    part-since : {T : Type 0} (result : Result T MigrateFault) (fault : MigrateFault) → result ≡ Err fault
        → IfSome (k.held mid) (λ contents. IsPart k.held k.trail k.batches contents mid new result) → IsPartly H k old new
    part-since result fault is part = by (k.held old) (let keeps = checked.keeps in subst (λ (o : Option Contents). IfSome o (λ contents. IsPart k.held k.trail k.batches contents mid new result)) keeps.same_held part)
      where
        by : (o : Option Contents) → IfSome o (λ contents. IsPart k.held k.trail k.batches contents mid new result)
            → IfSome o (λ contents. (n : ℕ) × (n ≤ all_batches contents) × AreMade k.held k.trail k.batches n contents old new)
        by None part = tt
        by (Some contents) part = (part.n, (subst (λ r. IsPart k.held k.trail k.batches contents mid new r) is part).so_far, made-since k part.n contents old mid new checked.keeps part.made)

    pub unmigrated-by : (fault : MigrateFault) → IfSome (k.held mid) (λ contents. IsPart k.held k.trail k.batches {T = Migrated} contents mid new (Err fault))
        → IsCaused (k.faults mid) (k.faults new) fault → IsUnmigrated H k old new (status_by fault)
    unmigrated-by migrate.Keeper part caused = (part-since (Err migrate.Keeper) migrate.Keeper refl part, subst (λ n. Rose n (k.faults new)) checked.steady caused)
    unmigrated-by migrate.Memory part caused = (part-since (Err migrate.Memory) migrate.Memory refl part, caused ∙ checked.steady)

    pub migrated-all : (done : Migrated) → IfSome (k.held mid) (λ contents. IsPart k.held k.trail k.batches {T = Migrated} contents mid new (Ok done))
        → IfSome (k.held mid) (λ contents. done ≡ migrated_of contents) → k.faults new ≡ k.faults mid → IsMigrated H k old new done
    migrated-all done part numbers steady = record {
      whole = by (k.held old) checked.is (let keeps = checked.keeps in subst (λ (o : Option Contents). IfSome o (λ contents. IsPart k.held k.trail k.batches {T = Migrated} contents mid new (Ok done))) keeps.same_held part)
          (let keeps = checked.keeps in subst (λ (o : Option Contents). IfSome o (λ contents. done ≡ migrated_of contents)) keeps.same_held numbers);
      steady = steady ∙ checked.steady;
    }
      where
        by : (o : Option Contents) → IfSome o (λ contents. IsOpened H contents totals) → IfSome o (λ contents. IsPart k.held k.trail k.batches {T = Migrated} contents mid new (Ok done))
            → IfSome o (λ contents. done ≡ migrated_of contents) → IfSome o (λ contents. IsRewritten H k contents (all_batches contents) old new × (done ≡ migrated_of contents))
        by None is part numbers = tt
        by (Some contents) is part numbers = (
          record {
            world = told_in contents (world_of totals.blocks);
            store = is.store;
            made = subst (λ n. AreMade k.held k.trail k.batches n contents old new) part.so_far (made-since k part.n contents old mid new checked.keeps part.made);
          },
          numbers,
        )

module _ (H : List ℕ → Hash256) {K O : Type 0} (k : KeeperGhosts K) (o : SinkGhosts O) (old new : K) where
  pub unmigrated-ends : (out : O) (end : Status) → IsUnmigrated H k old new end → MigrateEnds H k o out out old new end
  unmigrated-ends out status.Ok un = absurd un
  unmigrated-ends out status.WriteFault un = absurd un
  unmigrated-ends out end un = (un, refl)

  pub migrated-ends : (done : Migrated) (text : List ℕ) (out out_after : O) (end : Status) → IsMigrated H k old new done → text ≡ migrated_text done
      → PrintingEnds o text out out_after end → MigrateEnds H k o out out_after old new end
  migrated-ends done text out out_after status.Ok is spelt printed = (done, is, subst (λ t. HasGot o t out out_after) spelt printed)
  migrated-ends done text out out_after status.WriteFault is spelt printed = (done, is, subst (λ t. HasFailed o t out out_after) spelt printed)
  migrated-ends done text out out_after end is spelt printed = absurd printed

  -- a migration whose text finds no memory
  pub migrated-untold : (done : Migrated) (out : O) → IsMigrated H k old new done → MigrateEnds H k o out out old new status.Memory
  migrated-untold done out is = ((by (k.held old) is.whole, is.steady), refl)
    where
      by : (h : Option Contents) → IfSome h (λ contents. IsRewritten H k contents (all_batches contents) old new × (done ≡ migrated_of contents))
          → IfSome h (λ contents. (n : ℕ) × (n ≤ all_batches contents) × AreMade k.held k.trail k.batches n contents old new)
      by None whole = tt
      by (Some contents) whole = (all_batches contents, omega arith, (let rewritten = whole.0 in rewritten.made))

-- Trusted: how the command `migrate` ends: what each status says of the output and the keeper.
use Rattle.std.specs.Prelude.{◌≡◌, ℕ, ◌≤◌, List, IfSome}
use Rattle.cd_base.specs.declared.hash.Hash256.{Hash256}
use Rattle.cd_base.specs.declared.sink.Sink.{Ghosts as SinkGhosts}
use Rattle.cd_base.specs.Counts.{Rose}
use Rattle.cd_keeper.specs.declared.keeper.Keeper.{Ghosts as KeeperGhosts}
use Rattle.cd_keeper.specs.Contents.{Contents}
use Rattle.cd_migrate.specs.declared.migrate_fault.MigrateFault.{MigrateFault}
use Rattle.cd_migrate.specs.declared.migrate_fault.MigrateFault.TheVariants as migrate
use Rattle.cd_migrate.specs.declared.migrated.Migrated.{Migrated}
use Rattle.cd_migrate.specs.Rewritten.{AreMade, all_batches, migrated_of}
use Rattle.cd_restart.specs.Opened.{IsStore}
use Rattle.cd_world.specs.Told.{ToldWorld}
use Rattle.cd_command.specs.declared.status.Status.{Status}
use Rattle.cd_command.specs.declared.status.Status.TheVariants as status
use Rattle.cd_command.specs.Printing.{NoFault, HasGot, HasFailed}
use Rattle.cd_upkeep.specs.CheckCall.{IsUnchecked}
use Rattle.cd_upkeep.specs.Texts.{migrated_text}

-- the status of a call whose migration stopped
abbrev pub status_by : MigrateFault → Status
status_by migrate.Keeper = status.KeeperFault
status_by migrate.Memory = status.Memory

module _ (H : List ℕ → Hash256) {K : Type 0} (k : KeeperGhosts K) where
  -- what the keeper held are the contents of a sound world without pins; so many batches of their migration were made, and
  -- nothing else changed
  pub record IsRewritten (contents : Contents) (n : ℕ) (old new : K) : Type 0 where
    pub world : ToldWorld
    pub store : IsStore H contents world
    pub made : AreMade k.held k.trail k.batches n contents old new

  -- all of them, and the numbers are those of its records
  pub record IsMigrated (old new : K) (done : Migrated) : Type 0 where
    pub whole : IfSome (k.held old) (λ contents. IsRewritten contents (all_batches contents) old new × (done ≡ migrated_of contents))
    pub steady : NoFault (k.faults old) (k.faults new)

  -- some of them, or it wasn't read to its end
  abbrev pub IsPartly : K → K → Type 0
  IsPartly old new = IfSome (k.held old) (λ contents. (n : ℕ) × (n ≤ all_batches contents) × AreMade k.held k.trail k.batches n contents old new)

  -- the migration didn't come to its end, as this status says
  abbrev pub IsUnmigrated : K → K → Status → Type 0
  IsUnmigrated old new (status.Damaged fault) = IsUnchecked H k old new (status.Damaged fault)
  IsUnmigrated old new status.KeeperFault = IsPartly old new × Rose (k.faults old) (k.faults new)
  IsUnmigrated old new status.Memory = IsPartly old new × NoFault (k.faults old) (k.faults new)
  IsUnmigrated old new _ = ⊥

  module _ {O : Type 0} (o : SinkGhosts O) where
    abbrev pub MigrateEnds : O → O → K → K → Status → Type 0
    -- migrated and told
    MigrateEnds out out_after old new status.Ok =
        (done : Migrated) × IsMigrated old new done × HasGot o (migrated_text done) out out_after
    -- the sink failed: migrated, and a part of it told
    MigrateEnds out out_after old new status.WriteFault =
        (done : Migrated) × IsMigrated old new done × HasFailed o (migrated_text done) out out_after
    -- not migrated to the end: nothing is told
    MigrateEnds out out_after old new end = IsUnmigrated old new end × (out_after ≡ out)

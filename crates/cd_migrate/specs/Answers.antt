-- Trusted: why a migration stops, and how many batches it made by then.
use Rattle.std.specs.Prelude.{◌≡◌, ℕ, ◌≤◌, Result, Ok, Err, IfErr, OnOk}
use Rattle.cd_base.specs.Counts.{Rose}
use Rattle.cd_keeper.specs.declared.fault.KeepFault.{KeepFault}
use Rattle.cd_keeper.specs.declared.fault.KeepFault.TheVariants as keep
use Rattle.cd_migrate.specs.declared.migrate_fault.MigrateFault.{MigrateFault}
use Rattle.cd_migrate.specs.declared.migrate_fault.MigrateFault.TheVariants.{Keeper, Memory}

abbrev pub of_keep : KeepFault → MigrateFault
of_keep keep.Failed = Keeper
of_keep keep.Memory = Memory

-- a keeper's fault comes only where its count of faults rose; want of memory leaves the count
abbrev pub IsCaused : ℕ → ℕ → MigrateFault → Type 0
IsCaused before now Keeper = Rose before now
IsCaused before now Memory = now ≡ before

-- the count of faults didn't fall over the call, at an Ok it is as it was, and a fault has its cause
pub record HasMigrateCause {T : Type 0} (before now : ℕ) (result : Result T MigrateFault) : Type 0 where
  pub later : before ≤ now
  pub steady : OnOk result (now ≡ before)
  pub caused : IfErr result (IsCaused before now)

-- at an Ok all that are needed, else no more
abbrev pub IsSoFar : {T : Type 0} → ℕ → ℕ → Result T MigrateFault → Type 0
IsSoFar needed made (Ok x) = made ≡ needed
IsSoFar needed made (Err fault) = made ≤ needed

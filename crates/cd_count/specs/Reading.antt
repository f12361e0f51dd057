-- Trusted: what a plan reads of a keeper.
use Rattle.std.specs.Prelude.{◌≡◌, ℕ, List, Option, Some, None, Result, Ok, Err, IfErr, OnOk, ◌≤◌}
use Rattle.std.specs.Option.{option_and_then}
use Rattle.std.specs.FinMap as finite
use Rattle.cd_base.specs.Counts.{Rose}
use Rattle.cd_keeper.specs.Contents.{Contents}
use Rattle.cd_keeper.specs.declared.fault.KeepFault.{KeepFault}
use Rattle.cd_keeper.specs.declared.fault.KeepFault.TheVariants as keep
use Rattle.cd_record.specs.declared.record.Record.{Record}
use Rattle.cd_record.specs.declared.record_fault.RecordFault.{RecordFault}
use Rattle.cd_record.specs.RecordReading.{record_in}
use Rattle.cd_count.specs.declared.count_fault.CountFault.{CountFault}
use Rattle.cd_count.specs.declared.count_fault.CountFault.TheVariants.{Clash, CountFull, Keeper, Memory}

-- a fault of the keeper as a plan's fault
abbrev pub of_keep : KeepFault → CountFault
of_keep keep.Failed = Keeper
of_keep keep.Memory = Memory

abbrev pub as_read : Result Record RecordFault → Option Record
as_read (Ok r) = Some r
as_read (Err fault) = None

-- the record that is stored under a hash; bytes that are none count as nothing
abbrev pub stored_in : Contents → List ℕ → Option Record
stored_in contents hash = option_and_then (λ bytes. as_read (record_in bytes)) (finite.get contents.cells hash)

-- a keeper's fault comes only where its count of faults rose; all else leaves the count
abbrev pub IsCaused : ℕ → ℕ → CountFault → Type 0
IsCaused before now Keeper = Rose before now
IsCaused before now Memory = now ≡ before
IsCaused before now (Clash hash stored offered) = now ≡ before
IsCaused before now (CountFull hash count) = now ≡ before

-- the count of faults didn't fall over the call, at an Ok it is as it was, and a fault has its cause
pub record HasCountCause {T : Type 0} (before now : ℕ) (result : Result T CountFault) : Type 0 where
  pub later : before ≤ now
  pub steady : OnOk result (now ≡ before)
  pub caused : IfErr result (IsCaused before now)

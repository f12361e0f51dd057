-- Trusted: what a keeper answers where its database refuses, and how an answer raises its count of faults.
use Rattle.std.specs.Prelude.{◌≡◌, ℕ, Result, Ok, Err}
use Rattle.sqlite.specs.declared.error.Error.{Error}
use Rattle.sqlite.specs.declared.error.Error.TheVariants.{SqliteFailure}
use Rattle.sqlite.specs.declared.error.ErrorCode.TheVariants.{OutOfMemory}
use Rattle.cd_base.specs.Counts.{one_more}
use Rattle.cd_keeper.specs.declared.fault.KeepFault.{KeepFault}
use Rattle.cd_keeper.specs.declared.fault.KeepFault.TheVariants.{Failed, Memory}

-- want of memory is told apart; each other refusal is a fault
abbrev pub fault_of : Error → KeepFault
fault_of (SqliteFailure OutOfMemory) = Memory
fault_of _ = Failed

-- the count after a call: one more where it failed, and else the same
abbrev pub count_after : {T : Type 0} → ℕ → Result T KeepFault → ℕ
count_after count (Ok value) = count
count_after count (Err Failed) = one_more count
count_after count (Err Memory) = count

-- nothing was counted yet, of batches, faults and reads
abbrev pub IsUncounted : ℕ → ℕ → ℕ → Type 0
IsUncounted batches faults reads = (batches ≡ 0) × (faults ≡ 0) × (reads ≡ 0)

-- Trusted: how a scan answers: a refusal exactly where the contents have it, and a fault of the keeper only where its count rose.
use Rattle.std.specs.Prelude.{◌≡◌, ℕ, ◌≤◌, List, Option, Some, None, Result, Ok, Err, IfErr, OnOk}
use Rattle.cd_base.specs.Counts.{Rose}
use Rattle.cd_block.specs.declared.description.DescrFault.{DescrFault}
use Rattle.cd_block.specs.declared.description.DescrFault.TheVariants as descr
use Rattle.cd_keeper.specs.declared.fault.KeepFault.{KeepFault}
use Rattle.cd_keeper.specs.declared.fault.KeepFault.TheVariants as keep
use Rattle.cd_restart.specs.declared.scan_fault.ScanFault.{ScanFault}
use Rattle.cd_restart.specs.declared.scan_fault.ScanFault.TheVariants.{Desc, Keeper, Memory}

-- a fault of the keeper as a fault of the scan
abbrev pub of_keep : KeepFault → ScanFault
of_keep keep.Failed = Keeper
of_keep keep.Memory = Memory

-- why a description isn't read, as a fault of the scan
abbrev pub of_descr : List ℕ → DescrFault → ScanFault
of_descr key descr.Memory = Memory
of_descr key _ = Desc key

-- the answer is this refusal, or that of the keeper or of memory
abbrev pub Refuses : Option ScanFault → ScanFault → Type 0
Refuses fault Keeper = Unit {0}
Refuses fault Memory = Unit {0}
Refuses fault e = fault ≡ Some e

-- Ok comes only where there is no refusal, and each refusal only where it is the one
abbrev pub Answers : {T : Type 0} → Option ScanFault → Result T ScanFault → Type 0
Answers fault (Ok x) = fault ≡ None
Answers fault (Err e) = Refuses fault e

-- no fault of the keeper
abbrev pub IsOwn : ScanFault → Type 0
IsOwn Keeper = ⊥
IsOwn _ = Unit {0}

-- a keeper's fault comes only where its count of faults rose; all else leaves the count
abbrev pub IsCaused : ℕ → ℕ → ScanFault → Type 0
IsCaused before now Keeper = Rose before now
IsCaused before now _ = now ≡ before

-- the count of faults didn't fall over the call, at an Ok it is as it was, and a fault has its cause
pub record HasScanCause {T : Type 0} (before now : ℕ) (result : Result T ScanFault) : Type 0 where
  pub later : before ≤ now
  pub steady : OnOk result (now ≡ before)
  pub caused : IfErr result (IsCaused before now)

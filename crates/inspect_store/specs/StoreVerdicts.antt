-- Trusted: what is said of a store.
use Rattle.std.specs.Prelude.{◌≡◌, ℕ, List, Some, ⊤}
use Rattle.cd_base.specs.declared.hash.Hash256.{Hash256}
use Rattle.cd_base.specs.Counts.{Rose}
use Rattle.cd_keeper.specs.Contents.{Contents}
use Rattle.cd_restart.specs.Opened.{IsOpened, IsDamaged}
use Rattle.cd_restart.specs.ScanFaults.{scan_fault}
use Rattle.cd_restart.specs.declared.scan_fault.ScanFault.{ScanFault}
use Rattle.cd_restart.specs.declared.scan_fault.ScanFault.TheVariants.{Keeper, Memory}
use Rattle.inspect_store.specs.declared.verdict.StoreVerdict.{StoreVerdict}
use Rattle.inspect_store.specs.declared.verdict.StoreVerdict.TheVariants.{Store, Refused, NoDatabase}

module _ (H : List ℕ → Hash256) where
  -- it is so of these contents: they are a store with these blocks, cells and counts, or they are none and this is the first
  -- refusal that they have
  abbrev pub IsTrueOfContents : Contents → StoreVerdict → Type 0
  IsTrueOfContents contents (Store opened) = IsOpened H contents opened
  IsTrueOfContents contents (Refused fault) = (scan_fault H contents ≡ Some fault) × IsDamaged H contents fault
  IsTrueOfContents contents NoDatabase = ⊤

-- a refusal of what is stored: neither that of the keeper nor want of memory
abbrev pub IsOfStore : ScanFault → Type 0
IsOfStore Keeper = ⊥
IsOfStore Memory = ⊥
IsOfStore _ = ⊤

-- no other refusal is told
abbrev pub IsOwnVerdict : StoreVerdict → Type 0
IsOwnVerdict (Refused fault) = IsOfStore fault
IsOwnVerdict _ = ⊤

-- that the database refused is said only where the keeper's count of faults rose, and else the count is as it was
abbrev pub HasVerdictCause : ℕ → ℕ → StoreVerdict → Type 0
HasVerdictCause before now NoDatabase = Rose before now
HasVerdictCause before now _ = now ≡ before

-- Trusted: how the command `check` ends: what each status says of the output and the keeper.
use Rattle.std.specs.Prelude.{◌≡◌, ℕ, List, Some, IfSome, length}
use Rattle.cd_base.specs.declared.hash.Hash256.{Hash256}
use Rattle.cd_base.specs.declared.sink.Sink.{Ghosts as SinkGhosts}
use Rattle.cd_base.specs.Counts.{Rose}
use Rattle.cd_keeper.specs.declared.keeper.Keeper.{Ghosts as KeeperGhosts}
use Rattle.cd_keeper.specs.Keeping.{KeepsHeld}
use Rattle.cd_restart.specs.declared.opened.Opened.{Opened}
use Rattle.cd_restart.specs.declared.scan_fault.ScanFault.{ScanFault}
use Rattle.cd_restart.specs.declared.scan_fault.ScanFault.TheVariants as scan
use Rattle.cd_restart.specs.Opened.{IsOpened}
use Rattle.cd_restart.specs.ScanFaults.{scan_fault}
use Rattle.cd_command.specs.declared.status.Status.{Status}
use Rattle.cd_command.specs.declared.status.Status.TheVariants as status
use Rattle.cd_command.specs.Printing.{NoFault, HasGot, HasFailed}
use Rattle.cd_upkeep.specs.Texts.{totals_text}

-- the status of a call over a store that a scan refuses
abbrev pub status_by : ScanFault → Status
status_by scan.Keeper = status.KeeperFault
status_by scan.Memory = status.Memory
status_by fault = status.Damaged fault

-- the lines that tell what was opened
abbrev pub totals_of : Opened → List ℕ
totals_of totals = totals_text (length totals.blocks) totals.cells totals.counts

module _ (H : List ℕ → Hash256) {K : Type 0} (k : KeeperGhosts K) where
  -- The store was read and nothing changed, without a fault. Where the keeper tells, what it holds is the contents of a sound
  -- world without pins, which has these blocks, so many distinct cells, and so many references to them or the last u64.
  pub record IsChecked (old new : K) (totals : Opened) : Type 0 where
    pub is : IfSome (k.held old) (λ contents. IsOpened H contents totals)
    pub keeps : KeepsHeld k.held k.trail k.batches old new
    pub steady : NoFault (k.faults old) (k.faults new)

  -- It was not read to its end, as this status says, and nothing changed: it is no store, by this first refusal; or the
  -- keeper failed, or memory ran out.
  abbrev pub IsUnchecked : K → K → Status → Type 0
  IsUnchecked old new (status.Damaged fault) =
      IfSome (k.held old) (λ contents. scan_fault H contents ≡ Some fault)
      × KeepsHeld k.held k.trail k.batches old new × NoFault (k.faults old) (k.faults new)
  IsUnchecked old new status.KeeperFault = KeepsHeld k.held k.trail k.batches old new × Rose (k.faults old) (k.faults new)
  IsUnchecked old new status.Memory = KeepsHeld k.held k.trail k.batches old new × NoFault (k.faults old) (k.faults new)
  IsUnchecked old new _ = ⊥

  module _ {O : Type 0} (o : SinkGhosts O) where
    abbrev pub CheckEnds : O → O → K → K → Status → Type 0
    -- read and told
    CheckEnds out out_after old new status.Ok =
        (totals : Opened) × IsChecked old new totals × HasGot o (totals_of totals) out out_after
    -- the sink failed: read, and a part of it told
    CheckEnds out out_after old new status.WriteFault =
        (totals : Opened) × IsChecked old new totals × HasFailed o (totals_of totals) out out_after
    -- not read: nothing is told
    CheckEnds out out_after old new end = IsUnchecked old new end × (out_after ≡ out)

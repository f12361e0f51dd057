-- How the command `check` ends.
use Rattle.std.proofs.Common.{◌≡◌, ℕ, List, refl, subst}
use Rattle.std.specs.Prelude.{IfSome}
use Rattle.cd_base.specs.declared.hash.Hash256.{Hash256}
use Rattle.cd_base.specs.declared.sink.Sink.{Ghosts as SinkGhosts}
use Rattle.cd_keeper.specs.declared.keeper.Keeper.{Ghosts as KeeperGhosts}
use Rattle.cd_keeper.specs.Keeping.{KeepsHeld}
use Rattle.cd_restart.specs.declared.opened.Opened.{Opened}
use Rattle.cd_restart.specs.declared.scan_fault.ScanFault.{ScanFault}
use Rattle.cd_restart.specs.declared.scan_fault.ScanFault.TheVariants as scan
use Rattle.cd_restart.specs.Answers.{Refuses, IsCaused}
use Rattle.cd_restart.specs.ScanFaults.{scan_fault}
use Rattle.cd_command.specs.declared.status.Status.{Status}
use Rattle.cd_command.specs.declared.status.Status.TheVariants as status
use Rattle.cd_command.specs.Printing.{HasGot, HasFailed, PrintingEnds}
use Rattle.cd_upkeep.specs.CheckCall.{status_by, totals_of, IsChecked, IsUnchecked, CheckEnds}

module _ (H : List ℕ → Hash256) {K : Type 0} (k : KeeperGhosts K) (old new : K) where
  -- a scan's refusal says what its status does
  pub unchecked-by : (fault : ScanFault) → IfSome (k.held old) (λ contents. Refuses (scan_fault H contents) fault) → KeepsHeld k.held k.trail k.batches old new
      → IsCaused (k.faults old) (k.faults new) fault → IsUnchecked H k old new (status_by fault)
  unchecked-by scan.Keeper told keeps caused = (keeps, caused)
  unchecked-by scan.Memory told keeps caused = (keeps, caused)
  unchecked-by fault told keeps caused = (told, keeps, caused)

  module _ {O : Type 0} (o : SinkGhosts O) where
    -- what wasn't read isn't told
    pub unchecked-ends : (out : O) (end : Status) → IsUnchecked H k old new end → CheckEnds H k o out out old new end
    unchecked-ends out status.Ok un = absurd un
    unchecked-ends out status.WriteFault un = absurd un
    unchecked-ends out end un = (un, refl)

    -- what was read is told as far as the sink takes it
    pub checked-ends : (totals : Opened) (text : List ℕ) (out out_after : O) (end : Status) → IsChecked H k old new totals → text ≡ totals_of totals
        → PrintingEnds o text out out_after end → CheckEnds H k o out out_after old new end
    checked-ends totals text out out_after status.Ok is spelt done = (totals, is, subst (λ t. HasGot o t out out_after) spelt done)
    checked-ends totals text out out_after status.WriteFault is spelt done = (totals, is, subst (λ t. HasFailed o t out out_after) spelt done)
    checked-ends totals text out out_after end is spelt done = absurd done

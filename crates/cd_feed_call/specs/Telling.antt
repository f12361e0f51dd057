-- Inner: the steps between a feed that was done and its report.
use Rattle.std.specs.Prelude.{◌≡◌, ◌⊎◌, ℕ, Bool, true, false, List, Option}
use Rattle.cd_base.specs.declared.hash.Hash256.{Hash256}
use Rattle.cd_base.specs.declared.sink.Sink.{Ghosts as SinkGhosts}
use Rattle.cd_base.specs.Counts.{Rose}
use Rattle.cd_keeper.specs.Contents.{Contents}
use Rattle.cd_world.specs.declared.world.Totals.{Totals}
use Rattle.cd_core.specs.Cores.{CoreView}
use Rattle.cd_core.specs.Effects.{AreTotals}
use Rattle.cd_feed.specs.declared.feed.Feed.{Feed}
use Rattle.cd_run.specs.declared.outcome.Outcome.{Outcome}
use Rattle.cd_run.specs.ReportText.{report_text}
use Rattle.cd_run.specs.Runs.{has_failed}
use Rattle.cd_command.specs.declared.status.Status.{Status}
use Rattle.cd_command.specs.declared.status.Status.TheVariants as status
use Rattle.cd_command.specs.Printing.{NoFault, PrintingEnds}

module _ (H : List ℕ → Hash256) {K X : Type 0} (held : K → Option Contents) (faults : K → ℕ) (feed : Feed) where
  -- the text is the report of these ends and of the core's totals, which were taken without a fault
  pub record IsTextOf (ends : List (List (List Outcome))) (old new : CoreView K X) (text : List ℕ) : Type 0 where
    pub totals : Totals
    pub are : AreTotals held H old.start old.journal totals
    pub is : text ≡ report_text feed ends totals
    pub steady : NoFault (faults old.keeper) (faults new.keeper)

-- there is no text, as this status says
abbrev pub IsUntotalled : ℕ → ℕ → Status → Type 0
IsUntotalled before now status.KeeperFault = Rose before now
IsUntotalled before now status.Memory = NoFault before now
IsUntotalled before now _ = ⊥

-- the status behind a report that was written so
abbrev pub status_by : Bool → Bool → Status → Status
status_by true all_left written = status.KeeperFault
status_by false false written = status.ClientFault
status_by false true written = written

module _ (H : List ℕ → Hash256) {K X O : Type 0} (held : K → Option Contents) (faults : K → ℕ) (o : SinkGhosts O) (feed : Feed)
    (ends : List (List (List Outcome))) (all_left : Bool) (old new : CoreView K X) (out out_after : O) where
  -- a text was made and written
  pub record IsToldBy (end : Status) : Type 0 where
    pub text : List ℕ
    pub made : IsTextOf H held faults feed ends old new text
    pub written : Status
    pub printed : PrintingEnds o text out out_after written
    pub is : end ≡ status_by (has_failed old.journal) all_left written

  -- how telling of a feed that was done ends: a text was written, or there was none, and the sink got nothing
  abbrev pub IsTold : Status → Type 0
  IsTold end = IsToldBy end ⊎ (IsUntotalled (faults old.keeper) (faults new.keeper) end × (out_after ≡ out))

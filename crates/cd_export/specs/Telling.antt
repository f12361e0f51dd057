-- Inner: what is told of a serve, by its end.
use Rattle.std.specs.Prelude.{◌≡◌, ◌⊎◌, ℕ, ◌<◌, Result, Ok, Err}
use Rattle.cd_base.specs.declared.answers.Memory.{Memory}
use Rattle.cd_base.specs.declared.sink.Sink.{Ghosts as SinkGhosts}
use Rattle.cd_cell.specs.declared.limits.TheConstants.{MOST_CELLS}
use Rattle.cd_event.specs.declared.refusal.Refusal.TheVariants as store
use Rattle.cd_run.specs.declared.outcome.Outcome.{Outcome}
use Rattle.cd_run.specs.declared.outcome.Outcome.TheVariants as outcome
use Rattle.cd_run.specs.declared.outcome.TaskRefusal.{TaskRefusal}
use Rattle.cd_run.specs.declared.outcome.TaskRefusal.TheVariants as word
use Rattle.cd_command.specs.declared.status.Status.{Status}
use Rattle.cd_command.specs.declared.status.Status.TheVariants as status
use Rattle.cd_command.specs.declared.status.TopRefusal.TheVariants as refusal
use Rattle.cd_command.specs.Printing.{HasGot, HasFailed}
use Rattle.cd_export.specs.ExportText.{export_text}

-- the words of a serve's refusals
abbrev pub IsServeRefusal : TaskRefusal → Type 0
IsServeRefusal word.UnknownBlock = Unit {0}
IsServeRefusal word.PinsFull = Unit {0}
IsServeRefusal word.TooMany = Unit {0}
IsServeRefusal word.Keeper = Unit {0}
IsServeRefusal _ = ⊥

-- an end that a serve can have
abbrev pub IsServeEnd : Result Outcome Memory → Type 0
IsServeEnd (Ok (outcome.Serve bytes done failed)) = Unit {0}
IsServeEnd (Ok (outcome.Refused why)) = IsServeRefusal why
IsServeEnd (Ok _) = ⊥
IsServeEnd (Err memory) = Unit {0}

-- the status of a call whose serve was refused
abbrev pub status_of : TaskRefusal → Status
status_of word.UnknownBlock = status.Refused (refusal.Core store.UnknownBlock)
status_of word.PinsFull = status.Refused (refusal.Core store.PinsFull)
status_of word.TooMany = status.Refused (refusal.TooMany MOST_CELLS)
status_of _ = status.KeeperFault

module _ {O : Type 0} (o : SinkGhosts O) where
  -- the lines went out, or a part of them where the sink failed
  abbrev pub MayHaveGot : ℕ → ℕ → ℕ → O → O → Type 0
  MayHaveGot bytes done failed out out_after =
      HasGot o (export_text bytes done failed) out out_after ⊎ HasFailed o (export_text bytes done failed) out out_after

  -- a serve that came to its end is told: a client that failed is the status, whatever the sink does
  abbrev pub ServedEnds : ℕ → ℕ → ℕ → O → O → Status → Type 0
  ServedEnds bytes done failed out out_after status.Ok = (failed ≡ 0) × HasGot o (export_text bytes done 0) out out_after
  ServedEnds bytes done failed out out_after status.WriteFault =
      (failed ≡ 0) × HasFailed o (export_text bytes done 0) out out_after
  ServedEnds bytes done failed out out_after status.ClientFault =
      (0 < failed) × MayHaveGot bytes done failed out out_after
  ServedEnds bytes done failed out out_after status.Memory = out_after ≡ out
  ServedEnds bytes done failed out out_after _ = ⊥

  -- of one that was refused nothing is printed
  abbrev pub TellingEnds : Result Outcome Memory → O → O → Status → Type 0
  TellingEnds (Ok (outcome.Serve bytes done failed)) out out_after end = ServedEnds bytes done failed out out_after end
  TellingEnds (Ok (outcome.Refused why)) out out_after end = (end ≡ status_of why) × (out_after ≡ out)
  TellingEnds (Ok _) out out_after end = ⊥
  TellingEnds (Err memory) out out_after end = (end ≡ status.Memory) × (out_after ≡ out)

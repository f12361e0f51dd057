-- Inner: what is told of a state that was handed to the store.
use Rattle.std.specs.Prelude.{◌≡◌, ℕ, List, Result, Ok, Err}
use Rattle.cd_base.specs.declared.sink.Sink.{Ghosts as SinkGhosts}
use Rattle.cd_event.specs.declared.answers.Stored.{Stored}
use Rattle.cd_event.specs.declared.faults.ZeroFault.{ZeroFault}
use Rattle.cd_event.specs.Replies.{zero_refusal}
use Rattle.cd_command.specs.declared.status.Status.{Status}
use Rattle.cd_zero.specs.Zero.{status_by_store}
use Rattle.cd_command.specs.Printing.{PrintingEnds}

module _ {O : Type 0} (o : SinkGhosts O) (text : List ℕ) where
  -- the text of a stored state is written, and of one that isn't stored nothing
  abbrev pub TellingEnds : Result Stored ZeroFault → O → O → Status → Type 0
  TellingEnds (Ok stored) out out_after end = PrintingEnds o text out out_after end
  TellingEnds (Err fault) out out_after end = (end ≡ status_by_store (zero_refusal fault)) × (out_after ≡ out)

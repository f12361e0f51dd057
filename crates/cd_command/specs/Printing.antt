-- Trusted: how writing a text ends: what each status says of the sink.
use Rattle.std.specs.Prelude.{◌≡◌, ℕ, List}
use Rattle.cd_base.specs.declared.sink.Sink.{Ghosts as SinkGhosts}
use Rattle.cd_base.specs.Counts.{Rose}
use Rattle.cd_base.specs.Told.{Got, GotPart}
use Rattle.cd_command.specs.declared.status.Status.{Status}
use Rattle.cd_command.specs.declared.status.Status.TheVariants as status

-- no fault was counted
abbrev pub NoFault : ℕ → ℕ → Type 0
NoFault before now = now ≡ before

module _ {O : Type 0} (o : SinkGhosts O) where
  -- the sink got these bytes without a fault
  pub record HasGot (text : List ℕ) (old new : O) : Type 0 where
    pub got : Got (o.taken old) (o.taken new) text
    pub steady : NoFault (o.faults old) (o.faults new)

  -- the sink failed, and got a part of these bytes
  pub record HasFailed (text : List ℕ) (old new : O) : Type 0 where
    pub failed : Rose (o.faults old) (o.faults new)
    pub got : GotPart (o.taken old) (o.taken new) text

  -- how writing a text ends
  abbrev pub PrintingEnds : List ℕ → O → O → Status → Type 0
  PrintingEnds text out out_after status.Ok = HasGot text out out_after
  PrintingEnds text out out_after status.WriteFault = HasFailed text out out_after
  PrintingEnds text out out_after _ = ⊥

  -- how it ends where the text was to be made first: for want of memory nothing is written
  abbrev pub TextEnds : List ℕ → O → O → Status → Type 0
  TextEnds text out out_after status.Memory = out_after ≡ out
  TextEnds text out out_after end = PrintingEnds text out out_after end

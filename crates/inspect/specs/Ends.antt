-- Trusted: how a run of the program ends: what each end says of the input and the output.
use Rattle.std.specs.Prelude.{◌≡◌, ◌⊎◌, ℕ, ◌<◌, List, length, IfSome, ⊤, string_bytes}
use Rattle.cd_base.specs.declared.source.Source.{Ghosts as SourceGhosts}
use Rattle.cd_base.specs.declared.sink.Sink.{Ghosts as SinkGhosts}
use Rattle.cd_base.specs.Counts.{Rose}
use Rattle.cd_base.specs.Told.{IsAtEnd, Got, GotPart}
use Rattle.inspect.specs.declared.end.End.{End}
use Rattle.inspect.specs.declared.end.End.TheVariants as end
use Rattle.inspect.specs.declared.limits.TheConstants.{FILE_LIMIT, INPUT_LIMIT}
use Rattle.inspect.specs.declared.step.Step.{Step}
use Rattle.inspect.specs.declared.step.Step.TheVariants.{Ended, Store}

module _ {O : Type 0} (o : SinkGhosts O) where
  -- a text was written whole, or up to where the sink failed
  abbrev pub HasWritten : List ℕ → O → O → Type 0
  HasWritten text old new =
      (Got (o.taken old) (o.taken new) text × (o.faults new ≡ o.faults old))
      ⊎ (Rose (o.faults old) (o.faults new) × GotPart (o.taken old) (o.taken new) text)

  -- what became of the output where what is said of a database file was to be written
  abbrev pub HasSaid : O → O → End → Type 0
  HasSaid out out_after end.Done = ((text : List ℕ) × Got (o.taken out) (o.taken out_after) text) × (o.faults out_after ≡ o.faults out)
  HasSaid out out_after end.WriteFault = Rose (o.faults out) (o.faults out_after)
  HasSaid out out_after end.Memory = out_after ≡ out
  HasSaid out out_after _ = ⊥

-- why a file wasn't read to its end
abbrev pub IsWhyNotRead : {S : Type 0} → SourceGhosts S → S → S → End → Type 0
IsWhyNotRead s file after end.ReadFault = Rose (s.faults file) (s.faults after)
IsWhyNotRead s file after end.FileLong = IfSome (s.left file) (λ left. FILE_LIMIT < length left)
IsWhyNotRead s file after end.Memory = s.faults after ≡ s.faults file
IsWhyNotRead s file after _ = ⊥

module _ {S O : Type 0} (s : SourceGhosts S) (o : SinkGhosts O) where
  -- a source and a sink before and after, and how the run ended: at Done the input was read to its end, or not at all
  abbrev pub HasEnded : S → S → O → O → End → Type 0
  HasEnded i j out out_after end.Done =
      ((j ≡ i) ⊎ IsAtEnd (s.left j)) × ((text : List ℕ) × Got (o.taken out) (o.taken out_after) text)
      × (s.faults j ≡ s.faults i) × (o.faults out_after ≡ o.faults out)
  HasEnded i j out out_after end.Usage = (j ≡ i) × (out_after ≡ out)
  HasEnded i j out out_after end.ReadFault = Rose (s.faults i) (s.faults j) × (out_after ≡ out)
  HasEnded i j out out_after end.WriteFault = Rose (o.faults out) (o.faults out_after)
  HasEnded i j out out_after end.Long = IfSome (s.left i) (λ left. INPUT_LIMIT < length left) × (out_after ≡ out)
  HasEnded i j out out_after end.FileLong = ⊥
  HasEnded i j out out_after end.Memory = (s.faults j ≡ s.faults i) × (out_after ≡ out)

-- how a run ended by its words alone
abbrev pub IfEnded : Step → (End → Type 0) → Type 0
IfEnded (Ended end) P = P end
IfEnded _ P = ⊤

-- the path that the words ask about
abbrev pub IfStore : Step → (List ℕ → Type 0) → Type 0
IfStore (Store path) P = P (string_bytes path)
IfStore _ P = ⊤

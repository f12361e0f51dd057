-- Trusted: what a run of the program does: how its call ends, its exit status, and its line on standard error.
use Rattle.std.specs.Prelude.{◌≡◌, ◌⊎◌, ℕ, Bool, List, Option}
use Rattle.cd_base.specs.declared.hash.Hash256.{Hash256}
use Rattle.cd_base.specs.declared.source.Source.{Ghosts as SourceGhosts}
use Rattle.cd_base.specs.declared.sink.Sink.{Ghosts as SinkGhosts}
use Rattle.cd_base.specs.Counts.{Rose}
use Rattle.cd_base.specs.Told.{Got, GotPart}
use Rattle.cd_keeper.specs.declared.keeper.Keeper.{Ghosts as KeeperGhosts}
use Rattle.cd_event.specs.declared.entry.Entry.{Entry}
use Rattle.cd_command.specs.declared.status.Status.{Status}
use Rattle.cd_command.specs.StatusText.{code_of, line_of}
use Rattle.cd_words.specs.Reading.{BeginsWithRun}
use Rattle.cd_top.specs.Call.{Ends, RunCallEnds}
use Rattle.cd_command.specs.Printing.{TextEnds}

-- the line of a status went out; where standard error failed, a part of it
abbrev pub HasSaid : {E : Type 0} → SinkGhosts E → Status → E → E → Type 0
HasSaid e status old new =
    Got (e.taken old) (e.taken new) (line_of status)
    ⊎ (Rose (e.faults old) (e.faults new) × GotPart (e.taken old) (e.taken new) (line_of status))

module _ (H : List ℕ → Hash256) {S O E K : Type 0} (s : SourceGhosts S) (o : SinkGhosts O) (e : SinkGhosts E) (k : KeeperGhosts K) (X : Type 0)
    {C : Type 0} (got : C → Option (List ℕ)) (steady : C → Bool) where
  -- the call on threads was made where the first word is `run`, and else the other one
  abbrev pub CallEnds : List (List ℕ) → S → S → O → O → K → K → List C → List C → List (Entry X) → Status → Type 0
  CallEnds words i j out out_after kept kept_after clients left journal end =
      (BeginsWithRun words × RunCallEnds H s o k got steady words i j out out_after kept kept_after clients left journal end)
      ⊎ ((BeginsWithRun words → ⊥) × Ends H s o k got steady words i j out out_after kept kept_after clients left journal end)

  -- the call ended with this status, which is told by the exit status and the line on standard error
  pub record IsRun (words : List (List ℕ)) (i j : S) (out out_after : O) (err err_after : E) (kept : K)
      (clients : List C) (code : ℕ) : Type 0 where
    pub status : Status
    pub kept_after : K
    pub left : List C
    pub journal : List (Entry X)
    pub ended : CallEnds words i j out out_after kept kept_after clients left journal status
    pub coded : code ≡ code_of status
    pub said : HasSaid e status err err_after

module _ {S O E : Type 0} (s : SourceGhosts S) (o : SinkGhosts O) (e : SinkGhosts E) where
  -- a page was printed, and nothing was read
  pub record IsPage (i j : S) (out out_after : O) (err err_after : E) (code : ℕ) : Type 0 where
    pub status : Status
    pub text : List ℕ
    pub printed : TextEnds o text out out_after status
    pub unread : j ≡ i
    pub coded : code ≡ code_of status
    pub said : HasSaid e status err err_after

-- Trusted: how the two calls of the program end, by their words: that on threads, and that of all other commands.
use Rattle.std.specs.Prelude.{◌≡◌, ◌≢◌, ◌⊎◌, ℕ, Bool, List, [], Option, Some, None}
use Rattle.cd_base.specs.declared.hash.Hash256.{Hash256}
use Rattle.cd_base.specs.declared.source.Source.{Ghosts as SourceGhosts}
use Rattle.cd_base.specs.declared.sink.Sink.{Ghosts as SinkGhosts}
use Rattle.cd_keeper.specs.declared.keeper.Keeper.{Ghosts as KeeperGhosts}
use Rattle.cd_event.specs.declared.entry.Entry.{Entry}
use Rattle.cd_words.specs.declared.command.Command.{Command}
use Rattle.cd_words.specs.declared.command.Command.TheVariants as command
use Rattle.cd_words.specs.declared.fault.WordFault.{WordFault}
use Rattle.cd_words.specs.declared.fault.WordFault.TheVariants as word
use Rattle.cd_words.specs.Reading.{HasCommand, IsRefusal}
use Rattle.cd_command.specs.declared.status.Status.{Status}
use Rattle.cd_command.specs.declared.status.Status.TheVariants as status
use Rattle.cd_command.specs.Untouched.{AreSame}
use Rattle.cd_zero.specs.ZeroCall.{ZeroEnds}
use Rattle.cd_export.specs.ExportCall.{ExportEnds}
use Rattle.cd_feed_call.specs.Replaying.{ReplayEnds, RunEnds}
use Rattle.cd_upkeep.specs.CheckCall.{CheckEnds}
use Rattle.cd_upkeep.specs.MigrateCall.{MigrateEnds}
use Rattle.cd_top.specs.declared.work.Work.{Work}
use Rattle.cd_top.specs.declared.work.Work.TheVariants as work
use Rattle.cd_top.specs.FeedCall.{FeedEnds}

-- what a command asks for on one thread, over the keeper that its words name; none where it is done on threads
abbrev pub work_by : Command → Option Work
work_by (command.Zero workchain file db) = Some (work.Zero (record { workchain = workchain; file = file }))
work_by (command.Replay db to) = Some work.Replay
work_by (command.Check db) = Some work.Check
work_by (command.Migrate db) = Some work.Migrate
work_by (command.Export id max db to) = Some (work.Export id max)
work_by (command.Gen number) = Some (work.Gen number)
work_by (command.Run db to) = None

-- the words are a command that asks for this
abbrev pub IsLineOf : Work → List (List ℕ) → Type 0
IsLineOf w words = (c : Command) × HasCommand words c × (work_by c ≡ Some w)

-- a command of the call on threads, and of the other one
abbrev pub IsForRun : Command → Type 0
IsForRun c = work_by c ≡ None

abbrev pub IsForOnce : Command → Type 0
IsForOnce c = work_by c ≢ None

-- the words are a command that is done on threads
abbrev pub IsRunLine : List (List ℕ) → Type 0
IsRunLine words = (c : Command) × HasCommand words c × IsForRun c

-- why the words are not taken: they are no command, or a value in them is none that its option may have; or they are
-- a command of the other call, which is a usage fault too
abbrev pub IsNotTaken : (Command → Type 0) → List (List ℕ) → WordFault → Type 0
IsNotTaken IsOther words fault = IsRefusal words fault
    ⊎ ((fault ≡ word.Usage) × (c : Command) × HasCommand words c × IsOther c)

-- the status for words that are refused
abbrev pub status_by : WordFault → Status
status_by word.Memory = status.Memory
status_by word.Usage = status.Usage word.Usage
status_by (word.BadValue option) = status.Usage (word.BadValue option)

-- how a call over such words ends: with the fault, or for want of memory
abbrev pub EndsUntaken : (Command → Type 0) → List (List ℕ) → Status → Type 0
EndsUntaken IsOther words (status.Usage fault) = IsNotTaken IsOther words fault
EndsUntaken IsOther words status.Memory = Unit {0}
EndsUntaken IsOther words _ = ⊥

module _ (H : List ℕ → Hash256) {S O K X C : Type 0} (s : SourceGhosts S) (o : SinkGhosts O) (k : KeeperGhosts K)
    (got : C → Option (List ℕ)) (steady : C → Bool) where
  -- how a call ends that was asked for some work: a row for each command
  abbrev pub WorkEnds : Work → S → S → O → O → K → K → List C → List C → List (Entry X) → Status → Type 0
  WorkEnds (work.Zero name) i j out out_after keeper keeper_after clients left journal end =
      ZeroEnds H s o k name i j out out_after keeper keeper_after journal end × (left ≡ clients)
  WorkEnds work.Replay i j out out_after keeper keeper_after clients left journal end =
      ReplayEnds H s o k got steady i j out out_after keeper keeper_after clients left journal end
  WorkEnds work.Check i j out out_after keeper keeper_after clients left journal end =
      CheckEnds H k o out out_after keeper keeper_after end × (j ≡ i) × (journal ≡ []) × (left ≡ clients)
  WorkEnds work.Migrate i j out out_after keeper keeper_after clients left journal end =
      MigrateEnds H k o out out_after keeper keeper_after end × (j ≡ i) × (journal ≡ []) × (left ≡ clients)
  WorkEnds (work.Export id max) i j out out_after keeper keeper_after clients left journal end =
      ExportEnds H k o got steady id out out_after keeper keeper_after clients left journal end × (j ≡ i)
  WorkEnds (work.Gen number) i j out out_after keeper keeper_after clients left journal end =
      FeedEnds o number out out_after end × (j ≡ i) × (keeper_after ≡ keeper) × (journal ≡ []) × (left ≡ clients)

  -- how a call ends: as the work that its words ask for; or, where the words are not taken, with nothing asked of the objects
  abbrev pub Ends : List (List ℕ) → S → S → O → O → K → K → List C → List C → List (Entry X) → Status → Type 0
  Ends words i j out out_after keeper keeper_after clients left journal end =
      ((w : Work) × IsLineOf w words × WorkEnds w i j out out_after keeper keeper_after clients left journal end)
      ⊎ (EndsUntaken IsForRun words end × (j ≡ i) × AreSame out out_after keeper keeper_after journal × (left ≡ clients))

  -- how the call on threads ends: as the command `run`; or, where the words are not taken, with nothing asked of the objects
  abbrev pub RunCallEnds : List (List ℕ) → S → S → O → O → K → K → List C → List C → List (Entry X) → Status → Type 0
  RunCallEnds words i j out out_after keeper keeper_after clients left journal end =
      (IsRunLine words × RunEnds H s o k got steady i j out out_after keeper keeper_after clients left journal end)
      ⊎ (EndsUntaken IsForOnce words end × (j ≡ i) × AreSame out out_after keeper keeper_after journal × (left ≡ clients))

-- Trusted: how the commands `replay` and `run` end: what each status says of the input, the output, the clients, the journal
-- and the keeper.
use Rattle.std.specs.Prelude.{◌≡◌, ◌⊎◌, ℕ, Bool, true, false, List, [], Option, IfSome}
use Rattle.cd_base.specs.declared.hash.Hash256.{Hash256}
use Rattle.cd_base.specs.declared.source.Source.{Ghosts as SourceGhosts}
use Rattle.cd_base.specs.declared.sink.Sink.{Ghosts as SinkGhosts}
use Rattle.cd_keeper.specs.declared.keeper.Keeper.{Ghosts as KeeperGhosts}
use Rattle.cd_event.specs.declared.entry.Entry.{Entry}
use Rattle.cd_world.specs.Machine.{replay}
use Rattle.cd_core.specs.declared.start.CoreStart.{CoreStart}
use Rattle.cd_feed.specs.declared.feed.Feed.{Feed}
use Rattle.cd_lanes.specs.NoPins.{IsFree}
use Rattle.cd_command.specs.declared.status.Status.{Status}
use Rattle.cd_command.specs.declared.status.Status.TheVariants as status
use Rattle.cd_command.specs.Untouched.{AreSame}
use Rattle.cd_command.specs.Opening.{IsOpening, IsUnopenedBy, LeadOn}
use Rattle.cd_command.specs.Printing.{NoFault}
use Rattle.cd_feed_call.specs.Feeding.{IsNoFeed, IsOfFeed}
use Rattle.cd_feed_call.specs.Told.{FeedEnds, NotFallen}

-- all was done, and the keeper failed no entry
abbrev pub is_clean : Status → Bool
is_clean status.Ok = true
is_clean status.WriteFault = true
is_clean status.ClientFault = true
is_clean _ = false

module _ (H : List ℕ → Hash256) {S O K X C : Type 0} (s : SourceGhosts S) (o : SinkGhosts O) (k : KeeperGhosts K)
    (got : C → Option (List ℕ)) (steady : C → Bool) (Stands : ℕ → ℕ → Type 0) where
  module _ (feed : Feed) (out out_after : O) (keeper keeper_after : K) (clients left : List C) (journal : List (Entry X)) (end : Status) where
    -- A store was opened, and the feed was done over it, which ended so. Each entry follows the world so far, from the
    -- opened one on, and where the keeper told what it held, it holds the contents of the world to which they lead, and its
    -- trail has the contents after each batch.
    pub record IsWorked : Type 0 where
      pub start : CoreStart K
      pub opened : IsOpening H k start.world.value keeper start.keeper.value
      pub on : LeadOn H k start.world.value journal start.keeper.value keeper_after
      pub ends : FeedEnds H k.held got steady start journal feed clients left o out out_after
          Stands (k.faults keeper) (k.faults keeper_after) end
      -- then no pin is left at the end, and no block that waits for the end of one
      pub free : IfSome (k.held keeper) (λ contents. is_clean end ≡ true → IsFree (replay start.world.value journal))

    -- no store was opened, as the status says, and nothing else was asked
    pub record IsUnopenedFor : Type 0 where
      pub unopened : IsUnopenedBy H k keeper keeper_after end
      pub entries : journal ≡ []
      pub sink : out_after ≡ out
      pub same : left ≡ clients

  -- the input was a feed, and the rest ended so
  abbrev pub OverFeed : S → S → O → O → K → K → List C → List C → List (Entry X) → Status → Type 0
  OverFeed i j out out_after keeper keeper_after clients left journal end =
      (feed : Feed) × IsOfFeed s feed i j
      × (IsWorked feed out out_after keeper keeper_after clients left journal end
      ⊎ IsUnopenedFor feed out out_after keeper keeper_after clients left journal end)

  -- the input was no feed, and nothing was asked of the other objects
  abbrev pub OverOther : S → S → O → O → K → K → List C → List C → List (Entry X) → Status → Type 0
  OverOther i j out out_after keeper keeper_after clients left journal end =
      IsNoFeed s i j end × AreSame out out_after keeper keeper_after journal × (left ≡ clients)

  -- how a command over a feed ends
  abbrev pub FeedCallEnds : S → S → O → O → K → K → List C → List C → List (Entry X) → Status → Type 0
  FeedCallEnds i j out out_after keeper keeper_after clients left journal end =
      OverFeed i j out out_after keeper keeper_after clients left journal end
      ⊎ OverOther i j out out_after keeper keeper_after clients left journal end

module _ (H : List ℕ → Hash256) {S O K X C : Type 0} (s : SourceGhosts S) (o : SinkGhosts O) (k : KeeperGhosts K)
    (got : C → Option (List ℕ)) (steady : C → Bool) where
  -- how the command `replay` ends: where the keeper failed no entry, no fault of it was counted
  abbrev pub ReplayEnds : S → S → O → O → K → K → List C → List C → List (Entry X) → Status → Type 0
  ReplayEnds = FeedCallEnds H s o k got steady NoFault

  -- how the command `run` ends
  abbrev pub RunEnds : S → S → O → O → K → K → List C → List C → List (Entry X) → Status → Type 0
  RunEnds = FeedCallEnds H s o k got steady NotFallen

-- Trusted: the journal of a core that did a feed covers the feed, and no pin is left.
use Rattle.std.specs.Prelude.{◌≡◌, ℕ, false, List, [], All, Option, Some}
use Rattle.cd_base.specs.declared.hash.Hash256.{Hash256}
use Rattle.cd_keeper.specs.Contents.{Contents}
use Rattle.cd_world.specs.Told.{ToldWorld}
use Rattle.cd_core.specs.Cores.{CoreView, IsCore, told_start, world_of}
use Rattle.cd_feed.specs.declared.feed.Feed.{Feed}
use Rattle.cd_run.specs.declared.outcome.Outcome.{Outcome}
use Rattle.cd_run.specs.Covers.{CoversBy, CoversPrefixBy, Covers, CoversPrefix}
use Rattle.cd_run.specs.Runs.{has_failed}
use Rattle.cd_lanes.specs.NoPins.{IsFree}
use Rattle.cd_replay.specs.Ran.{FeedDone, FeedStopped, pins_in}

module _ {K : Type 0} (digest : List ℕ → Hash256) (held : K → Option Contents) (faults : K → ℕ) (X : Type 0) where
  -- by the pins that the workers were given
  abbrev pub DoneCovers : Type 0
  DoneCovers = (feed : Feed) (ends : List (List (List Outcome))) (old new : CoreView K X)
      → FeedDone digest held faults feed.phases ends old new → old.journal ≡ []
      → CoversBy digest (pins_in digest held new) feed new.journal

  -- and where the keeper told the world at the start, by the replay from there
  abbrev pub DoneCoversTold : Type 0
  DoneCoversTold = (feed : Feed) (ends : List (List (List Outcome))) (old new : CoreView K X) (t : ToldWorld)
      → FeedDone digest held faults feed.phases ends old new → old.journal ≡ []
      → told_start held new.start ≡ Some t → Covers digest feed new.journal t

  -- the same where memory ran out
  abbrev pub StoppedCovers : Type 0
  StoppedCovers = (feed : Feed) (old new : CoreView K X)
      → FeedStopped digest held faults feed.phases old new → old.journal ≡ []
      → CoversPrefixBy digest (pins_in digest held new) feed new.journal

  abbrev pub StoppedCoversTold : Type 0
  StoppedCoversTold = (feed : Feed) (old new : CoreView K X) (t : ToldWorld)
      → FeedStopped digest held faults feed.phases old new → old.journal ≡ []
      → told_start held new.start ≡ Some t → CoversPrefix digest feed new.journal t

module _ {K : Type 0} (digest : List ℕ → Hash256) (held : K → Option Contents) (trail : K → Option (List Contents))
    (batches faults : K → ℕ) (X : Type 0) where
  -- no block was leaving at the start, and the keeper failed no entry: then no block is leaving, and no pin is left
  abbrev pub DoneLeavesFree : Type 0
  DoneLeavesFree = (feed : Feed) (ends : List (List (List Outcome))) (old new : CoreView K X)
      → IsCore held digest trail batches faults old.start old.journal old.keeper
      → IsCore held digest trail batches faults new.start new.journal new.keeper
      → FeedDone digest held faults feed.phases ends old new → old.journal ≡ []
      → All (λ d. d.leaving ≡ false) (let w = world_of old in w.blocks) → has_failed new.journal ≡ false
      → IsFree (world_of new)

-- Trusted: what a feed, done on threads, makes of a core without entries: its journal, and how each task ended.
use Rattle.std.specs.Prelude.{◌≡◌, ℕ, ◌+◌, ◌-◌, ◌^◌, ◌≤◌, min, List, Option}
use Rattle.cd_base.specs.declared.hash.Hash256.{Hash256}
use Rattle.cd_keeper.specs.Contents.{Contents}
use Rattle.cd_event.specs.declared.entry.Entry.{Entry}
use Rattle.cd_core.specs.Cores.{CoreView, failures}
use Rattle.cd_feed.specs.declared.feed.Phase.{Phase}
use Rattle.cd_run.specs.declared.outcome.Outcome.{Outcome}
use Rattle.cd_run.specs.Covers.{CutEarly}
use Rattle.cd_lanes.specs.Phases.{PhasesRun}
use Rattle.cd_replay.specs.Ran.{pins_in}

-- The core began as before, and its entries are such. Its keeper's count of faults rose by at least the number
-- of entries that say that it failed, or stands at the last u64.
pub record Ran {K X : Type 0} (faults : K → ℕ) (Are : List (Entry X) → Type 0) (old new : CoreView K X)
    : Type 0 where
  pub start : new.start ≡ old.start
  pub are : Are new.journal
  pub counted : min (faults old.start.keeper.value + failures new.journal) (2 ^ 64 - 1) ≤ faults new.keeper

module _ {K X : Type 0} (digest : List ℕ → Hash256) (held : K → Option Contents) (faults : K → ℕ) where
  -- all tasks were done, phase after phase, and ended so
  abbrev pub FeedDone : List Phase → List (List (List Outcome)) → CoreView K X → CoreView K X → Type 0
  FeedDone phases ends old new =
      Ran faults (λ es. PhasesRun digest (pins_in digest held new) 0 phases es ends) old new

  -- the first ones were done, and memory ran out
  abbrev pub FeedStopped : List Phase → CoreView K X → CoreView K X → Type 0
  FeedStopped phases old new =
      Ran faults (λ es. CutEarly digest (pins_in digest held new) 0 phases es) old new

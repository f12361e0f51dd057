-- Trusted: a feed that is done leaves no pin behind, and so no block that waits for the end of one.
use Rattle.std.specs.Prelude.{◌≡◌, ℕ, false, List, [], All}
use Rattle.cd_base.specs.declared.hash.Hash256.{Hash256}
use Rattle.cd_event.specs.declared.entry.Entry.{Entry}
use Rattle.cd_event.specs.Pins.{Named}
use Rattle.cd_world.specs.declared.world.World.{World}
use Rattle.cd_world.specs.Standing.{IsTidy}
use Rattle.cd_world.specs.Machine.{replay}
use Rattle.cd_world.specs.Following.{AllFollow}
use Rattle.cd_feed.specs.declared.feed.Phase.{Phase}
use Rattle.cd_run.specs.Covers.{CutByPhases}
use Rattle.cd_run.specs.Runs.{has_failed}

-- no pin, and no block that is leaving
pub record IsFree (w : World) : Type 0 where
  pub no_pins : w.pins ≡ []
  pub none_leaving : All (λ d. d.leaving ≡ false) w.blocks

-- From a world that is free so, entries follow that are those of all tasks of some phases, in whatever order the workers
-- of a phase made them, and the keeper failed none of them: then the world that they lead to is free again.
abbrev pub LeavesFree : (List ℕ → Hash256) → Type 0 → Type 0
LeavesFree H X = (pins : ℕ → List Named) (phases : List Phase) (w : World) (journal : List (Entry X))
    → IsTidy w → IsFree w → AllFollow H w journal → CutByPhases H pins 0 phases journal
    → has_failed journal ≡ false → IsFree (replay w journal)

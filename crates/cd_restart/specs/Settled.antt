-- Trusted: leaving blocks that a stop left behind are dropped one by one, the least id first.
use Rattle.std.specs.Prelude.{◌≡◌, ℕ, List, ◌++◌, map, None, Result, Ok, Err}
use Rattle.std.specs.Option.{option_map}
use Rattle.cd_base.specs.declared.hash.Hash256.{Hash256}
use Rattle.cd_keeper.specs.declared.keeper.Keeper.{Ghosts as KeeperGhosts}
use Rattle.cd_keeper.specs.Contents.{Contents}
use Rattle.cd_event.specs.declared.faults.UnpinFault.{UnpinFault}
use Rattle.cd_world.specs.declared.world.World.{World}
use Rattle.cd_world.specs.Changes.{settling, settled}
use Rattle.cd_world.specs.Told.{ToldWorld}
use Rattle.cd_world.specs.Trail.{AreContentsOf}
use Rattle.cd_core.specs.Cores.{CoreView, Holds, opened, world_of}
use Rattle.cd_core.specs.Settling.{first_leaving}

-- a world of the same trees
abbrev pub told_at : ToldWorld → World → ToldWorld
told_at t w = record { world = w; state = t.state }

-- from the first world some worlds were passed to the one that is left: those that are still to be passed are the rest
-- of all that lie on the way to the settled world
pub record IsOnTheWay (first left : World) (passed : List World) : Type 0 where
  pub rest : settling first ≡ passed ++ settling left
  pub end : settled left ≡ settled first

module _ (H : List ℕ → Hash256) {K : Type 0} (k : KeeperGhosts K) where
  -- the keeper holds the contents of the world that is left, and its trail grew by those of the worlds passed
  pub record IsPassed (t : ToldWorld) (left : World) (passed : List World) (old now : K) : Type 0 where
    pub holds : Holds k.held H (told_at t left) now
    pub more : List Contents
    pub is_trail : k.trail now ≡ option_map (λ contents. contents ++ more) (k.trail old)
    pub are : AreContentsOf H (map (told_at t) passed) more

  module _ {X : Type 0} where
    -- a core settled some of its leaving blocks
    pub record IsSettling (before now : CoreView K X) (passed : List World) : Type 0 where
      pub way : IsOnTheWay (world_of before) (world_of now) passed
      pub limit : now.start.limit ≡ before.start.limit
      pub silent : k.held before.keeper ≡ None → k.held now.keeper ≡ None
      pub told : (t : ToldWorld) → t.world ≡ world_of before → Holds k.held H t before.keeper
          → IsPassed t (world_of now) passed before.keeper now.keeper

-- all of them are settled, where it is so answered
abbrev pub IsAll : {K X A : Type 0} → Result A UnpinFault → CoreView K X → Type 0
IsAll (Ok done) now = (first_leaving (world_of now) ≡ None) × (world_of now ≡ opened (let w = world_of now in w.blocks))
IsAll (Err fault) now = Unit {0}

-- Trusted: a core as contracts see it, and what it keeps: its world is the replay of its journal, its keeper holds that
-- world's contents, and the keeper's trail and counts are those of the journal.
use Rattle.std.specs.Prelude.{◌≡◌, ℕ, ◌+◌, ◌-◌, ◌^◌, ◌≤◌, min, if◌then◌else◌, List, [], ◌∷◌, ◌++◌, length, All, Option, Some, None, IfSome}
use Rattle.std.specs.Option.{option_map}
use Rattle.std.specs.List.{count_by}
use Rattle.cd_base.specs.declared.hash.Hash256.{Hash256}
use Rattle.cd_base.specs.Counts.{one_more}
use Rattle.cd_block.specs.declared.description.Descr.{Descr}
use Rattle.cd_block.specs.Description.{IsDescr, IsDescrFit}
use Rattle.cd_keeper.specs.Contents.{Contents}
use Rattle.cd_record.specs.declared.limits.TheConstants.{GREATEST_COUNT}
use Rattle.cd_event.specs.declared.entry.Entry.{Entry}
use Rattle.cd_event.specs.Turning.{is_keeper}
use Rattle.cd_world.specs.declared.world.World.{World}
use Rattle.cd_world.specs.Standing.{IsTidy}
use Rattle.cd_world.specs.Machine.{makes_batch, replay}
use Rattle.cd_world.specs.Following.{AllFollow}
use Rattle.cd_world.specs.Told.{ToldWorld, told_replay, AllFollowTold}
use Rattle.cd_world.specs.Trail.{worlds_after, AreContentsOf}
use Rattle.cd_world.specs.Unfolded.{told_in}
use Rattle.cd_count.specs.SoundContents.{AreSoundContents}
use Rattle.cd_core.specs.declared.start.CoreStart.{CoreStart}

-- what a core began with, its entries since, and its keeper
pub record CoreView (K X : Type 0) : Type 0 where
  pub start : CoreStart K
  pub journal : List (Entry X)
  pub keeper : K

-- the world after some entries, and that of a core
abbrev pub world_after : {K X : Type 0} → CoreStart K → List (Entry X) → World
world_after start journal = replay start.world.value journal

abbrev pub world_of : {K X : Type 0} → CoreView K X → World
world_of core = world_after core.start core.journal

-- the world of some blocks, without pins
abbrev pub opened : List Descr → World
opened blocks = record { blocks = blocks; pins = []; next = 0 }

-- what is kept of a world for every keeper: it is tidy, and a description can be written of each block
pub record IsWritable (w : World) : Type 0 where
  pub tidy : IsTidy w
  pub fit : All IsDescrFit w.blocks
  pub are : All IsDescr w.blocks

-- ---- the keeper's counts

-- how many entries say that the keeper failed
abbrev pub failures : {X : Type 0} → List (Entry X) → ℕ
failures journal = count_by (λ e. is_keeper (Some e.reply)) journal

-- a count of batches after some entries
abbrev pub batched : {X : Type 0} → List (Entry X) → ℕ → ℕ
batched [] count = count
batched (e ∷ es) count = batched es (if makes_batch e.reply then one_more count else count)

-- ---- what the keeper holds

module _ {K : Type 0} (held : K → Option Contents) where
  -- the world that a core began with, with its trees, where the keeper told them
  abbrev pub told_start : CoreStart K → Option ToldWorld
  told_start start = option_map (λ contents. told_in contents start.world.value) (held start.keeper.value)

  module _ (H : List ℕ → Hash256) where
    -- the keeper holds the contents of this world, which is sound
    pub record Holds (t : ToldWorld) (now : K) : Type 0 where
      pub contents : Contents
      pub is_held : held now ≡ Some contents
      pub are : AreSoundContents H t contents

    module _ {X : Type 0} (trail : K → Option (List Contents)) where
      -- the keeper told more contents, those of the worlds after each batch
      pub record IsTrailed (t : ToldWorld) (journal : List (Entry X)) (before now : K) : Type 0 where
        pub more : List Contents
        pub is_trail : trail now ≡ option_map (λ contents. contents ++ more) (trail before)
        pub are : AreContentsOf H (worlds_after H t journal) more

      -- the entries follow the world with its trees, and the keeper holds what they lead to
      pub record IsHeld (limit : ℕ) (t : ToldWorld) (journal : List (Entry X)) (before now : K) : Type 0 where
        pub follow : AllFollowTold H limit t journal
        pub holds : Holds (told_replay H t journal) now
        pub trailed : IsTrailed t journal before now

      -- ---- the core

      module _ (batches faults : K → ℕ) where
        -- There are no pins at the start. Each entry follows the world so far. The keeper's count of batches is that of
        -- the entries, and its count of faults rose by at least the number of those that say that it failed, or stands
        -- at the last u64. A keeper that told nothing at the start tells nothing.
        pub record IsCore (start : CoreStart K) (journal : List (Entry X)) (now : K) : Type 0 where
          pub no_pins : (let w = start.world.value in w.pins) ≡ []
          pub follow : AllFollow H start.world.value journal
          pub writable : IsWritable (world_after start journal)
          pub numbered : (let w = world_after start journal in w.next) ≤ length journal
          pub limited : (1 ≤ start.limit) × (start.limit ≤ GREATEST_COUNT)
          pub is_batches : batches now ≡ batched journal (batches start.keeper.value)
          pub is_faults : min (faults start.keeper.value + failures journal) (2 ^ 64 - 1) ≤ faults now
          pub silent : held start.keeper.value ≡ None → held now ≡ None
          pub told : IfSome (told_start start) (λ t. IsHeld start.limit t journal start.keeper.value now)

-- Trusted: a leaving block that a stop left behind is dropped, and the core begins anew with what is left.
use Rattle.std.specs.Prelude.{◌≡◌, ℕ, Bool, List, [], ◌∷◌, find, if◌then◌else◌, Option, Some, None, Result, Ok, Err}
use Rattle.cd_base.specs.declared.hash.Hash256.{Hash256}
use Rattle.cd_base.specs.Counts.{one_more}
use Rattle.cd_block.specs.declared.block.BlockId.{BlockId}
use Rattle.cd_block.specs.declared.description.Descr.{Descr}
use Rattle.cd_keeper.specs.Contents.{Contents}
use Rattle.cd_keeper.specs.Keeping.{longer, KeepsHeld}
use Rattle.cd_event.specs.declared.faults.UnpinFault.{UnpinFault}
use Rattle.cd_world.specs.declared.world.World.{World}
use Rattle.cd_world.specs.Told.{ToldWorld}
use Rattle.cd_core.specs.Cores.{CoreView, Holds, opened, world_of}

abbrev pub is_leaving : Descr → Bool
is_leaving d = d.leaving

-- a list without the first element that passes
abbrev pub without_first : {A : Type 0} → (A → Bool) → List A → List A
without_first p [] = []
without_first p (x ∷ xs) = if p x then xs else x ∷ without_first p xs

-- the leaving block with the least id, and the world without it, where there are no pins
abbrev pub first_leaving : World → Option Descr
first_leaving w = find is_leaving w.blocks

abbrev pub without_leaving : World → World
without_leaving w = opened (without_first is_leaving w.blocks)

abbrev pub told_without_leaving : ToldWorld → ToldWorld
told_without_leaving t = record { world = without_leaving t.world; state = t.state }

module _ {K : Type 0} (held : K → Option Contents) (H : List ℕ → Hash256) (trail : K → Option (List Contents)) (batches : K → ℕ) where
  -- where the keeper held the contents of a world, it holds those of the world without the block, by one batch
  pub record IsDropped (t : ToldWorld) (before now : K) : Type 0 where
    pub holds : Holds held H (told_without_leaving t) now
    pub trailed : trail now ≡ longer (trail before) (held now)

  module _ {X : Type 0} where
    -- the leaving block with the least id was dropped, and the core begins with the world that is left
    pub record Settles (before now : CoreView K X) (id : BlockId) : Type 0 where
      pub block : Descr
      pub first : first_leaving (world_of before) ≡ Some block
      pub named : id ≡ block.id
      pub world : now.start.world.value ≡ without_leaving (world_of before)
      pub keeper : now.start.keeper.value ≡ now.keeper
      pub limit : now.start.limit ≡ before.start.limit
      pub batched : batches now.keeper ≡ one_more (batches before.keeper)
      pub silent : held before.keeper ≡ None → held now.keeper ≡ None
      pub told : (t : ToldWorld) → t.world ≡ world_of before → Holds held H t before.keeper
          → IsDropped t before.keeper now.keeper

    -- what the call does, by its answer
    abbrev pub SettlesBy : Result (Option BlockId) UnpinFault → CoreView K X → CoreView K X → Type 0
    SettlesBy (Ok (Some id)) before now = Settles before now id
    SettlesBy (Ok None) before now =
        (first_leaving (world_of before) ≡ None) × (world_of before ≡ opened (let w = world_of before in w.blocks))
        × (now.start ≡ before.start) × (now.keeper ≡ before.keeper)
    SettlesBy (Err fault) before now =
        (now.start ≡ before.start) × KeepsHeld held trail batches before.keeper now.keeper

-- Trusted: what an opened store is: the contents of a sound world without pins, whose trees the contents tell.
use Rattle.std.specs.Prelude.{◌≡◌, ℕ, ◌-◌, ◌^◌, min, List, [], length, None}
use Rattle.std.specs.List.{sum_by}
use Rattle.std.specs.FinMap as finite
use Rattle.cd_base.specs.declared.hash.Hash256.{Hash256}
use Rattle.cd_block.specs.declared.description.Descr.{Descr}
use Rattle.cd_keeper.specs.Contents.{Contents}
use Rattle.cd_world.specs.declared.world.World.{World}
use Rattle.cd_world.specs.Image.{IsContentsOf}
use Rattle.cd_world.specs.Told.{ToldWorld, shown, held, count, IsSound}
use Rattle.cd_world.specs.Unfolded.{told_in}
use Rattle.cd_restart.specs.declared.opened.Opened.{Opened}
use Rattle.cd_restart.specs.declared.scan_fault.ScanFault.{ScanFault}
use Rattle.cd_restart.specs.declared.scan_fault.ScanFault.TheVariants.{Keeper, Memory}
use Rattle.cd_restart.specs.Stored.{AreBytes, blocks_in, cells_in}
use Rattle.cd_restart.specs.ScanFaults.{scan_fault}

-- some blocks, without pins
abbrev pub world_of : List Descr → World
world_of blocks = record { blocks = blocks; pins = []; next = 0 }

-- what was read of contents, which are bytes: all blocks, how many cells, and their counts together
pub record IsRead (contents : Contents) (opened : Opened) : Type 0 where
  pub fit : AreBytes contents
  pub blocks_are : opened.blocks ≡ blocks_in contents
  pub cells_are : opened.cells ≡ length (cells_in contents)
  pub counts_are : opened.counts ≡ min (sum_by (λ c. c.1.count) (cells_in contents)) (2 ^ 64 - 1)

module _ (H : List ℕ → Hash256) where
  -- the contents are those of this world, which is sound and has no pins
  pub record IsStore (contents : Contents) (t : ToldWorld) : Type 0 where
    pub sound : IsSound H t
    pub alone : t.world.pins ≡ []
    pub are : IsContentsOf H (shown t) contents

  -- all references to held cells together
  abbrev pub all_counts : ToldWorld → ℕ
  all_counts t = sum_by (λ e. count H t e.0) (finite.entries (held H t))

  -- this was opened: the contents are those of a sound world with these blocks, which holds so many cells, and so many
  -- references or the last u64
  pub record IsOpened (contents : Contents) (opened : Opened) : Type 0 where
    pub store : IsStore contents (told_in contents (world_of opened.blocks))
    pub cells : opened.cells ≡ finite.len (held H (told_in contents (world_of opened.blocks)))
    pub counts : opened.counts ≡ min (all_counts (told_in contents (world_of opened.blocks))) (2 ^ 64 - 1)

  -- the contents, which are bytes, are those of no sound world without pins
  abbrev pub AreNoStore : Contents → Type 0
  AreNoStore contents = AreBytes contents → (t : ToldWorld) → IsStore contents t → ⊥

  -- this refusal says so; that the keeper failed or memory ran out says nothing
  abbrev pub IsDamaged : Contents → ScanFault → Type 0
  IsDamaged contents Keeper = Unit {0}
  IsDamaged contents Memory = Unit {0}
  IsDamaged contents _ = AreNoStore contents

-- Nothing is refused exactly of the contents of a sound world without pins, and then its blocks are those described.
pub record ScansExactly (H : List ℕ → Hash256) : Type 0 where
  pub whole : (contents : Contents) → AreBytes contents → scan_fault H contents ≡ None
      → IsStore H contents (told_in contents (world_of (blocks_in contents)))
  pub only : (contents : Contents) (t : ToldWorld) → AreBytes contents → IsStore H contents t
      → (scan_fault H contents ≡ None) × (blocks_in contents ≡ t.world.blocks)

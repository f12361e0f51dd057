-- Inner: the blocks that a masterchain block has passed: why none is dropped, which go, and which are leaving.
use Rattle.std.specs.Prelude.{◌≡◌, ◌&&◌, Bool, List, map, Option}
use Rattle.std.specs.List.{filter}
use Rattle.cd_base.specs.declared.hash.Hash256.{Hash256}
use Rattle.cd_block.specs.declared.block.BlockId.{BlockId}
use Rattle.cd_block.specs.declared.description.Descr.{Descr}
use Rattle.cd_keeper.specs.declared.fault.KeepFault.{KeepFault}
use Rattle.cd_keeper.specs.declared.fault.KeepFault.TheVariants as keep
use Rattle.cd_event.specs.declared.faults.ExpireFault.{ExpireFault}
use Rattle.cd_event.specs.declared.faults.ExpireFault.TheVariants as expire
use Rattle.cd_event.specs.declared.refusal.Refusal.{Refusal}
use Rattle.cd_event.specs.Replies.{expire_refusal}
use Rattle.cd_count.specs.declared.count_fault.CountFault.{CountFault}
use Rattle.cd_count.specs.declared.count_fault.CountFault.TheVariants as count
use Rattle.cd_world.specs.declared.world.World.{World}
use Rattle.cd_world.specs.Standing.{is_pinned, is_expired}
use Rattle.cd_world.specs.Changes.{goes_at_once, marked, without_expired}
use Rattle.cd_world.specs.Told.{ToldWorld}

-- the world's refusal, or want of memory
abbrev pub IsUnexpirable : Option Refusal → ExpireFault → Type 0
IsUnexpirable refused expire.Memory = Unit {0}
IsUnexpirable refused expire.Keeper = ⊥
IsUnexpirable refused fault = expire_refusal fault ≡ refused

-- an expired block with a pin
abbrev pub is_left : World → Descr → Descr → Bool
is_left w m d = is_expired m d && is_pinned w.pins d.id

-- the roots and the ids of the blocks that go, and the others as they are from then on
pub record ArePassed (w : World) (m : Descr) (roots : List Hash256) (gone : List BlockId) (leaving : List Descr)
    (blocks : List Descr) : Type 0 where
  pub roots_are : roots ≡ map (λ d. d.root) (filter (goes_at_once w m) blocks)
  pub gone_are : gone ≡ map (λ d. d.id) (filter (goes_at_once w m) blocks)
  pub leaving_are : leaving ≡ map (marked m) (filter (is_left w m) blocks)

-- a plan's fault that comes from outside, as the keeper's
abbrev pub keep_of : CountFault → KeepFault
keep_of count.Memory = keep.Memory
keep_of fault = keep.Failed

-- the world with its trees, without the passed blocks
abbrev pub told_passed : Descr → ToldWorld → ToldWorld
told_passed m t = record { world = without_expired t.world m; state = t.state }

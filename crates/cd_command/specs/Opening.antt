-- Trusted: a command over a store: how its opening ends, and what the command's entries make of the opened store.
use Rattle.std.specs.Prelude.{◌≡◌, ◌⊎◌, ℕ, ◌+◌, ◌-◌, ◌^◌, ◌≤◌, min, List, [], None, IfSome}
use Rattle.cd_base.specs.declared.hash.Hash256.{Hash256}
use Rattle.cd_record.specs.declared.limits.TheConstants.{GREATEST_COUNT}
use Rattle.cd_keeper.specs.declared.keeper.Keeper.{Ghosts as KeeperGhosts}
use Rattle.cd_event.specs.declared.entry.Entry.{Entry}
use Rattle.cd_world.specs.declared.world.World.{World}
use Rattle.cd_world.specs.Changes.{settling, settled}
use Rattle.cd_world.specs.Following.{AllFollow}
use Rattle.cd_world.specs.Unfolded.{told_in}
use Rattle.cd_count.specs.SoundContents.{AreSoundContents}
use Rattle.cd_core.specs.Cores.{IsHeld, batched, failures}
use Rattle.cd_restart.specs.declared.open_fault.OpenFault.{OpenFault}
use Rattle.cd_restart.specs.declared.open_fault.OpenFault.TheVariants as opening
use Rattle.cd_restart.specs.Opened.{world_of}
use Rattle.cd_restart.specs.OpenEnds.{IsLeft, IsSettledTo, IsUnopened}
use Rattle.cd_restart.specs.Stored.{blocks_in}
use Rattle.cd_command.specs.declared.status.Status.{Status}
use Rattle.cd_command.specs.declared.status.Status.TheVariants as status

-- the status of a call over a store that isn't opened
abbrev pub status_by : OpenFault → Status
status_by (opening.Damaged fault) = status.Damaged fault
status_by opening.Keeper = status.KeeperFault
status_by opening.Memory = status.Memory

module _ (H : List ℕ → Hash256) {K : Type 0} (k : KeeperGhosts K) where
  -- no store was opened, as this status says
  abbrev pub IsUnopenedBy : K → K → Status → Type 0
  IsUnopenedBy old now (status.Damaged fault) = IsUnopened H k old now (opening.Damaged fault)
  IsUnopenedBy old now status.KeeperFault = IsUnopened H k old now opening.Keeper
  IsUnopenedBy old now status.Memory = IsUnopened H k old now opening.Memory
  IsUnopenedBy old now _ = ⊥

  -- A store was opened as this world, which has no pins, and no fault was counted. Where the keeper told what it held,
  -- this was the contents of a sound world without pins, and the opened world is that one with its leaving blocks dropped,
  -- in one batch for each. The keeper holds its contents, which tell its trees.
  pub record IsOpening (world : World) (old mid : K) : Type 0 where
    pub no_pins : world.pins ≡ []
    pub steady : k.faults mid ≡ k.faults old
    pub silent : k.held old ≡ None → k.held mid ≡ None
    pub told : IfSome (k.held old) (λ contents. (world ≡ settled (world_of (blocks_in contents)))
        × IsSettledTo H k contents (settled (world_of (blocks_in contents))) (settling (world_of (blocks_in contents))) old mid)
    pub holds : IfSome (k.held mid) (λ contents. AreSoundContents H (told_in contents world) contents)

  module _ {X : Type 0} where
    -- Each entry follows the world so far, from this one on, and the keeper made a batch for each that makes one. Its count
    -- of faults rose by at least the number of entries that say that it failed, or stands at the last u64. Where it told
    -- what it held, it holds the contents of the world to which the entries lead, which is sound, and its trail has one
    -- content more for each batch, that of the world after it.
    pub record LeadOn (world : World) (journal : List (Entry X)) (mid new : K) : Type 0 where
      pub follow : AllFollow H world journal
      pub batches : k.batches new ≡ batched journal (k.batches mid)
      pub counted : min (k.faults mid + failures journal) (2 ^ 64 - 1) ≤ k.faults new
      pub silent : k.held mid ≡ None → k.held new ≡ None
      pub told : IfSome (k.held mid) (λ contents. IsHeld k.held H k.trail GREATEST_COUNT (told_in contents world) journal mid new)

    -- a store was opened, and the entries lead on from there
    pub record LeadsTo (journal : List (Entry X)) (old new : K) : Type 0 where
      pub world : World
      pub mid : K
      pub opened : IsOpening world old mid
      pub on : LeadOn world journal mid new

    -- no entry was made: nothing changed, or some leaving blocks were dropped, or the store was opened and no more
    pub record IsIdle (journal : List (Entry X)) (old new : K) : Type 0 where
      pub entries : journal ≡ []
      pub left : IsLeft H k old new ⊎ LeadsTo journal old new

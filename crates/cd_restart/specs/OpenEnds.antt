-- Trusted: how opening a store ends.
use Rattle.std.specs.Prelude.{◌≡◌, ◌⊎◌, ℕ, List, [], Some, None, IfSome}
use Rattle.cd_base.specs.declared.hash.Hash256.{Hash256}
use Rattle.cd_base.specs.Counts.{Rose}
use Rattle.cd_event.specs.declared.faults.UnpinFault.{UnpinFault}
use Rattle.cd_event.specs.declared.faults.UnpinFault.TheVariants as unpin
use Rattle.cd_keeper.specs.declared.keeper.Keeper.{Ghosts as KeeperGhosts}
use Rattle.cd_keeper.specs.Contents.{Contents}
use Rattle.cd_keeper.specs.Keeping.{KeepsHeld}
use Rattle.cd_world.specs.declared.world.World.{World}
use Rattle.cd_world.specs.Changes.{settling, settled}
use Rattle.cd_world.specs.Unfolded.{told_in}
use Rattle.cd_core.specs.Cores.{CoreView}
use Rattle.cd_restart.specs.declared.open_fault.OpenFault.{OpenFault}
use Rattle.cd_restart.specs.declared.open_fault.OpenFault.TheVariants as opening
use Rattle.cd_restart.specs.declared.scan_fault.ScanFault.{ScanFault}
use Rattle.cd_restart.specs.declared.scan_fault.ScanFault.TheVariants as scan
use Rattle.cd_restart.specs.Stored.{blocks_in}
use Rattle.cd_restart.specs.ScanFaults.{scan_fault}
use Rattle.cd_restart.specs.Opened.{world_of, IsStore}
use Rattle.cd_restart.specs.Settled.{IsOnTheWay, IsPassed}

-- a scan's fault as that of an opening
abbrev pub by_scan : ScanFault → OpenFault
by_scan scan.Keeper = opening.Keeper
by_scan scan.Memory = opening.Memory
by_scan fault = opening.Damaged fault

-- and a fault while settling
abbrev pub by_settling : UnpinFault → OpenFault
by_settling unpin.Keeper = opening.Keeper
by_settling fault = opening.Memory

module _ (H : List ℕ → Hash256) {K : Type 0} (k : KeeperGhosts K) where
  -- the contents are a store's, and the world that they tell was settled as far as this
  pub record IsSettledTo (contents : Contents) (left : World) (passed : List World) (old now : K) : Type 0 where
    pub store : IsStore H contents (told_in contents (world_of (blocks_in contents)))
    pub way : IsOnTheWay (world_of (blocks_in contents)) left passed
    pub is : IsPassed H k (told_in contents (world_of (blocks_in contents))) left passed old now

  -- nothing changed, or some blocks were settled
  abbrev pub IsLeft : K → K → Type 0
  IsLeft old now = KeepsHeld k.held k.trail k.batches old now
      ⊎ IfSome (k.held old) (λ contents. (left : World) × (passed : List World) × IsSettledTo contents left passed old now)

  -- the core begins with the settled world of a store and with its keeper as it is, nothing is left to settle, there is no
  -- entry, and no fault was counted
  pub record IsOpenedCore {X : Type 0} (old : K) (limit : ℕ) (now : CoreView K X) : Type 0 where
    pub journal : now.journal ≡ []
    pub limited : now.start.limit ≡ limit
    pub begun : now.start.keeper.value ≡ now.keeper
    pub steady : k.faults now.keeper ≡ k.faults old
    pub silent : k.held old ≡ None → k.held now.keeper ≡ None
    pub told : IfSome (k.held old) (λ contents.
        (now.start.world.value ≡ settled (world_of (blocks_in contents)))
        × IsSettledTo contents (settled (world_of (blocks_in contents))) (settling (world_of (blocks_in contents))) old now.keeper)

  -- no core was made: the store is damaged, or the keeper failed or memory ran out, maybe with some leaving blocks gone
  abbrev pub IsUnopened : K → K → OpenFault → Type 0
  IsUnopened old now (opening.Damaged fault) =
      IfSome (k.held old) (λ contents. scan_fault H contents ≡ Some fault)
      × KeepsHeld k.held k.trail k.batches old now × (k.faults now ≡ k.faults old)
  IsUnopened old now opening.Keeper = Rose (k.faults old) (k.faults now) × IsLeft old now
  IsUnopened old now opening.Memory = (k.faults now ≡ k.faults old) × IsLeft old now

-- Inner: what the work of one call does to the keeper and the world, before its entry stands in the journal.
use Rattle.std.specs.Prelude.{◌≡◌, ℕ, Bool, true, false, if◌then◌else◌, List, [], ◌∷◌, Option, Some, None, IfSome, Result, Err}
use Rattle.cd_base.specs.declared.hash.Hash256.{Hash256}
use Rattle.cd_base.specs.Counts.{one_more}
use Rattle.cd_keeper.specs.Contents.{Contents, Change, changed}
use Rattle.cd_keeper.specs.Keeping.{longer, IsApplied}
use Rattle.cd_event.specs.declared.names.Who.{Who}
use Rattle.cd_event.specs.declared.event.Event.{Event}
use Rattle.cd_event.specs.declared.entry.Reply.{Reply}
use Rattle.cd_event.specs.declared.faults.UnpinFault.{UnpinFault}
use Rattle.cd_event.specs.declared.faults.UnpinFault.TheVariants as unpin
use Rattle.cd_event.specs.Replies.{entry_of}
use Rattle.cd_event.specs.Turning.{is_keeper, RisesOnly}
use Rattle.cd_world.specs.declared.world.World.{World}
use Rattle.cd_world.specs.declared.world.PinRow.{PinRow}
use Rattle.cd_world.specs.Changes.{without_pin}
use Rattle.cd_world.specs.Machine.{after, makes_batch}
use Rattle.cd_world.specs.Following.{Follows}
use Rattle.cd_world.specs.Told.{ToldWorld, shown, told_after, FollowsTold}
use Rattle.cd_world.specs.Image.{IsContentsOf}
use Rattle.cd_world.specs.ToldTrees.{HasBytes}
use Rattle.cd_count.specs.SoundContents.{AreSoundContents}
use Rattle.cd_count.specs.declared.count_fault.CountFault.{CountFault}
use Rattle.cd_count.specs.declared.count_fault.CountFault.TheVariants as count
use Rattle.cd_block.specs.declared.block.BlockId.{BlockId}
use Rattle.cd_block.specs.Block.{key_of}
use Rattle.cd_count.specs.Changes.{Rows, IsCellBatch}
use Rattle.cd_count.specs.PlanRows.{AreOfBytes}
use Rattle.cd_core.specs.Cores.{IsWritable, Holds}

-- whether an answer makes a batch
abbrev pub batches_by : Option Reply → Bool
batches_by None = false
batches_by (Some reply) = makes_batch reply

-- the world without a pin, and without the block that goes with it
abbrev pub told_without : PinRow → ToldWorld → ToldWorld
told_without row t = record { world = without_pin t.world row; state = t.state }

-- whether the keeper failed a pin's end
abbrev pub is_keeper_fault : {A : Type 0} → Result A UnpinFault → Bool
is_keeper_fault (Err unpin.Keeper) = true
is_keeper_fault _ = false

-- a plan's fault as that of a pin's end; where no block comes there is no clash and no full count
abbrev pub of_count : CountFault → UnpinFault
of_count count.Keeper = unpin.Keeper
of_count count.Memory = unpin.Memory
of_count (count.Clash hash stored offered) = unpin.Memory
of_count (count.CountFull hash n) = unpin.Memory

-- no pin is missing
abbrev pub IsOutsideFault : {A : Type 0} → Result A UnpinFault → Type 0
IsOutsideFault (Err unpin.NoPin) = ⊥
IsOutsideFault _ = Unit {0}

module _ {X : Type 0} where
  -- the world after an event so answered: the same where memory ran out
  abbrev pub moved_by : World → Who → Event X → Option Reply → World
  moved_by w who event None = w
  moved_by w who event (Some reply) = after w (entry_of who event reply)

  module _ (H : List ℕ → Hash256) where
    abbrev pub told_by : ToldWorld → Who → Event X → Option Reply → ToldWorld
    told_by t who event None = t
    told_by t who event (Some reply) = told_after H t (entry_of who event reply)

module _ {K : Type 0} (held : K → Option Contents) (H : List ℕ → Hash256) (trail : K → Option (List Contents)) where
  module _ {X : Type 0} where
    -- where the keeper holds the contents of a world with its trees
    pub record DidTold (limit : ℕ) (t : ToldWorld) (who : Who) (event : Event X) (answer : Option Reply) (k k' : K)
        : Type 0 where
      pub follows : IfSome answer (λ reply. FollowsTold H limit t (entry_of who event reply))
      pub holds : Holds held H (told_by H t who event answer) k'
      pub trailed : trail k' ≡ (if batches_by answer then longer (trail k) (held k') else trail k)

    module _ (batches faults : K → ℕ) where
      pub record Did (limit : ℕ) (w : World) (k : K) (who : Who) (event : Event X) (answer : Option Reply) (w' : World)
          (k' : K) : Type 0 where
        pub world : w' ≡ moved_by w who event answer
        pub follows : IfSome answer (λ reply. Follows H w (entry_of who event reply))
        pub writable : IsWritable w'
        pub batched : batches k' ≡ (if batches_by answer then one_more (batches k) else batches k)
        pub caused : RisesOnly (is_keeper answer) (faults k) (faults k')
        pub silent : held k ≡ None → held k' ≡ None
        pub told : (t : ToldWorld) → t.world ≡ w → Holds held H t k → DidTold limit t who event answer k k'

  -- one batch was made, which leads from the contents of a world to those of the next, whatever its trees are
  pub record Batches (batches : K → ℕ) (w : World) (next : ToldWorld → ToldWorld) (k k' : K) : Type 0 where
    pub change : Change
    pub applied : IsApplied held trail batches change k k'
    pub leads : (t : ToldWorld) (contents : Contents) → t.world ≡ w → held k ≡ Some contents → AreSoundContents H t contents
        → IsContentsOf H (shown (next t)) (changed change contents) × HasBytes (changed change contents)

-- the batch of a plan that drops one description
pub record IsDropOf (plan : Rows) (id : BlockId) (change : Change) : Type 0 where
  pub cells : IsCellBatch plan change
  pub bytes : AreOfBytes change.put_cells
  pub puts : change.put_descs ≡ []
  pub drops : change.drop_descs ≡ key_of id ∷ []

-- Trusted: the values that tasks prepare of their bags, and why they prepare none.
use Rattle.std.specs.Prelude.{◌≡◌, ℕ, List, [], ◌∷◌, Option, Some, None, IfSome}
use Rattle.std.specs.Option.{option_and_then}
use Rattle.cd_base.specs.declared.hash.Hash256.{Hash256}
use Rattle.cd_cell.specs.FaceView.{FaceView}
use Rattle.cd_cell.specs.Infos.{rep_of_info}
use Rattle.cd_cell.specs.PreparedView.{PreparedView}
use Rattle.cd_cell.specs.Tree.{Tree}
use Rattle.cd_boc_read.specs.declared.bag_fault.BagFault.{BagFault}
use Rattle.cd_boc_read.specs.BagFaults.{bag_fault}
use Rattle.cd_boc_read.specs.Grammar.{Spells}
use Rattle.cd_update.specs.declared.update_fault.UpdateFault.{UpdateFault}
use Rattle.cd_update.specs.UpdateFaults.{fault_of_trees}
use Rattle.cd_prepare.specs.declared.prepare_fault.PrepareFault.{PrepareFault}
use Rattle.cd_prepare.specs.States.{state_fault, IsWhole}
use Rattle.cd_prepare.specs.Applied.{stated_old, stated_new, faces_fault, update_fault, IsUpdateApplied}
use Rattle.cd_prepare.specs.Merged.{split_fault, merged_fault, IsMergeApplied}
use Rattle.cd_event.specs.Pins.{Named, joined_root}
use Rattle.cd_run.specs.declared.outcome.TaskRefusal.{TaskRefusal}
use Rattle.cd_run.specs.declared.outcome.TaskRefusal.TheVariants as word
use Rattle.cd_run.specs.Words.{update_word, prepare_word}

-- ---- zero states

-- the bag has no state
pub data HasNoState (digest : List ℕ → Hash256) (bag : List ℕ) (why : TaskRefusal) : Type 0 where
  no_bag : (fault : BagFault) → bag_fault digest bag ≡ Some fault → why ≡ word.Bag → HasNoState digest bag why
  no_state : (trees : List Tree) (fault : PrepareFault) → Spells digest bag trees
      → state_fault digest trees ≡ Some fault → prepare_word fault ≡ Some why
      → HasNoState digest bag why

-- the value is that of the state that the bag has: all its cells
pub record IsStateOf (digest : List ℕ → Hash256) (bag : List ℕ) (p : PreparedView) : Type 0 where
  pub state : Tree
  pub spelled : Spells digest bag (state ∷ [])
  pub no_fault : state_fault digest (state ∷ []) ≡ None
  pub no_old : p.old ≡ None
  pub whole : IsWhole digest state p.root p.cells

-- ---- updates

-- the bag has no update
pub data HasNoUpdate (digest : List ℕ → Hash256) (bag : List ℕ) (why : TaskRefusal) : Type 0 where
  no_bag_of_update : (fault : BagFault) → bag_fault digest bag ≡ Some fault → why ≡ word.Bag
      → HasNoUpdate digest bag why
  no_update : (trees : List Tree) (fault : UpdateFault) → Spells digest bag trees
      → fault_of_trees digest trees ≡ Some fault → why ≡ update_word fault
      → HasNoUpdate digest bag why

-- the bag has this update
pub record HasUpdate (digest : List ℕ → Hash256) (bag : List ℕ) (u : Tree) : Type 0 where
  pub spelled : Spells digest bag (u ∷ [])
  pub no_fault : fault_of_trees digest (u ∷ []) ≡ None

-- the value was prepared of an update over a state with this root hash
pub record IsOver (digest : List ℕ → Hash256) (u : Tree) (old : Hash256) (p : PreparedView) : Type 0 where
  pub over : p.old ≡ Some old
  pub stated : stated_old digest u ≡ old
  pub new : rep_of_info p.root ≡ stated_new digest u

module _ (digest : List ℕ → Hash256) (m : Named) (u : Tree) where
  -- by the faces that were found; and, where the pin's tree is told, by that
  pub record IsPrepared (p : PreparedView) : Type 0 where
    pub over : IsOver digest u (rep_of_info m.root) p
    pub faces : List (Option FaceView)
    pub no_fault : faces_fault digest u m.root faces ≡ None
    pub applied : IfSome m.tree (λ t. (update_fault digest u t ≡ None) × IsUpdateApplied digest u t p.root p.cells)

  pub record IsUnprepared (why : TaskRefusal) : Type 0 where
    pub faces : List (Option FaceView)
    pub by_faces : option_and_then prepare_word (faces_fault digest u m.root faces) ≡ Some why
    pub by_tree : IfSome m.tree (λ t. option_and_then prepare_word (update_fault digest u t) ≡ Some why)

-- the same over the states of two pins, joined
module _ (digest : List ℕ → Hash256) (m n : Named) (u : Tree) where
  pub record IsMergePrepared (p : PreparedView) : Type 0 where
    pub over : IsOver digest u (rep_of_info (joined_root digest m.root n.root)) p
    pub faces : List (Option FaceView)
    pub no_fault : split_fault digest u m.root n.root faces ≡ None
    pub applied : IfSome m.tree (λ a. IfSome n.tree (λ b. (merged_fault digest u a b ≡ None)
        × IsMergeApplied digest u a b p.root p.cells))

  pub record IsMergeUnprepared (why : TaskRefusal) : Type 0 where
    pub faces : List (Option FaceView)
    pub by_faces : option_and_then prepare_word (split_fault digest u m.root n.root faces) ≡ Some why
    pub by_trees : IfSome m.tree (λ a. IfSome n.tree (λ b.
        option_and_then prepare_word (merged_fault digest u a b) ≡ Some why))

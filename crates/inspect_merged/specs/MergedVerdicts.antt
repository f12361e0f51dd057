-- Trusted: what is said of bytes as an update of the joined tree of two states.
use Rattle.std.specs.Prelude.{◌≡◌, ℕ, List, [], ◌∷◌, length, Some, Ok}
use Rattle.cd_base.specs.declared.hash.Hash256.{Hash256}
use Rattle.cd_cell.specs.Tree.{Tree, rep_of}
use Rattle.cd_cell.specs.Export.{export_cmp, sorted_distinct}
use Rattle.cd_cell.specs.Joined.{joined_tree}
use Rattle.cd_cell.specs.Updates.{applied}
use Rattle.cd_boc_read.specs.Grammar.{Spells}
use Rattle.cd_boc_read.specs.BagFaults.{bag_fault}
use Rattle.cd_update.specs.UpdateFaults.{fault_of_trees}
use Rattle.cd_update.specs.Pairing.{wanted_hashes_below}
use Rattle.cd_prepare.specs.Merged.{merged_cells, merged_fault}
use Rattle.inspect_updates.specs.declared.refusal.Refusal.{Refusal}
use Rattle.inspect_updates.specs.declared.refusal.Refusal.TheVariants.{Bag, Update, Prepare}
use Rattle.inspect_updates.specs.declared.update_verdict.UpdateVerdict.{UpdateVerdict}
use Rattle.inspect_updates.specs.declared.update_verdict.UpdateVerdict.TheVariants.{Good, Refused}

module _ (H : List ℕ → Hash256) (a b : Tree) where
  -- the update applied to the joined tree: the hash of the new one, how many cells are shown below the joined one, and how
  -- many are new, the joined one among them where the new tree has it
  pub record IsMerged (u : Tree) (shown new : ℕ) (root : Hash256) : Type 0 where
    pub tree : Tree
    pub is_applied : applied H u (joined_tree a b) ≡ Ok tree
    pub root_is : root ≡ rep_of H tree
    pub shown_is : shown ≡ length (wanted_hashes_below H u)
    pub new_is : new ≡ length (sorted_distinct (export_cmp H) (merged_cells H u a b))

  -- why bytes are no update of the joined tree: they are no bag, or its trees are no update, or this isn't prepared
  abbrev pub IsWhyNotMerged : List ℕ → Refusal → Type 0
  IsWhyNotMerged bytes (Bag fault) = bag_fault H bytes ≡ Some fault
  IsWhyNotMerged bytes (Update fault) =
      (trees : List Tree) × Spells H bytes trees × (fault_of_trees H trees ≡ Some fault)
  IsWhyNotMerged bytes (Prepare fault) = (u : Tree) × Spells H bytes (u ∷ []) × (merged_fault H u a b ≡ Some fault)

  -- what is said of bytes over the joined tree is so
  abbrev pub IsTrueOverBoth : List ℕ → UpdateVerdict → Type 0
  IsTrueOverBoth bytes (Good shown new root) = (u : Tree) × Spells H bytes (u ∷ []) × IsMerged u shown new root
  IsTrueOverBoth bytes (Refused refusal) = IsWhyNotMerged bytes refusal

-- Trusted: what is said of bytes as an update of an old state.
use Rattle.std.specs.Prelude.{◌≡◌, ℕ, List, [], ◌∷◌, length, Some, Ok}
use Rattle.cd_base.specs.declared.hash.Hash256.{Hash256}
use Rattle.cd_cell.specs.Tree.{Tree, rep_of}
use Rattle.cd_cell.specs.Export.{export_cmp, sorted_distinct}
use Rattle.cd_cell.specs.Updates.{applied, new_cells}
use Rattle.cd_boc_read.specs.Grammar.{Spells}
use Rattle.cd_boc_read.specs.BagFaults.{bag_fault}
use Rattle.cd_update.specs.UpdateFaults.{fault_of_trees}
use Rattle.cd_update.specs.Pairing.{wanted_hashes}
use Rattle.cd_prepare.specs.Applied.{update_fault}
use Rattle.inspect_updates.specs.declared.refusal.Refusal.{Refusal}
use Rattle.inspect_updates.specs.declared.refusal.Refusal.TheVariants.{Bag, Update, Prepare}
use Rattle.inspect_updates.specs.declared.update_verdict.UpdateVerdict.{UpdateVerdict}
use Rattle.inspect_updates.specs.declared.update_verdict.UpdateVerdict.TheVariants.{Good, Refused}

module _ (H : List ℕ → Hash256) (t : Tree) where
  -- the update applied to an old tree: the hash of the new one, how many old cells are shown, and how many are new
  pub record IsUpdated (u : Tree) (shown new : ℕ) (root : Hash256) : Type 0 where
    pub tree : Tree
    pub is_applied : applied H u t ≡ Ok tree
    pub root_is : root ≡ rep_of H tree
    pub shown_is : shown ≡ length (wanted_hashes H u)
    pub new_is : new ≡ length (sorted_distinct (export_cmp H) (new_cells H u t))

  -- why bytes are no update of an old tree: they are no bag, or its trees are no update, or this isn't prepared
  abbrev pub IsWhyNoUpdate : List ℕ → Refusal → Type 0
  IsWhyNoUpdate bytes (Bag fault) = bag_fault H bytes ≡ Some fault
  IsWhyNoUpdate bytes (Update fault) =
      (trees : List Tree) × Spells H bytes trees × (fault_of_trees H trees ≡ Some fault)
  IsWhyNoUpdate bytes (Prepare fault) = (u : Tree) × Spells H bytes (u ∷ []) × (update_fault H u t ≡ Some fault)

  -- what is said of bytes over an old tree is so
  abbrev pub IsTrueOver : List ℕ → UpdateVerdict → Type 0
  IsTrueOver bytes (Good shown new root) = (u : Tree) × Spells H bytes (u ∷ []) × IsUpdated u shown new root
  IsTrueOver bytes (Refused refusal) = IsWhyNoUpdate bytes refusal

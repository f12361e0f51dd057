-- Trusted: why bytes are no state.
use Rattle.std.specs.Prelude.{◌≡◌, ℕ, List, Some}
use Rattle.cd_base.specs.declared.hash.Hash256.{Hash256}
use Rattle.cd_cell.specs.Tree.{Tree}
use Rattle.cd_boc_read.specs.Grammar.{Spells}
use Rattle.cd_boc_read.specs.BagFaults.{bag_fault}
use Rattle.cd_prepare.specs.States.{state_fault}
use Rattle.inspect_updates.specs.declared.refusal.Refusal.{Refusal}
use Rattle.inspect_updates.specs.declared.refusal.Refusal.TheVariants.{Bag, Update, Prepare}

module _ (H : List ℕ → Hash256) where
  -- they are no bag, or its trees are no state
  abbrev pub IsWhyNoState : List ℕ → Refusal → Type 0
  IsWhyNoState bytes (Bag fault) = bag_fault H bytes ≡ Some fault
  IsWhyNoState bytes (Update fault) = ⊥
  IsWhyNoState bytes (Prepare fault) = (trees : List Tree) × Spells H bytes trees × (state_fault H trees ≡ Some fault)

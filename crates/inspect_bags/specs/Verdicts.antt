-- Trusted: what is said of bytes.
use Rattle.std.specs.Prelude.{◌≡◌, ℕ, List, [], ◌∷◌, length, map, Some}
use Rattle.cd_base.specs.declared.hash.Hash256.{Hash256}
use Rattle.cd_cell.specs.declared.info.ChildInfo.{ChildInfo}
use Rattle.cd_cell.specs.Tree.{Tree, info_of}
use Rattle.cd_boc_read.specs.Grammar.{Spells}
use Rattle.cd_boc_read.specs.Places.{stated_cells}
use Rattle.cd_boc_read.specs.BagFaults.{bag_fault}
use Rattle.cd_boc_write.specs.Exports.{bag_of}
use Rattle.inspect_bags.specs.declared.verdict.Verdict.{Verdict}
use Rattle.inspect_bags.specs.declared.verdict.Verdict.TheVariants.{Good, Refused}

module _ (H : List ℕ → Hash256) where
  -- the bytes are a bag of so many roots, whose header states so many cells
  pub record IsBagOf (bytes : List ℕ) (roots cells : ℕ) : Type 0 where
    pub trees : List Tree
    pub spelt : Spells H bytes trees
    pub rooted : length trees ≡ roots
    pub counted : cells ≡ stated_cells bytes

  -- what is said is so: they are a bag of so many roots and cells, or this is their first fault
  abbrev pub IsTrueOf : List ℕ → Verdict → Type 0
  IsTrueOf bytes (Good roots cells) = IsBagOf bytes roots cells
  IsTrueOf bytes (Refused fault) = bag_fault H bytes ≡ Some fault

  -- the bytes are a bag of one tree, and this is its export text
  abbrev pub IsExport : List ℕ → List ℕ → Type 0
  IsExport bytes text = (tree : Tree) × Spells H bytes (tree ∷ []) × (text ≡ bag_of H tree)

  -- the bytes are a bag of some trees, which show this at all levels
  abbrev pub AreRootsOf : List ℕ → List ChildInfo → Type 0
  AreRootsOf bytes infos = (trees : List Tree) × Spells H bytes trees × (infos ≡ map (info_of H) trees)

-- Trusted: states that a bag has whole, and what preparing one answers.
use Rattle.std.specs.Prelude.{◌≡◌, ◌⊎◌, ℕ, ◌-◌, ◌^◌, List, [], ◌∷◌, length, map, min, nat_eq, if◌then◌else◌, Contains, Option, Some, None, Result, Ok, Err}
use Rattle.cd_base.specs.declared.hash.Hash256.{Hash256}
use Rattle.cd_cell.specs.declared.info.ChildInfo.{ChildInfo}
use Rattle.cd_cell.specs.declared.new_cell.NewCell.{NewCell}
use Rattle.cd_cell.specs.Tree.{Tree, subtrees, info_of, mask_of}
use Rattle.cd_cell.specs.Export.{distinct_cells}
use Rattle.cd_cell.specs.Listings.{new_cell_of, Fits, IsOldOrListed, tree_of}
use Rattle.cd_prepare.specs.declared.prepare_fault.PrepareFault.{PrepareFault}
use Rattle.cd_prepare.specs.declared.prepare_fault.PrepareFault.TheVariants.{Roots, Level, Memory}

-- the number of some trees, which stands still at the last u32
abbrev pub root_count : List Tree → ℕ
root_count trees = min (length trees) (2 ^ 32 - 1)

module _ (H : List ℕ → Hash256) where
  -- why the trees of a bag's roots are no state, if they aren't: a state is one tree of mask 0
  abbrev pub state_fault : List Tree → Option PrepareFault
  state_fault [] = Some (Roots 0)
  state_fault (t ∷ []) = if nat_eq (mask_of H t) 0 then None else Some (Level (mask_of H t))
  state_fault (t ∷ u ∷ ts) = Some (Roots (root_count (t ∷ u ∷ ts)))

  -- a root and listed cells are those of a whole tree: they fit without an old tree, and stand for it; each of its cells
  -- is listed
  pub record IsWhole (t : Tree) (root : ChildInfo) (cells : List NewCell) : Type 0 where
    pub root_is : root ≡ info_of H t
    pub cells_are : cells ≡ map (new_cell_of H) (distinct_cells H t)
    pub fits : Fits H root cells []
    pub stands : tree_of H root cells [] ≡ t
    pub known : (s : Tree) → Contains (subtrees t) s → IsOldOrListed H cells [] s

-- the answer is Ok exactly where there is no fault, and else that fault, but for want of memory
abbrev pub Answers : {A : Type 0} → Option PrepareFault → Result A PrepareFault → Type 0
Answers fault (Ok x) = fault ≡ None
Answers fault (Err e) = (e ≡ Memory) ⊎ (fault ≡ Some e)

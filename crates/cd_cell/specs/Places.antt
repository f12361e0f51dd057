-- Trusted: the places of a half of an update, in preorder, each with its Merkle depth.
use Rattle.std.specs.Prelude.{ℕ, List, [], ◌∷◌, ◌++◌, if◌then◌else◌}
use Rattle.cd_base.specs.declared.hash.Hash256.{Hash256}
use Rattle.cd_cell.specs.Levels.{kid_level}
use Rattle.cd_cell.specs.Tree.{Tree, cell, Trees, no_trees, tree_and, face_of}
use Rattle.cd_cell.specs.Updates.{is_hidden}

-- a cell in a place, and the number of Merkle cells above it, at most 3
pub record Place : Type 0 where
  pub tree : Tree
  pub depth : ℕ

module _ (H : List ℕ → Hash256) where
  -- nothing is below a cell that isn't shown
  abbrev mutual
    pub places : Tree → ℕ → List Place
    places (cell exotic bits os) d =
        let shown = face_of H (cell exotic bits os) in
        record { tree = cell exotic bits os; depth = d } ∷ (if is_hidden d shown then [] else places_of_all os (kid_level shown d))

    pub places_of_all : Trees → ℕ → List Place
    places_of_all no_trees d = []
    places_of_all (tree_and o os) d = places o d ++ places_of_all os d

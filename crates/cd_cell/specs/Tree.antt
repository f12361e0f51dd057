-- Trusted: cells as trees, with their hashes and depths, over any function from bytes to hashes.
use Rattle.std.specs.Prelude.{ℕ, ◌≤◌, Bool, List, [], ◌∷◌, ◌++◌, length, Option}
use Rattle.cd_cell.specs.declared.limits.TheConstants.{MOST_BITS}
use Rattle.cd_base.specs.declared.hash.Hash256.{Hash256}
use Rattle.cd_cell.specs.declared.info.ChildInfo.{ChildInfo}
use Rattle.cd_cell.specs.declared.kind.Kind.{Kind}
use Rattle.cd_cell.specs.Infos.{info_hash, info_depth, rep_of_info, height_of_info}
use Rattle.cd_cell.specs.FaceView.{FaceView}
use Rattle.cd_cell.specs.Levels.{kind_of_face, info_of_face}
use Rattle.cd_cell.specs.Fit.{IsFaceFit}

-- a cell with the cells below it: an exotic flag, the bits, and the children
mutual
  pub data Tree : Type 0 where
    cell : Bool → List Bool → Trees → Tree

  pub data Trees : Type 0 where
    no_trees : Trees
    tree_and : Tree → Trees → Trees

-- children as a list, and a list as children
abbrev pub list_of : Trees → List Tree
list_of no_trees = []
list_of (tree_and t ts) = t ∷ list_of ts

abbrev pub trees_of : List Tree → Trees
trees_of [] = no_trees
trees_of (t ∷ ts) = tree_and t (trees_of ts)

-- the children of a cell
abbrev pub children : Tree → List Tree
children (cell exotic bits ts) = list_of ts

-- a cell and all cells below it, in preorder, each as often as it has a place
abbrev mutual
  pub subtrees : Tree → List Tree
  subtrees (cell exotic bits ts) = cell exotic bits ts ∷ subtrees_of_all ts

  pub subtrees_of_all : Trees → List Tree
  subtrees_of_all no_trees = []
  subtrees_of_all (tree_and t ts) = subtrees t ++ subtrees_of_all ts

module _ (H : List ℕ → Hash256) where
  -- mask, hashes and depths of a cell, from those of its children
  abbrev mutual
    pub info_of : Tree → ChildInfo
    info_of (cell exotic bits ts) = info_of_face H (record { exotic = exotic; bits = bits; kids = infos_of ts })

    pub infos_of : Trees → List ChildInfo
    infos_of no_trees = []
    infos_of (tree_and t ts) = info_of t ∷ infos_of ts

  -- a cell without the cells below it
  abbrev pub face_of : Tree → FaceView
  face_of (cell exotic bits ts) = record { exotic = exotic; bits = bits; kids = infos_of ts }

  abbrev pub kind_of : Tree → Option Kind
  kind_of t = kind_of_face (face_of t)

  abbrev pub mask_of : Tree → ℕ
  mask_of t = let info = info_of t in info.mask

  -- hash and depth at a level from 0 to 3
  abbrev pub hash_at : Tree → ℕ → Hash256
  hash_at t l = info_hash (info_of t) l

  abbrev pub depth_at : Tree → ℕ → ℕ
  depth_at t l = info_depth (info_of t) l

  -- the key of a stored cell
  abbrev pub rep_of : Tree → Hash256
  rep_of t = rep_of_info (info_of t)

  abbrev pub height_of : Tree → ℕ
  height_of t = height_of_info (info_of t)

  -- every cell has the bits, references, mask, stated hashes and depths of its kind, and no depth is over 1024
  abbrev mutual
    pub IsWellFormed : Tree → Type 0
    IsWellFormed (cell exotic bits ts) =
        (length bits ≤ MOST_BITS) × (length (list_of ts) ≤ 4) × IsFaceFit (record { exotic = exotic; bits = bits; kids = infos_of ts }) × AreWellFormed ts

    pub AreWellFormed : Trees → Type 0
    AreWellFormed no_trees = Unit {0}
    AreWellFormed (tree_and t ts) = IsWellFormed t × AreWellFormed ts

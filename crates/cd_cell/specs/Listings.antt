-- Trusted: new cells in the order of an export, and the prepared values that list them.
use Rattle.std.specs.Prelude.{◌≡◌, ◌⊎◌, ℕ, ◌<◌, ◌≤◌, IsTrue, Bool, ◌||◌, List, [], ◌∷◌, ◌++◌, length, map, take, find, slice_index_or, Contains, All, AllPairs, unwrap_or}
use Rattle.std.specs.List.{list_any, flat_map}
use Rattle.std.specs.Ordering.{nat_cmp, ordering_then}
use Rattle.std.specs.declared.cmp.Ordering.{Ordering}
use Rattle.std.specs.declared.cmp.Ordering.TheVariants.{Less}
use Rattle.cd_cell.specs.declared.limits.TheConstants.{GREATEST_DEPTH}
use Rattle.cd_base.specs.declared.hash.Hash256.{Hash256}
use Rattle.cd_cell.specs.declared.info.ChildInfo.{ChildInfo}
use Rattle.cd_cell.specs.declared.new_cell.NewCell.{NewCell}
use Rattle.cd_cell.specs.Infos.{no_hash, height_of_info}
use Rattle.cd_cell.specs.Levels.{info_of_face, rep_of_face, height_of_face}
use Rattle.cd_cell.specs.Tree.{Tree, cell, trees_of, subtrees, info_of, face_of, rep_of}
use Rattle.cd_cell.specs.Unfolding.{no_tree}
use Rattle.cd_cell.specs.Equality.{same_info}
use Rattle.cd_cell.specs.GoodFace.{IsGoodFace}
use Rattle.cd_cell.specs.Bags.{no_face}
use Rattle.cd_cell.specs.Export.{hash_cmp}

abbrev pub no_cell : NewCell
no_cell = record { hash = no_hash; face = no_face }

abbrev pub listed_at : List NewCell → ℕ → NewCell
listed_at cells place = slice_index_or cells place no_cell

-- the greatest height first, and then the least hash first
abbrev pub listing_cmp : NewCell → NewCell → Ordering
listing_cmp a b = ordering_then (nat_cmp (height_of_face b.face) (height_of_face a.face)) (hash_cmp a.hash b.hash)

-- the cells of some old trees: none for a state that is new whole, two where two shards are merged
abbrev pub old_cells : List Tree → List Tree
old_cells olds = flat_map subtrees olds

module _ (H : List ℕ → Hash256) where
  -- a cell as it is listed
  abbrev pub new_cell_of : Tree → NewCell
  new_cell_of t = record { hash = rep_of H t; face = face_of H t }

  abbrev pub info_of_new : NewCell → ChildInfo
  info_of_new c = info_of_face H c.face

  -- whether what a cell shows is that of the root, or of a kid of a cell listed before it
  abbrev pub is_named : ChildInfo → List NewCell → ChildInfo → Bool
  is_named root before info = same_info info root || list_any (λ c. list_any (same_info info) c.face.kids) before

  -- what a prepared value keeps: good faces under their reps, in the order of an export, none twice, below a root of
  -- mask 0. A parent is higher than its child, so it is listed before it: each cell is reached from the root through
  -- listed cells.
  pub record IsValid (root : ChildInfo) (cells : List NewCell) : Type 0 where
    pub good : (k : ℕ) → k < length cells → IsGoodFace (listed_at cells k).face
    pub masks : All (λ c. All (λ k. k.mask ≤ 7) c.face.kids) cells
    pub hashed : (k : ℕ) → k < length cells → (listed_at cells k).hash ≡ rep_of_face H (listed_at cells k).face
    pub ordered : AllPairs (λ a b. listing_cmp a b ≡ Less) cells
    pub distinct : (i j : ℕ) → i < length cells → j < length cells → (listed_at cells i).hash ≡ (listed_at cells j).hash → i ≡ j
    pub reached : (k : ℕ) → k < length cells → IsTrue (is_named root (take k cells) (info_of_new (listed_at cells k)))
    pub plain : root.mask ≡ 0
    pub shallow : height_of_info root ≤ GREATEST_DEPTH

  -- ---- over old trees

  -- what listed cells and old cells show
  abbrev pub known_infos : List NewCell → List Tree → List ChildInfo
  known_infos cells olds = map info_of_new cells ++ map (info_of H) (old_cells olds)

  -- the root and each kid are those of a listed cell or of an old one
  pub record Fits (root : ChildInfo) (cells : List NewCell) (olds : List Tree) : Type 0 where
    pub top : Contains (known_infos cells olds) root
    pub kids : All (λ c. All (Contains (known_infos cells olds)) c.face.kids) cells

  -- a cell of an old tree, or one whose face is listed
  abbrev pub IsOldOrListed : List NewCell → List Tree → Tree → Type 0
  IsOldOrListed cells olds s = Contains (old_cells olds) s ⊎ ((c : NewCell) × Contains cells c × (c.face ≡ face_of H s))

  -- the first of some cells that shows this
  abbrev pub tree_with : List Tree → ChildInfo → Tree
  tree_with trees info = unwrap_or (find (λ t. same_info (info_of H t) info) trees) no_tree

  -- the trees of listed cells: children are looked up among the cells listed behind, and then among the old ones
  unfoldable pub listed_trees : List Tree → List NewCell → List Tree
  listed_trees old [] = []
  listed_trees old (c ∷ cs) =
      let later = listed_trees old cs in
      cell c.face.exotic c.face.bits (trees_of (map (tree_with (later ++ old)) c.face.kids)) ∷ later

  -- the tree that a prepared value stands for: the listed cell that shows the root's info, else the first cell with it of
  -- the first old tree that has one
  abbrev pub tree_of : ChildInfo → List NewCell → List Tree → Tree
  tree_of root cells olds = tree_with (listed_trees (old_cells olds) cells ++ old_cells olds) root

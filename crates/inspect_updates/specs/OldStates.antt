-- Trusted: old states, that is all cells of a tree, which are found by their hashes.
use Rattle.std.specs.Prelude.{◌≡◌, ℕ, List, [], ◌∷◌, map, find, Contains, Option}
use Rattle.std.specs.Option.{option_map}
use Rattle.cd_base.specs.declared.hash.Hash256.{Hash256}
use Rattle.cd_cell.specs.declared.index.Index.{Index}
use Rattle.cd_cell.specs.declared.new_cell.NewCell.{NewCell}
use Rattle.cd_cell.specs.FaceView.{FaceView}
use Rattle.cd_cell.specs.PreparedView.{PreparedView}
use Rattle.cd_cell.specs.GoodFace.{IsGoodFace}
use Rattle.cd_cell.specs.Tree.{Tree, subtrees, info_of, face_of}
use Rattle.cd_cell.specs.Equality.{same_hash}
use Rattle.cd_cell.specs.Export.{distinct_cells, IsClashFree}
use Rattle.cd_cell.specs.Indexes.{IsIndex}
use Rattle.cd_cell.specs.Listings.{new_cell_of, tree_of}
use Rattle.cd_boc_read.specs.Grammar.{Spells}
use Rattle.cd_boc_read.specs.Places.{stated_cells}

-- the face of the first listed cell of a hash
abbrev pub face_in : List NewCell → Hash256 → Option FaceView
face_in cells hash = option_map (λ c. c.face) (find (λ c. same_hash hash c.hash) cells)

-- where listed cells stand, by their hashes
abbrev pub IsIndexed : Index → List NewCell → Type 0
IsIndexed places cells = IsIndex places (map (λ c. c.hash) cells)

module _ (H : List ℕ → Hash256) where
  -- the tree that a value stands for, without an old tree
  abbrev pub state_of : PreparedView → Tree
  state_of value = tree_of H value.root value.cells []

  -- the value lists all cells of that tree, which is well-formed and free of clashes
  pub record IsState (value : PreparedView) : Type 0 where
    pub good : (s : Tree) → Contains (subtrees (state_of value)) s → IsGoodFace (face_of H s)
    pub clear : IsClashFree H (state_of value)
    pub top : value.root ≡ info_of H (state_of value)
    pub all : value.cells ≡ map (new_cell_of H) (distinct_cells H (state_of value))

  -- the bytes are a bag of that tree alone, whose header states so many cells
  pub record IsStateBag (bytes : List ℕ) (value : PreparedView) (cells : ℕ) : Type 0 where
    pub spelt : Spells H bytes (state_of value ∷ [])
    pub counted : cells ≡ stated_cells bytes

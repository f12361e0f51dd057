-- Trusted: the trees of a bag of cells, and what a bag keeps: entries whose children stand behind them, with their faces.
use Rattle.std.specs.Prelude.{◌≡◌, ℕ, ◌<◌, false, List, [], ◌∷◌, length, map, take, slice_index, slice_index_or}
use Rattle.cd_base.specs.declared.hash.Hash256.{Hash256}
use Rattle.cd_cell.specs.FaceView.{FaceView}
use Rattle.cd_cell.specs.BagView.{BagView}
use Rattle.cd_cell.specs.Levels.{info_of_face, rep_of_face}
use Rattle.cd_cell.specs.CellFaults.{kid_at}
use Rattle.cd_cell.specs.GoodFace.{IsGoodFace}
use Rattle.cd_cell.specs.Tree.{Tree, height_of}
use Rattle.cd_cell.specs.Unfolding.{Entry, unfolding_of}

-- the face of the ordinary cell without bits and children, in the place of one that isn't there
abbrev pub no_face : FaceView
no_face = record { exotic = false; bits = []; kids = [] }

abbrev pub face_at : List FaceView → ℕ → FaceView
face_at cells number = slice_index_or cells number no_face

-- the number of the entry that is a child; four numbers stand for an entry, the first ones for its children
abbrev pub ref_at : List (List ℕ) → ℕ → ℕ → ℕ
ref_at refs number place = slice_index (slice_index_or refs number []) place

-- the entries, by their faces and their children's numbers
abbrev pub entry_of : FaceView → List ℕ → Entry
entry_of face four = record { exotic = face.exotic; bits = face.bits; refs = take (length face.kids) four }

abbrev pub entries_of : List FaceView → List (List ℕ) → List Entry
entries_of [] rs = []
entries_of (f ∷ fs) [] = []
entries_of (f ∷ fs) (r ∷ rs) = entry_of f r ∷ entries_of fs rs

-- the numbers of the children of an entry
abbrev pub refs_at : BagView → ℕ → List ℕ
refs_at bag number = take (length (face_at bag.cells number).kids) (slice_index_or bag.refs number [])

-- the cell of an entry, with the cells below it
abbrev pub bag_cell : List FaceView → List (List ℕ) → ℕ → Tree
bag_cell cells refs number = unfolding_of (entries_of cells refs) number

abbrev pub bag_tree : BagView → ℕ → Tree
bag_tree bag number = bag_cell bag.cells bag.refs number

-- the cell of entry r is lower than that of entry number
abbrev pub IsLower : (List ℕ → Hash256) → BagView → ℕ → ℕ → Type 0
IsLower H bag number r = height_of H (bag_tree bag r) < height_of H (bag_tree bag number)

-- the trees of the roots
abbrev pub root_trees : List FaceView → List (List ℕ) → List ℕ → List Tree
root_trees cells refs roots = map (bag_cell cells refs) roots

abbrev pub bag_trees : BagView → List Tree
bag_trees bag = root_trees bag.cells bag.refs bag.roots

-- entries with their faces, and the numbers of some as roots
pub record IsBag (H : List ℕ → Hash256) (cells : List FaceView) (refs : List (List ℕ)) (roots : List ℕ) : Type 0 where
  pub counted : length refs ≡ length cells
  pub good : (k : ℕ) → k < length cells → IsGoodFace (face_at cells k)
  -- the children of an entry stand behind it, and its kids are what they show
  pub later : (k p : ℕ) → k < length cells → p < length (face_at cells k).kids → k < ref_at refs k p
  pub there : (k p : ℕ) → k < length cells → p < length (face_at cells k).kids → ref_at refs k p < length cells
  pub shown : (k p : ℕ) → k < length cells → p < length (face_at cells k).kids → kid_at (face_at cells k) p ≡ info_of_face H (face_at cells (ref_at refs k p))
  -- equal reps have equal faces
  pub clear : (i j : ℕ) → i < length cells → j < length cells → rep_of_face H (face_at cells i) ≡ rep_of_face H (face_at cells j) → face_at cells i ≡ face_at cells j
  pub rooted : (p : ℕ) → p < length roots → slice_index roots p < length cells

-- Trusted: the cells that a list of entries describes, as in a bag of cells: the children of an entry stand behind it.
use Rattle.std.specs.Prelude.{ℕ, ◌+◌, ◌-◌, ◌<◌, Bool, false, List, [], ◌∷◌, length, map, slice_index, slice_index_or, nat_lt, if◌then◌else◌}
use Rattle.cd_base.specs.declared.hash.Hash256.{Hash256}
use Rattle.cd_cell.specs.declared.info.ChildInfo.{ChildInfo}
use Rattle.cd_cell.specs.FaceView.{FaceView}
use Rattle.cd_cell.specs.Levels.{info_of_face}
use Rattle.cd_cell.specs.Tree.{Tree, cell, no_trees, trees_of, info_of}

-- the exotic flag, the bits, and the numbers of the entries that are the children
pub record Entry : Type 0 where
  pub exotic : Bool
  pub bits : List Bool
  pub refs : List ℕ

-- the ordinary cell without bits and children, in the place of an entry that isn't there
abbrev pub no_tree : Tree
no_tree = cell false [] no_trees

-- what a number names, given what stands behind entry i; `absent` where it names nothing behind it
abbrev pub behind : {A : Type 0} → ℕ → List A → A → ℕ → A
behind i later absent r = if nat_lt i r then slice_index_or later (r - (i + 1)) absent else absent

-- the cell of entry i, over the cells of the entries behind it
abbrev pub tree_of_entry : ℕ → Entry → List Tree → Tree
tree_of_entry i e later = cell e.exotic e.bits (trees_of (map (behind i later no_tree) e.refs))

-- the cells of all entries, the first of which has number i
unfoldable pub unfold_from : ℕ → List Entry → List Tree
unfold_from i [] = []
unfold_from i (e ∷ es) = let later = unfold_from (i + 1) es in tree_of_entry i e later ∷ later

-- the cell that a number names among all entries
abbrev pub unfolding_of : List Entry → ℕ → Tree
unfolding_of entries number = slice_index_or (unfold_from 0 entries) number no_tree

-- the children of each entry stand behind it
abbrev pub AreLater : List Entry → Type 0
AreLater es = (k p : ℕ) (d : Entry) → k < length es → p < length (slice_index_or es k d).refs → (k < slice_index (slice_index_or es k d).refs p) × (slice_index (slice_index_or es k d).refs p < length es)

module _ (H : List ℕ → Hash256) where
  -- the face of entry i, over what the entries behind it show
  abbrev pub face_of_entry : ℕ → Entry → List ChildInfo → FaceView
  face_of_entry i e later = record { exotic = e.exotic; bits = e.bits; kids = map (behind i later (info_of H no_tree)) e.refs }

  -- what the entries show, from the last one downwards
  unfoldable pub infos_from : ℕ → List Entry → List ChildInfo
  infos_from i [] = []
  infos_from i (e ∷ es) = let later = infos_from (i + 1) es in info_of_face H (face_of_entry i e later) ∷ later

  -- the faces of the entries
  unfoldable pub faces_from : ℕ → List Entry → List FaceView
  faces_from i [] = []
  faces_from i (e ∷ es) = face_of_entry i e (infos_from (i + 1) es) ∷ faces_from (i + 1) es

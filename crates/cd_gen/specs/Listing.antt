-- Inner: the cells of a tree as the generator lists them.
use Rattle.std.specs.Prelude.{◌≡◌, ℕ, true, List, [], ◌∷◌, ◌++◌, map, replicate, reverse}
use Rattle.std.specs.Int.{w16, to_be_bytes}
use Rattle.cd_cell.specs.declared.info.ChildInfo.{ChildInfo}
use Rattle.cd_cell.specs.FaceView.{FaceView}
use Rattle.cd_cell.specs.Infos.{info_hash, info_depth}
use Rattle.cd_cell.specs.Tree.{Tree, subtrees, info_of, face_of}
use Rattle.cd_gen.specs.States.{sha, bits_of}
use Rattle.cd_gen.specs.declared.cell.Cell.{Cell}

-- what is shown at level 0
abbrev pub hash_bytes : ChildInfo → List ℕ
hash_bytes info = let hash = info_hash info 0 in hash.0

abbrev pub depth_bytes : ChildInfo → List ℕ
depth_bytes info = to_be_bytes w16 (info_depth info 0)

-- something of each cell of a tree: of children before their parents, and of the last child first
unfoldable pub turned : {A : Type 0} → (Tree → A) → Tree → List A
turned f t = reverse (map f (subtrees t))

abbrev pub faces_of : Tree → List FaceView
faces_of = turned (face_of sha)

abbrev pub infos_of : Tree → List ChildInfo
infos_of = turned (info_of sha)

abbrev pub faces : List Cell → List FaceView
faces cells = map (λ c. c.face) cells

-- a pruned branch in the place of a cell that shows this
abbrev pub pruned_face : ChildInfo → FaceView
pruned_face info = record { exotic = true; bits = bits_of (1 ∷ 1 ∷ hash_bytes info ++ depth_bytes info); kids = [] }

-- the Merkle update between two halves that show this
abbrev pub update_face : ChildInfo → ChildInfo → FaceView
update_face old new = record {
  exotic = true;
  bits = bits_of (4 ∷ hash_bytes old ++ hash_bytes new ++ depth_bytes old ++ depth_bytes new);
  kids = old ∷ new ∷ [];
}

-- all cells of a tree are listed behind the others, and its root shows this
pub record IsListed (t : Tree) (old new : List Cell) (info : ChildInfo) : Type 0 where
  pub cells : faces new ≡ faces old ++ faces_of t
  pub root : info ≡ info_of sha t

-- what a cell of mask 0 shows with this hash and this depth at level 0
abbrev pub at_level_0 : ChildInfo → ChildInfo
at_level_0 info = record { mask = 0; hashes = replicate 4 (info_hash info 0); depths = replicate 4 (info_depth info 0) }

-- the cells that an update shows of a state are listed behind the others, and what the state's cells show is kept behind
-- the same of others
pub record IsListedAfter (t state : Tree) (old new : List Cell) (before after : List ChildInfo) (info : ChildInfo) : Type 0 where
  pub cells : faces new ≡ faces old ++ faces_of t
  pub root : info ≡ info_of sha t
  pub kept : after ≡ before ++ infos_of state
  pub plain : at_level_0 info ≡ info_of sha state

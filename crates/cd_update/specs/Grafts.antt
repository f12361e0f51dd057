-- Trusted: the new half of an update grafted onto what is known of the old tree, by what cells show alone.
use Rattle.std.specs.Prelude.{◌≡◌, ℕ, if◌then◌else◌, List, [], ◌∷◌, map, find, is_some, Option, None, unwrap_or}
use Rattle.std.specs.List.{flat_map}
use Rattle.cd_base.specs.declared.hash.Hash256.{Hash256}
use Rattle.cd_cell.specs.declared.info.ChildInfo.{ChildInfo}
use Rattle.cd_cell.specs.FaceView.{FaceView}
use Rattle.cd_cell.specs.Levels.{kid_level, info_of_face}
use Rattle.cd_cell.specs.Tree.{Tree, cell, Trees, no_trees, tree_and, info_of, face_of, hash_at}
use Rattle.cd_cell.specs.Unfolding.{no_tree}
use Rattle.cd_cell.specs.Updates.{is_hidden, stands_for, some_unless, found_in, grafted, own_cells}
use Rattle.cd_cell.specs.Equality.{same_info, same_face}
use Rattle.cd_cell.specs.Places.{Place, places}
use Rattle.cd_update.specs.EachOnce.{each_once, first_of}

-- the first known cell that stands for a hidden one
abbrev pub known_for : List ChildInfo → ChildInfo → ℕ → Option ChildInfo
known_for known hidden d = find (stands_for hidden d) known

module _ (H : List ℕ → Hash256) (known : List ChildInfo) where
  -- what the graft of a cell shows: a hidden cell gives way to the known one, every other keeps its flag and bits
  abbrev mutual
    pub grafted_info : Tree → ℕ → ChildInfo
    grafted_info (cell exotic bits ns) d =
        let n = cell exotic bits ns in
        if is_hidden d (face_of H n) then unwrap_or (known_for known (info_of H n) d) (info_of H no_tree)
        else info_of_face H (record { exotic = exotic; bits = bits; kids = grafted_infos ns (kid_level (face_of H n) d) })

    pub grafted_infos : Trees → ℕ → List ChildInfo
    grafted_infos no_trees d = []
    grafted_infos (tree_and n ns) d = grafted_info n d ∷ grafted_infos ns d

  -- the face of a cell that keeps its flag and bits
  abbrev pub grafted_face : Tree → ℕ → FaceView
  grafted_face (cell exotic bits ns) d = record { exotic = exotic; bits = bits; kids = grafted_infos ns (kid_level (face_of H (cell exotic bits ns)) d) }

  abbrev pub own_face_at : Place → List FaceView
  own_face_at p = if is_hidden p.depth (face_of H p.tree) then [] else grafted_face p.tree p.depth ∷ []

  -- the hash of a hidden cell for which none is known
  abbrev pub foreign_at : Place → Option Hash256
  foreign_at p = if is_hidden p.depth (face_of H p.tree) then some_unless (is_some (known_for known (info_of H p.tree) p.depth)) (hash_at H p.tree p.depth) else None

  -- the hash of the first hidden cell of a half for which none is known
  abbrev pub foreign_hash : Tree → Option Hash256
  foreign_hash half = first_of foreign_at (places H half 0)

  abbrev pub own_faces_at : List Place → List FaceView
  own_faces_at ps = flat_map own_face_at ps

  -- the faces of a half's own cells, in preorder, each once
  abbrev pub own_faces : Tree → List FaceView
  own_faces half = each_once same_face (own_faces_at (places H half 0))

-- ---- where known infos are those of trees

module _ (H : List ℕ → Hash256) (ts : List Tree) where
  abbrev pub AreShownBy : List ChildInfo → Type 0
  AreShownBy infos = infos ≡ each_once same_info (map (info_of H) ts)

  -- a root and own cells are those of a half grafted onto the trees
  pub record IsGraftOnto (half : Tree) (root : ChildInfo) (cells : List FaceView) : Type 0 where
    pub root_is : root ≡ info_of H (grafted H (found_in H ts) half 0)
    pub cells_are : cells ≡ each_once same_face (map (face_of H) (own_cells H (found_in H ts) half 0))

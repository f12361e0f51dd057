-- Trusted: the tree of two states, as a block has it whose parents are those of two merged shards (TL-B, `split_state`).
use Rattle.std.specs.Prelude.{Bool, false, List, [], ◌∷◌}
use Rattle.std.specs.List.{flat_map}
use Rattle.cd_cell.specs.declared.info.ChildInfo.{ChildInfo}
use Rattle.cd_cell.specs.BitText.{bits_of_byte}
use Rattle.cd_cell.specs.FaceView.{FaceView}
use Rattle.cd_cell.specs.Tree.{Tree, cell, no_trees, tree_and}

-- the constructor tag of a split state, 5f327da5
abbrev pub split_tag : List Bool
split_tag = flat_map bits_of_byte (95 ∷ 50 ∷ 125 ∷ 165 ∷ [])

-- the ordinary cell with this tag over the left and the right state
abbrev pub joined_tree : Tree → Tree → Tree
joined_tree left right = cell false split_tag (tree_and left (tree_and right no_trees))

-- its face, by what both show
abbrev pub joined_face : ChildInfo → ChildInfo → FaceView
joined_face left right = record { exotic = false; bits = split_tag; kids = left ∷ right ∷ [] }

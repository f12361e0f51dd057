-- Inner: the places of a half by the entries of its bag.
use Rattle.std.specs.Prelude.{◌≡◌, ℕ, ◌<◌, ◌≤◌, Bool, ◌&&◌, nat_eq, List, [], length, map, if◌then◌else◌}
use Rattle.cd_base.specs.declared.hash.Hash256.{Hash256}
use Rattle.cd_cell.specs.BagView.{BagView}
use Rattle.cd_cell.specs.CellFaults.{kid_at}
use Rattle.cd_cell.specs.Levels.{kid_level, info_of_face}
use Rattle.cd_cell.specs.Updates.{is_hidden}
use Rattle.cd_cell.specs.Bags.{face_at, refs_at}
use Rattle.cd_update.specs.EachOnce.{walk_within}
use Rattle.cd_update.specs.declared.visit.Node.{Node}
use Rattle.cd_update.specs.declared.visit.Visit.{Visit}

abbrev pub same_node : Node → Node → Bool
same_node a b = nat_eq a.entry b.entry && nat_eq a.depth b.depth

abbrev pub node : ℕ → ℕ → Node
node depth entry = record { entry = entry; depth = depth }

module _ (bag : BagView) where
  -- the children of an entry, at their Merkle depth; none where it stands for a cell that isn't shown
  abbrev pub next_nodes : Node → List Node
  next_nodes n =
      let face = face_at bag.cells n.entry in
      if is_hidden n.depth face then [] else map (node (kid_level face n.depth)) (refs_at bag n.entry)

  -- an entry and all below it in preorder; children stand behind their cells, so there are no more steps than entries
  abbrev pub nodes_from : Node → List Node
  nodes_from n = walk_within next_nodes (length bag.cells) n

-- the entry is the child of another one in a place, which shows it
pub record IsShown (H : List ℕ → Hash256) (bag : BagView) (v : Visit) : Type 0 where
  pub entry : v.node.entry < length bag.cells
  pub depth : v.node.depth ≤ 3
  pub parent : v.parent < length bag.cells
  pub place : v.place < length (face_at bag.cells v.parent).kids
  pub shown : kid_at (face_at bag.cells v.parent) v.place ≡ info_of_face H (face_at bag.cells v.node.entry)

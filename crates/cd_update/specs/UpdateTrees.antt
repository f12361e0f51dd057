-- Trusted: the tree of an update, and its halves.
use Rattle.cd_cell.specs.declared.digest.Hash32.{Ghosts}
use Rattle.cd_cell.specs.Tree.{Tree}
use Rattle.cd_cell.specs.Bags.{bag_tree}
use Rattle.cd_cell.specs.Updates.{half_of}
use Rattle.cd_update.specs.declared.update.Update.{Update}

module _ {D : Type 0} {g : Ghosts D} where
  abbrev pub tree_of : Update D g → Tree
  tree_of update = bag_tree update.bag.now update.root

  -- the part that it shows of the old tree, and the new tree, with pruned branches in the place of old cells
  abbrev pub old_half_of : Update D g → Tree
  old_half_of update = half_of (tree_of update) 0

  abbrev pub new_half_of : Update D g → Tree
  new_half_of update = half_of (tree_of update) 1

-- Inner: the visits of a walk over a half, and their numbers.
use Rattle.std.specs.Prelude.{◌≡◌, ℕ, ◌+◌, ◌*◌, ◌<◌, List, length, map, slice_index_or, All, Option, Some, None}
use Rattle.cd_base.specs.declared.hash.Hash256.{Hash256}
use Rattle.cd_cell.specs.BagView.{BagView}
use Rattle.cd_cell.specs.Tree.{Tree}
use Rattle.cd_cell.specs.Updates.{half_of}
use Rattle.cd_cell.specs.Bags.{bag_tree, IsBag}
use Rattle.cd_update.specs.EachOnce.{each_once}
use Rattle.cd_cell.specs.Places.{Place}
use Rattle.cd_update.specs.Nodes.{same_node, nodes_from, IsShown}
use Rattle.cd_update.specs.declared.visit.Node.{Node}
use Rattle.cd_update.specs.declared.visit.Visit.{Visit}

-- where the number of an entry's visit at a depth stands
abbrev pub spot : Node → ℕ
spot n = 4 * n.entry + n.depth

abbrev pub nodes_of : List Visit → List Node
nodes_of visits = map (λ v. v.node) visits

abbrev pub no_visit : Visit
no_visit = record { node = record { entry = 0; depth = 0 }; parent = 0; place = 0 }

abbrev pub visit_at : List Visit → ℕ → Visit
visit_at visits k = slice_index_or visits k no_visit

-- each visit has its number in its spot, and no number stands elsewhere
pub record IsNumbered (numbers : List (Option ℕ)) (visits : List Visit) : Type 0 where
  pub low : (k : ℕ) → k < length visits → (visit_at visits k).node.depth < 4
  pub there : (k : ℕ) → k < length visits → slice_index_or numbers (spot (visit_at visits k).node) None ≡ Some k
  pub back : (s k : ℕ) → slice_index_or numbers s None ≡ Some k → (k < length visits) × (spot (visit_at visits k).node ≡ s)

-- the place of an entry's cell at a depth
abbrev pub place_of : BagView → Node → Place
place_of bag n = record { tree = bag_tree bag n.entry; depth = n.depth }

abbrev pub visited : BagView → List Visit → List Place
visited bag visits = map (place_of bag) (nodes_of visits)

-- all entries that are reached from one, each once at each of its Merkle depths
pub record IsWalked (H : List ℕ → Hash256) (bag : BagView) (start : Visit) (visits : List Visit) (numbers : List (Option ℕ)) : Type 0 where
  pub is_bag : IsBag H bag.cells bag.refs bag.roots
  pub first : IsShown H bag start
  pub shown : All (IsShown H bag) visits
  pub nodes : nodes_of visits ≡ each_once same_node (nodes_from bag start.node)
  pub numbered : IsNumbered numbers visits
  pub wide : length numbers ≡ 4 * length bag.cells

-- a visit is the root of an update's half in a place
pub record IsHalf (bag : BagView) (start : Visit) (u : Tree) (place : ℕ) : Type 0 where
  pub depth : start.node.depth ≡ 0
  pub cell : bag_tree bag start.node.entry ≡ half_of u place

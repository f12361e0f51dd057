-- The children from the one in place `left` on are pending, the last one first.
use Rattle.std.proofs.Common.{◌≡◌, ◌≤◌, ◌++◌, length, drop, map, reverse, All}
use Rattle.cd_update.specs.Nodes.{node, IsShown}
use Rattle.cd_update.specs.Visits.{nodes_of}
use Rattle.cd_update.proofs.walk.push_children.Given as goal

abbrev pub invariant-loop-left : goal.invariant-loop-left
invariant-loop-left g l = record {
  low : l.left ≤ length l.children;
  nodes : nodes_of l.pending.items ≡ nodes_of l.initial.pending.items ++ reverse (map (node l.depth) (drop l.left l.children));
  shown : All (IsShown g.H.Hash32.digest_of l.bag) l.initial.pending.items → All (IsShown g.H.Hash32.digest_of l.bag) l.pending.items;
}

abbrev pub decreases-loop-left : goal.decreases-loop-left
decreases-loop-left g l = l.left

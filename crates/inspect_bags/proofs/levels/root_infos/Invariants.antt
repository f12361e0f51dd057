use Rattle.std.proofs.Common.{◌≡◌, map, take}
use Rattle.cd_cell.specs.Bags.{bag_tree}
use Rattle.cd_cell.specs.Tree.{info_of}
use Rattle.inspect_bags.proofs.levels.root_infos.Given as goal

abbrev pub invariant-loop-root : goal.invariant-loop-root
invariant-loop-root g l = l.infos.items ≡ map (λ r. info_of g.H.Hash32.digest_of (bag_tree l.bag r)) (take l.root-index l.bag.roots)

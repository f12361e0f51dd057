use Rattle.std.proofs.Common.{map, sym, ap, ◌∙◌, arith, length}
use Rattle.std.proofs.lemmas.List.{take_all}
use Rattle.std.proofs.lemmas.Simd.{map-map}
use Rattle.cd_cell.specs.Bags.{bag_tree}
use Rattle.cd_cell.specs.Tree.{info_of}
use Rattle.inspect_bags.proofs.levels.root_infos.Goals as goal

pub returns : goal.returns
returns g c =
    let H = g.H.Hash32.digest_of in
    let bag = c.args.bag.now in
    let whole = take_all c.loop-root.root-index bag.roots (omega (arith, c.loop-root-test.false, ap length c.roots-root-items.ensures.value)) in
    c.loop-root.invariant ∙ ap (map (λ r. info_of H (bag_tree bag r))) whole ∙ sym (map-map (info_of H) (bag_tree bag) bag.roots)

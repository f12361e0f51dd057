-- Mask, depths and hashes are those of the recursion over the whole cell.
use Rattle.std.proofs.Common.{ap, ◌∙◌}
use Rattle.cd_cell.specs.declared.info.ChildInfo.{ChildInfo}
use Rattle.cd_cell.specs.Infos.{info_hash, info_depth}
use Rattle.cd_cell.specs.Bags.{bag_tree}
use Rattle.cd_cell.proofs.LevelRecursions.{mask_of-is, depth_at-is, hash_at-is}
use Rattle.cd_cell.proofs.bag.Bag.info.Goals as goal

pub returns-clause-mask : goal.returns-clause-mask
returns-clause-mask g c =
    let tree = bag_tree c.args.self.now c.args.number in
    ap (λ (k : ChildInfo). k.mask) (c.face_info.ensures.tree tree c.face.ensures.cell) ∙ mask_of-is g.H.Hash32.digest_of tree

pub returns-clause-depths : goal.returns-clause-depths
returns-clause-depths g c l low =
    let tree = bag_tree c.args.self.now c.args.number in
    ap (λ k. info_depth k l) (c.face_info.ensures.tree tree c.face.ensures.cell) ∙ depth_at-is g.H.Hash32.digest_of tree l low

pub returns-clause-hashes : goal.returns-clause-hashes
returns-clause-hashes g c l low =
    let tree = bag_tree c.args.self.now c.args.number in
    ap (λ k. info_hash k l) (c.face_info.ensures.tree tree c.face.ensures.cell) ∙ hash_at-is g.H.Hash32.digest_of tree l low

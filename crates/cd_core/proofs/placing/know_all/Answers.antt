use Rattle.std.proofs.Common.{◌≤◌, length, All, subst, take_all, arith}
use Rattle.std.proofs.lemmas.List.Elements.{recursion_from_All}
use Rattle.cd_block.specs.Block.{IsBlockId}
use Rattle.cd_core.proofs.placing.know_all.Goals as goal

pub returns : goal.returns
returns c =
    let ids = c.args.ids.now in
    let past : length ids ≤ c.loop-id.id-index = omega arith in
    recursion_from_All IsBlockId ids (subst (All IsBlockId) (take_all c.loop-id.id-index ids past) c.loop-id.invariant)

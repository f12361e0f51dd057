use Rattle.std.proofs.Common.{◌≤◌, List, length, take_all, ◌∙◌, subst, arith}
use Rattle.cd_block.specs.declared.description.Descr.{Descr}
use Rattle.cd_core.specs.Passing.{ArePassed}
use Rattle.cd_core.proofs.Passed.{passed-count}
use Rattle.cd_core.proofs.expiring.list_passed.Goals as goal

pub returns-clause-counted : goal.returns-clause-counted
returns-clause-counted c =
    let w = c.args.world.now in
    let m = c.args.master.now in
    let passed = c.loop-block.passed in
    let past : length c.as_slice-blocks.result.now ≤ c.loop-block.block-index = omega arith in
    passed-count w m w.blocks passed.roots.items passed.gone.items passed.leaving.items
    (subst (λ (bs : List Descr). ArePassed w m passed.roots.items passed.gone.items passed.leaving.items bs) (take_all c.loop-block.block-index c.as_slice-blocks.result.now past ∙ c.as_slice-blocks.ensures) c.loop-block.invariant)

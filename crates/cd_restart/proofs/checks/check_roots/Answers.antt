use Rattle.std.proofs.Common.{List, ◌++◌, subst}
use Rattle.std.proofs.lemmas.List.{take_all}
use Rattle.cd_block.specs.declared.description.Descr.{Descr}
use Rattle.cd_restart.specs.Rows.{AreRowsOf, root_references}
use Rattle.cd_restart.proofs.checks.check_roots.Goals as goal

pub returns-in-None-clause-counted : goal.returns-in-None-clause-counted
returns-in-None-clause-counted c = λ H cells hashes of.
    let so = c.loop-block.invariant.told H cells hashes of in
    subst (λ (blocks : List Descr). AreRowsOf H cells (hashes ++ root_references blocks) c.loop-block.rows) (take_all c.loop-block.block-index c.args.blocks.now c.loop-block-test.false) so.1

use Rattle.std.proofs.Common.{take}
use Rattle.cd_core.specs.Passing.{ArePassed}
use Rattle.cd_core.proofs.expiring.list_passed.Given as goal

abbrev pub invariant-loop-block : goal.invariant-loop-block
invariant-loop-block l = ArePassed l.world l.master l.passed.roots.items l.passed.gone.items l.passed.leaving.items (take l.block-index l.blocks)

use Rattle.cd_prepare.specs.NewCells.{AreKeys}
use Rattle.cd_prepare.proofs.update.keys_of.Given as goal

abbrev pub invariant-loop-number : goal.invariant-loop-number
invariant-loop-number l = AreKeys l.infos l.keys.items l.number

use Rattle.std.proofs.Common.{map}
use Rattle.cd_gen.specs.declared.cell.Cell.{Cell}
use Rattle.cd_gen.specs.Keys.{AreKeys}
use Rattle.cd_gen.proofs.export.keys_of.Given as goal

abbrev pub invariant-loop-number : goal.invariant-loop-number
invariant-loop-number l = AreKeys (map (λ (c : Cell). c.info) l.cells) l.keys.items l.number

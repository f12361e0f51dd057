use Rattle.std.proofs.Common.{◌∙◌, arith}
use Rattle.cd_cell.proofs.BitLemmas.{get_or-text, get_or-data_of}
use Rattle.cd_cell.proofs.bits.Bits.byte.Goals as goal

pub returns-clause-value : goal.returns-clause-value
returns-clause-value c =
    rw (← c.self.view_is)
    (get_or-text c.self.inside.len c.args.at c.self.inside.bytes c.self.invariant (omega arith) ∙ get_or-data_of c.args.at _ (omega (arith, c.self.invariant.counted)))

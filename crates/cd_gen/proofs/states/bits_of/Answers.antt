use Rattle.std.proofs.Common.{ap, ◌∙◌, arith}
use Rattle.cd_cell.specs.BitText.{data_of}
use Rattle.cd_cell.proofs.BitLemmas.{data_of-whole}
use Rattle.cd_gen.proofs.states.bits_of.Goals as goal

pub returns-clause-data : goal.returns-clause-data
returns-clause-data c =
    ap data_of c.in-Some.ensures.value ∙ data_of-whole c.args.bytes.now (λ i. omega (arith, c.type_inv.bytes i))

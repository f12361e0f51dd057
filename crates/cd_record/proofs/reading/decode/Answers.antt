use Rattle.std.proofs.Common.{arith, ◌∙◌}
use Rattle.cd_record.specs.RecordReading.{record_in}
use Rattle.cd_record.proofs.RecordLaws.{is_found, given-is, text_again}
use Rattle.cd_record.proofs.reading.decode.Goals as goal

pub returns-clause-found : goal.returns-clause-found
returns-clause-found c =
    is_found c.args.bytes.now c.record_at.result (λ i. omega (arith, c.type_inv.bytes i)) (given-is c.record_at.result (record_in c.args.bytes.now) c.record_at.ensures)

pub returns-clause-only : goal.returns-clause-only
returns-clause-only c = λ known fit is.
    given-is c.record_at.result (record_in c.args.bytes.now) c.record_at.ensures ∙ text_again known fit c.args.bytes.now is

pub returns-clause-exact : goal.returns-clause-exact
returns-clause-exact c = given-is c.record_at.result (record_in c.args.bytes.now) c.record_at.ensures

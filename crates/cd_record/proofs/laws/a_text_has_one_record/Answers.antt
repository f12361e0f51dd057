use Rattle.cd_record.proofs.RecordLaws.{record_again, record_again-v1, text-injective}
use Rattle.cd_record.proofs.laws.a_text_has_one_record.Goals as goal

pub returns-clause-back : goal.returns-clause-back
returns-clause-back c = record_again

pub returns-clause-back_v1 : goal.returns-clause-back_v1
returns-clause-back_v1 c = record_again-v1

pub returns-clause-one : goal.returns-clause-one
returns-clause-one c = text-injective

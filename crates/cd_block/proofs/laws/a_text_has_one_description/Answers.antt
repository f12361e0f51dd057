use Rattle.cd_block.proofs.Descriptions.{descr_again, descr_text_injective}
use Rattle.cd_block.proofs.laws.a_text_has_one_description.Goals as goal

pub returns-clause-back : goal.returns-clause-back
returns-clause-back c = descr_again

pub returns-clause-one : goal.returns-clause-one
returns-clause-one c = descr_text_injective

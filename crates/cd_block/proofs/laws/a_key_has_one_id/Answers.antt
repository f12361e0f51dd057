use Rattle.cd_block.proofs.Keys.{length-key_of, id_of-key_of, key_of_injective}
use Rattle.cd_block.proofs.laws.a_key_has_one_id.Goals as goal

pub returns-clause-len : goal.returns-clause-len
returns-clause-len c = length-key_of

pub returns-clause-back : goal.returns-clause-back
returns-clause-back c = id_of-key_of

pub returns-clause-one : goal.returns-clause-one
returns-clause-one c = key_of_injective

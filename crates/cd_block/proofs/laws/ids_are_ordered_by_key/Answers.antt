use Rattle.cd_block.proofs.Order.{id_cmp_is}
use Rattle.cd_block.proofs.laws.ids_are_ordered_by_key.Goals as goal

pub returns-clause-keys : goal.returns-clause-keys
returns-clause-keys c = id_cmp_is

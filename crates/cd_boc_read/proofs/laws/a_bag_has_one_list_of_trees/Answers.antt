use Rattle.cd_boc_read.proofs.BagRead.{one_spelt}
use Rattle.cd_boc_read.proofs.laws.a_bag_has_one_list_of_trees.Goals as goal

pub returns : goal.returns
returns c = one_spelt

use Rattle.cd_boc_read.proofs.ExportLaws.{spells-bag}
use Rattle.cd_boc_read.proofs.laws.an_export_is_a_bag_of_its_tree.Goals as goal

pub returns : goal.returns
returns c = spells-bag

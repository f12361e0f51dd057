use Rattle.cd_boc_read.proofs.BagRead.{bag_fault-spelt, spelt_where_no_fault}
use Rattle.cd_boc_read.proofs.laws.bags_have_no_fault.Goals as goal

pub returns-clause-none : goal.returns-clause-none
returns-clause-none c = bag_fault-spelt

pub returns-clause-some : goal.returns-clause-some
returns-clause-some c = spelt_where_no_fault

use Rattle.cd_boc_read.proofs.RowLaws.{bag_fault-holds}
use Rattle.cd_boc_read.proofs.laws.a_fault_holds.Goals as goal

pub returns : goal.returns
returns c = λ H bytes fault fit is. bag_fault-holds H bytes fault fit is

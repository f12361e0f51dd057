-- Trusted: faults of pairing and grafting as faults of preparing.
use Rattle.cd_update.specs.declared.pair_fault.PairFault.{PairFault}
use Rattle.cd_update.specs.declared.pair_fault.PairFault.TheVariants as pair
use Rattle.cd_update.specs.declared.graft_fault.GraftFault.{GraftFault}
use Rattle.cd_update.specs.declared.graft_fault.GraftFault.TheVariants as graft
use Rattle.cd_prepare.specs.declared.prepare_fault.PrepareFault.{PrepareFault}
use Rattle.cd_prepare.specs.declared.prepare_fault.PrepareFault.TheVariants.{OldHash, OldDepth, OldHalf, Foreign, Memory}

abbrev pub of_pair : PairFault → PrepareFault
of_pair (pair.OldHash stated real) = OldHash stated real
of_pair (pair.OldDepth stated real) = OldDepth stated real
of_pair (pair.OldHalf hash stored shown) = OldHalf hash stored shown
of_pair pair.Memory = Memory

abbrev pub of_graft : GraftFault → PrepareFault
of_graft (graft.Foreign hash) = Foreign hash
of_graft graft.Memory = Memory

-- What an opening's fault says is said by its status.
use Rattle.std.proofs.Common.{ℕ, List}
use Rattle.cd_base.specs.declared.hash.Hash256.{Hash256}
use Rattle.cd_keeper.specs.declared.keeper.Keeper.{Ghosts as KeeperGhosts}
use Rattle.cd_restart.specs.declared.open_fault.OpenFault.{OpenFault}
use Rattle.cd_restart.specs.declared.open_fault.OpenFault.TheVariants as opening
use Rattle.cd_restart.specs.OpenEnds.{IsUnopened}
use Rattle.cd_command.specs.Opening.{status_by, IsUnopenedBy}

pub unopened-by : (H : List ℕ → Hash256) {K : Type 0} (k : KeeperGhosts K) (old now : K) (fault : OpenFault) → IsUnopened H k old now fault → IsUnopenedBy H k old now (status_by fault)
unopened-by H k old now (opening.Damaged fault) un = un
unopened-by H k old now opening.Keeper un = un
unopened-by H k old now opening.Memory un = un

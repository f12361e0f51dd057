use Rattle.std.proofs.Common.{sym, subst}
use Rattle.cd_upkeep.specs.CheckCall.{IsUnchecked}
use Rattle.cd_upkeep.proofs.CheckLaws.{unchecked-by}
use Rattle.cd_upkeep.proofs.checking.read_store.Goals as goal

pub returns-in-Ok-clause-read : goal.returns-in-Ok-clause-read
returns-in-Ok-clause-read g c =
    record { is = c.in-Ok.ensures.opened; keeps = c.in-Ok.ensures.keeps; steady = c.in-Ok.ensures.cause.steady }

pub returns-in-Err-clause-refused : goal.returns-in-Err-clause-refused
returns-in-Err-clause-refused g c =
    subst (IsUnchecked g.H.Hash32.digest_of g.K.Keeper c.args.keeper.now c.scan.new.keeper) (sym c.status_by.ensures)
    (unchecked-by g.H.Hash32.digest_of g.K.Keeper c.args.keeper.now c.scan.new.keeper c.in-Err.fault c.in-Err.ensures.answers c.in-Err.ensures.keeps c.in-Err.ensures.cause.caused)

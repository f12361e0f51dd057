-- The batch's transaction makes one step or none.
use Rattle.std.proofs.Common.{◌≡◌, Ok, Err, sym, subst, rules}
use Rattle.std.proofs.lemmas.Result.{err_from_is_err_and}
use Rattle.sqlite.specs.Held.{state}
use Rattle.cd_keeper_sql.specs.OneStep.{IsOneStep}
use Rattle.cd_keeper_sql.proofs.Steps.{no_step, committed, not_committed, rolled_back}
use Rattle.cd_keeper_sql.proofs.database.ConnectionDatabase.write.Goals as goal

pub returns-then-not-is_autocommit : goal.returns-then-not-is_autocommit
returns-then-not-is_autocommit g c = no_step g.S.Store c.args.self.now _

pub returns-in_err-fill : goal.returns-in_err-fill
returns-in_err-fill g c =
    let old = state g.S.Store c.args.self.now in
    let error = err_from_is_err_and c.from_residual.result c.from_residual.ensures.1 in
    let dropped = c.drop-transaction.ensures in
    let end = c.drop-transaction.new.self.0 in
    let same : end ≡ c.self-1.given.0 = search rules in
    let step = rolled_back g.S.Store c.args.self.now c.transaction-transaction.result.conn.now c.fill.new.transaction.conn.now end
    c.transaction-transaction.ensures.begun c.fill.ensures.inside error.0 dropped.survives dropped.undone in
    subst (λ r. IsOneStep old (state g.S.Store c.self-1.given.0) r) (sym error.1) (subst (λ h. IsOneStep old (state g.S.Store h) (Err error.0)) same step)

pub returns-in-Ok : goal.returns-in-Ok
returns-in-Ok g c =
    let old = state g.S.Store c.args.self.now in
    let end = c.commit.new.self.0 in
    let same : end ≡ c.self-2-1.given.0 = search rules in
    let step = committed g.S.Store c.args.self.now c.transaction-transaction.result.conn.now c.fill.new.transaction.conn.now end
    c.transaction-transaction.ensures.begun c.fill.ensures.inside tt c.commit.ensures.survives (λ clean. (c.in-Ok.ensures.ok clean).1.committed_is) in
    subst (λ h. IsOneStep old (state g.S.Store h) (Ok tt)) same step

pub returns-in-Err : goal.returns-in-Err
returns-in-Err g c =
    let old = state g.S.Store c.args.self.now in
    let end = c.commit.new.self.0 in
    let same : end ≡ c.self-2-1.given.0 = search rules in
    let step = not_committed g.S.Store c.args.self.now c.transaction-transaction.result.conn.now c.fill.new.transaction.conn.now end
    c.transaction-transaction.ensures.begun c.fill.ensures.inside c.fault_of.result c.in-Err.error c.commit.ensures.survives c.in-Err.ensures.err in
    subst (λ h. IsOneStep old (state g.S.Store h) (Err c.fault_of.result)) same step

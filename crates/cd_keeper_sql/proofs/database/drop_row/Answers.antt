-- A statement that is refused inside a transaction commits nothing.
use Rattle.cd_keeper_sql.proofs.Inside.{inside_run}
use Rattle.cd_keeper_sql.proofs.database.drop_row.Goals as goal

pub returns-in-Err-clause-inside : goal.returns-in-Err-clause-inside
returns-in-Err-clause-inside g c =
    let ran = c.execute_prepared.ensures in
    inside_run g.S.Store _ _ _ _ c.execute_prepared.result _ ran.ended ran.runs ran.survives

use Rattle.cd_keeper.proofs.ChangeLaws.{changed-puts_first}
use Rattle.cd_keeper.proofs.tables.Tables.apply.Goals as goal

pub returns-clause-ok : goal.returns-clause-ok
returns-clause-ok c =
    rw (← c.self.view_is, c.drop_all.ensures, c.drop_all-2.ensures, c.in_ok-replaced.ensures.put, c.in_default.ensures.put, c.put_cells-puts.ensures.value, c.put_descs.ensures, c.drop_cells.ensures, c.drop_descs.ensures)
    (changed-puts_first c.args.batch.now c.self.inside.cells c.self.inside.descs c.put_cells-puts.ensures.once)

use Rattle.std.proofs.Common.{refl}
use Rattle.cd_keeper.proofs.TableLaws.{get-table_of, table_of-insert}
use Rattle.cd_keeper.proofs.table.Table.put.Goals as goal

pub returns-clause-old : goal.returns-clause-old
returns-clause-old g c =
    rw (← c.self.view_is, get-table_of g.K.Ord.cmp g.K.Key.bytes g.met.K.Key.ordered, c.in_ok-insert.ensures.old) refl

pub returns-clause-ok : goal.returns-clause-ok
returns-clause-ok g c =
    rw (← c.self.view_is, c.in_ok-insert.ensures.entries) (table_of-insert g.K.Ord.cmp g.K.Key.bytes g.met.K.Key.ordered _ _ _)

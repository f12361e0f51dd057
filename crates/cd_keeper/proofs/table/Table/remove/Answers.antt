use Rattle.cd_keeper.proofs.TableLaws.{table_of-remove}
use Rattle.cd_keeper.proofs.table.Table.remove.Goals as goal

pub returns : goal.returns
returns g c =
    rw (← c.self.view_is, c.remove.ensures.entries) (table_of-remove g.K.Ord.cmp g.K.Key.bytes g.met.K.Key.ordered _ _ c.len.ensures.ordered)

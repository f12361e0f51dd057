use Rattle.std.proofs.Common.{Some, refl, ap, ◌∙◌}
use Rattle.cd_keeper.proofs.TableLaws.{get-table_of}
use Rattle.cd_keeper.proofs.table.Table.get.Goals as goal

pub returns-in_ok-from_slice-in-Some : goal.returns-in_ok-from_slice-in-Some
returns-in_ok-from_slice-in-Some g c =
    rw (← c.self.view_is, get-table_of g.K.Ord.cmp g.K.Key.bytes g.met.K.Key.ordered, ← c.in-Some.ensures.value)
    (ap Some (c.in_ok-from_slice-in-Some.ensures.items ∙ c.as_slice.ensures.value))

pub returns-in-None : goal.returns-in-None
returns-in-None g c =
    rw (← c.self.view_is, get-table_of g.K.Ord.cmp g.K.Key.bytes g.met.K.Key.ordered, ← c.in-None.ensures.value) refl

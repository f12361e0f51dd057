use Rattle.std.proofs.Common.{Some, refl, ap, ◌∙◌}
use Rattle.std.specs.Option.{option_map}
use Rattle.cd_keeper.proofs.TableLaws.{next_entry-table_of, next-above}
use Rattle.cd_keeper.proofs.table.Table.next.Goals as goal

pub returns-in_ok-from_slice-in-Some-clause-value : goal.returns-in_ok-from_slice-in-Some-clause-value
returns-in_ok-from_slice-in-Some-clause-value g c =
    rw (← c.self.view_is, next_entry-table_of g.K.Ord.cmp g.K.Key.bytes g.met.K.Key.ordered c.args.after c.self.inside.tree.entries c.range.ensures.ordered)
    (rw (← c.above.ensures, ← c.range.ensures.between tt, c.in-Some.ensures.steps)
    (ap (λ value. Some (g.K.Key.bytes c.in-Some.key.now, value)) (c.in_ok-from_slice-in-Some.ensures.items ∙ c.as_slice.ensures.value)))

pub returns-in_ok-from_slice-in-Some-clause-above : goal.returns-in_ok-from_slice-in-Some-clause-above
returns-in_ok-from_slice-in-Some-clause-above g c =
    next-above g.K.Key.bytes (Some (c.in-Some.key.now, c.in_ok-from_slice-in-Some.field-0)) c.args.self.now (option_map g.K.Key.bytes c.args.after) (returns-in_ok-from_slice-in-Some-clause-value g c)

pub returns-in-None-clause-value : goal.returns-in-None-clause-value
returns-in-None-clause-value g c =
    rw (← c.self.view_is, next_entry-table_of g.K.Ord.cmp g.K.Key.bytes g.met.K.Key.ordered c.args.after c.self.inside.tree.entries c.range.ensures.ordered)
    (rw (← c.above.ensures, ← c.range.ensures.between tt, c.in-None.ensures.steps.0) refl)

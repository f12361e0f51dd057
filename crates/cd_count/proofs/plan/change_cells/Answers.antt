use Rattle.cd_count.proofs.BatchKeys.{once-sorted}
use Rattle.cd_count.proofs.plan.change_cells.Goals as goal

pub returns-in_err-change_cell-clause-once : goal.returns-in_err-change_cell-clause-once
returns-in_err-change_cell-clause-once c = once-sorted c.args.rows.now.entries c.iter-hash-items.ensures.ordered

pub returns-clause-once : goal.returns-clause-once
returns-clause-once c = once-sorted c.args.rows.now.entries c.iter-hash-items.ensures.ordered

use Rattle.std.proofs.Common.{List, [], sym, subst}
use Rattle.cd_base.specs.declared.hash.Hash256.{Hash256}
use Rattle.cd_count.specs.declared.rows.Row.{Row}
use Rattle.cd_count.specs.Changes.{AreAdded}
use Rattle.cd_count.specs.PlanRows.{rows_of}
use Rattle.cd_count.proofs.Nothing.{nothing-added}
use Rattle.cd_count.proofs.plan.Plan.empty.Goals as goal

pub returns-clause-added : goal.returns-clause-added
returns-clause-added c = λ H world clear. subst (λ (es : List (Hash256 × Row)). AreAdded H world world [] [] (rows_of es)) (sym c.new.ensures.empty) (nothing-added H world clear)

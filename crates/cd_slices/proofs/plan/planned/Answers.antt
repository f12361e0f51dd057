use Rattle.std.proofs.Common.{length, ap, sym, ◌∙◌}
use Rattle.cd_slices.proofs.PlanLaws.{layout-count}
use Rattle.cd_slices.proofs.plan.planned.Goals as goal

pub invariant_of-result : goal.invariant_of-result
invariant_of-result c = record {
  counted = c.in_ok-planned.ensures.counted ∙ sym (layout-count c.args.cells.now c.in_ok-layout.layout c.in_ok-layout.ensures);
  headed = ap length c.in_ok-head.ensures.head ∙ c.in_ok-layout.ensures.header;
  numbered = c.in_ok-planned.ensures.fits;
}

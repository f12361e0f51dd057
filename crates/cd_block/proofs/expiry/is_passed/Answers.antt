use Rattle.std.proofs.Common.{sym, ◌∙◌}
use Rattle.cd_block.proofs.Passing.{from_start, meets_younger, passes_by, meets_older, at_end}
use Rattle.cd_block.proofs.expiry.is_passed.Goals as goal
use Rattle.cd_block.proofs.expiry.is_passed.Goals.{then-meets+else-id-top, else-meets}

pub loop-top-init : goal.loop-top-init
loop-top-init c = from_start c.args.id.now c.args.tops.now

pub returns-then-id-top : goal.returns-then-id-top
returns-then-id-top c =
    sym (meets_older c.loop-top.meets_one c.args.id.now c.args.tops.now c.loop-top.top-index _ c.loop-top-test.true c.if-meets.ensures c.if-id-top.true)
    ∙ c.loop-top.invariant

pub loop-top-preserved : goal.loop-top-preserved
loop-top-preserved c =
    elim c.if-meets.branch [
      | then-meets+else-id-top w ↦
          rw w.meets_one-is
          (sym (meets_younger c.loop-top.meets_one c.args.id.now c.args.tops.now c.loop-top.top-index _ c.loop-top-test.true w.if-meets.ensures w.if-id-top.false)
          ∙ c.loop-top.invariant)
      | else-meets w ↦
          rw w.meets_one-is
          (sym (passes_by c.loop-top.meets_one c.args.id.now c.args.tops.now c.loop-top.top-index _ c.loop-top-test.true w.if-meets.ensures)
          ∙ c.loop-top.invariant)
    ]

pub returns : goal.returns
returns c =
    sym (at_end c.loop-top.meets_one c.args.id.now c.args.tops.now c.loop-top.top-index c.loop-top-test.false) ∙ c.loop-top.invariant

use Rattle.std.proofs.Common.{[]}
use Rattle.cd_cell.specs.ClashSearch.{NumberedHash}
use Rattle.cd_cell.proofs.ClashLaws.{first_at, agree_more}
use Rattle.cd_cell.proofs.clashes.first_clash.Goals as goal

abbrev absent : NumberedHash
absent = (record { 0 = [] }, 0)

pub returns-then-clash-clause-some : goal.returns-then-clash-clause-some
returns-then-clash-clause-some c =
    let told = c.clash.ensures.differ c.if-clash.true in
    first_at c.args.faces.now c.args.keys.now c.loop-place.place absent c.loop-place.auto.place c.loop-place-test.true c.loop-place.invariant told.0 told.1

pub loop-place-preserved : goal.loop-place-preserved
loop-place-preserved c =
    agree_more c.args.faces.now c.args.keys.now c.loop-place.place absent c.loop-place.auto.place c.loop-place-test.true c.loop-place.invariant (c.clash.ensures.agree c.if-clash.false)

use Rattle.std.proofs.Common.{◌<◌, length, None, arith}
use Rattle.std.proofs.lemmas.Option.{slice_get_within}
use Rattle.cd_run.proofs.merged_task.fill.Goals as goal

pub returns-clause-fills : goal.returns-clause-fills
returns-clause-fills c k found none other =
    let here : k < length c.args.faces.now = slice_get_within c.args.faces.now k None none in
    let there : k < length c.args.others.now = slice_get_within c.args.others.now k found other in
    let done : k < c.loop-place.place = omega (arith, c.loop-place-test.false, c.min-place-end.ensures) in
    c.loop-place.invariant.filled k found done none other

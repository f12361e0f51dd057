-- The index has one hash more, under its place.
use Rattle.std.proofs.Common.{◌<◌, length, arith}
use Rattle.inspect_updates.proofs.OldStateLaws.{IsIndexed-more}
use Rattle.inspect_updates.proofs.old_state.places_of.Goals as goal

pub loop-place-preserved : goal.loop-place-preserved
loop-place-preserved c =
    let in' : c.loop-place.place < length c.args.cells.now = omega arith in
    IsIndexed-more c.loop-place.places c.push.new.self c.args.cells.now c.loop-place.place c.index-cells-place.result c.index-cells-place.is in'
    c.in_ok-push.ensures.pushed c.loop-place.invariant

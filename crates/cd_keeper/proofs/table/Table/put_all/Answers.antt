use Rattle.std.proofs.Common.{◌≡◌, ◌<◌, length, take, arith}
use Rattle.std.proofs.lemmas.List.{take_more, length-take}
use Rattle.cd_keeper.proofs.UndoLaws.{put-more}
use Rattle.cd_keeper.proofs.table.Table.put_all.Goals as goal

pub loop-at-preserved : goal.loop-at-preserved
loop-at-preserved g c =
    let puts = c.args.puts.now in
    let e = c.index-puts-at.result in
    let within : c.loop-at.at < length puts = omega arith in
    let count : length (take c.loop-at.at puts) ≡ c.loop-at.at = omega (arith, length-take c.loop-at.at puts) in
    let more = rw count at (put-more g.K.Key.bytes _ _ _ _ e c.loop-at.invariant) in
    rw (take_more puts c.loop-at.at e within, ← c.index-puts-at.is, c.in_default.ensures.put, c.in_default.ensures.keeps, c.as_slice.ensures.value) more

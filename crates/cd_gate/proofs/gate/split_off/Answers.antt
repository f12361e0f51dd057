use Rattle.std.proofs.Common.{rules, arith}
use Rattle.cd_gate.proofs.Keeps.{splits_at}
use Rattle.cd_gate.proofs.gate.split_off.Goals as goal

pub split_seat-requires : goal.split_seat-requires
split_seat-requires g c =
    let t = g.T.Journaled in
    let key = c.args.table.now.key in
    let v = c.args.seat.now.me.0 in
    let is = c.requires.at in
    let above = c.requires.inside.0 in
    let below = c.requires.inside.1 in
    (search rules, search rules, splits_at t.number t.entries t.start (t.start key.first.value) key.workers c.args.seat.now.id v g.C.SplitPoint.at c.requires.idle (omega arith) (omega arith))

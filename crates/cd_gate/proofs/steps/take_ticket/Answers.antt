use Rattle.std.proofs.Common.{rules}
use Rattle.cd_gate.proofs.Keeps.{takes_ticket}
use Rattle.cd_gate.proofs.steps.take_ticket.Goals as goal

pub fetch_add-requires : goal.fetch_add-requires
fetch_add-requires g c =
    let t = g.T.Journaled in
    let key = c.args.table.now.key in
    (search rules, search rules, takes_ticket t.number t.entries t.start (t.start key.first.value) key.workers c.args.table.now.table_id.slots c.args.seat.now.id c.args.seat.now.me (search rules) (search rules))

use Rattle.std.proofs.Common.{rules}
use Rattle.cd_gate.proofs.Keeps.{serves_next}
use Rattle.cd_gate.proofs.steps.serve_next.Goals as goal

pub fetch_add-next-requires : goal.fetch_add-next-requires
fetch_add-next-requires g c =
    let t = g.T.Journaled in
    let key = c.args.table.now.key in
    let h = c.requires.done in
    (search rules, search rules, serves_next t.number t.entries t.start (t.start key.first.value) key.workers c.args.table.now.table_id.slots c.args.seat.now.id c.args.seat.now.me h.0 h.1 h.2.0 (search rules) h.2.1 h.2.2 h.2.3)

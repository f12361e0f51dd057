use Rattle.std.proofs.Common.{rules, ◌≡◌, ap, ◌∙◌}
use Rattle.cd_gate.specs.declared.seat_state.Role.TheVariants.{Waiting}
use Rattle.cd_gate.proofs.Keeps.{looks_served}
use Rattle.cd_gate.proofs.steps.await_turn.Goals as goal

pub load-served-requires : goal.load-served-requires
load-served-requires g c =
    let t = g.T.Journaled in
    let key = c.args.table.now.key in
    let k = c.requires.waits.0 in
    let me = c.loop.invariant.1 in
    let is : c.loop.seat.me.0.role ≡ Waiting k = ap (λ m. m.0.role) me ∙ c.requires.waits.2 in
    (search rules, search rules, looks_served t.number t.entries t.start (t.start key.first.value) key.workers c.args.table.now.table_id.slots c.loop.seat.id c.loop.seat.me k is (search rules))

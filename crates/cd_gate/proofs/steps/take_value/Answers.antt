use Rattle.std.proofs.Common.{rules, ◌∷◌, Some, ap, sym, ◌∙◌}
use Rattle.atomic_table.specs.Table.{rest}
use Rattle.cd_gate.proofs.Turning.{got_is}
use Rattle.cd_gate.proofs.steps.take_value.Goals as goal

pub exchange-requires : goal.exchange-requires
exchange-requires g c =
    let t = g.T.Journaled in
    let ticket = c.take_ticket-ticket.ensures.ticket in
    let got = c.await_turn.ensures.got in
    let x = got.1 in
    let is = got_is t.number t.entries t.start c.args.seat.now.me c.take_ticket-ticket.new.seat.me c.await_turn.new.seat.me ticket.0 got.0 x c.requires.rests.nothing ticket.2 got.2 in
    (search rules, (Some x, ap (λ m. m.1) is ∙ ap (λ m. (0, Some x) ∷ rest m.1) (sym is)))

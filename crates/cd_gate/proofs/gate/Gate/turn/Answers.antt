use Rattle.std.proofs.Common.{◌≡◌, ℕ, List, Option, Some, ap, sym, ◌∙◌, subst, unwrap_or}
use Rattle.cd_gate.specs.Gates.{SeatView, MayPrecede}
use Rattle.cd_gate.specs.Histories.{GrewByTurn}
use Rattle.cd_gate.proofs.gate.Gate.turn.Goals as goal

-- The history before the turn is the value's list when it was taken.
pub returns-clause-turn : goal.returns-clause-turn
returns-clause-turn g c =
    let t = g.T.Journaled in
    let x = c.take_value-value.result in
    let come = c.take_value-value.ensures.come in
    let added = sym (ap (λ m. m.0.seen) c.give_back.ensures.seen) in
    let begun : Some (t.start x) ≡ Some c.args.self.now.start = come.2 ∙ ap (λ s. s.start) c.seat.view_is ∙ c.requires.seat.start in
    let start = ap (λ (o : Option g.row.T-Start.Denot). unwrap_or o (t.start x)) begun in
    let by = c.requires.by in (
      t.entries x,
      subst (λ (s : SeatView g.row.T-Entry.Denot g.row.T-Start.Denot). MayPrecede t.number s (t.entries x)) c.seat.view_is (record { others = come.0; numbers = come.1 }),
      subst (λ (z : ℕ × List g.row.T-Entry.Denot). GrewByTurn t.number z.0 (t.entries x) z.1) (λ i. (by i, added i)) c.act-answer.ensures.adds,
      subst (λ (z : g.row.T-Start.Denot × List g.row.T-Entry.Denot). g.D.Deed.did c.args.deed z.0 (t.entries x) c.act-answer.result z.1) (λ i. (start i, added i)) c.act-answer.ensures.did,
    )

use Rattle.std.proofs.Common.{[], Some, Ok, refl, sym, subst, ◌∙◌}
use Rattle.cd_event.specs.Replies.{who_of}
use Rattle.cd_run.specs.Stages.{Stage, LetGoBy}
use Rattle.cd_run.proofs.PinLaws.{let_go_as}
use Rattle.cd_run.proofs.pinned.let_go.Goals as goal

pub returns-in-Ok : goal.returns-in-Ok
returns-in-Ok g c =
    let T = g.T.Turns in
    let who = who_of c.args.at (T.worker c.args.turns.now) in
    subst (λ o. Stage T.worker T.faults T.made T.goes T.named [] (λ es. LetGoBy who c.args.pin o es (Ok c.in-Some.end)) c.args.turns.now c.unpin.new.self) (sym c.in-Some.is ∙ c.end_of_work.ensures)
    (let_go_as T.worker T.faults T.made T.goes T.named c.args.at c.args.pin c.args.turns.now c.unpin.new.self c.in-Some.end (Ok c.in-Ok.field-0) (Some c.in-Ok.field-0) c.in-Some.end
    c.in-Ok.ensures.turned c.in-Ok.ensures.named refl refl)

use Rattle.std.proofs.Common.{◌++◌, Option, ap, ◌∙◌, subst}
use Rattle.cd_event.specs.declared.event.Event.TheVariants.{Pin}
use Rattle.cd_event.specs.declared.entry.Reply.{Reply}
use Rattle.cd_event.specs.Replies.{entries_of, pin_reply}
use Rattle.cd_core.specs.Cores.{CoreView}
use Rattle.cd_core.specs.Effects.{Adds}
use Rattle.cd_core.proofs.Journaling.{keeps-step, adds-step}
use Rattle.cd_core.proofs.body.Core.pin.Goals as goal

pub invariant_of-self-2 : goal.invariant_of-self-2
invariant_of-self-2 g c =
    let k = g.K.Keeper in
    let es = c.self.inside.journal in
    let start = c.self.inside.start in
    let room = c.in-Ok.ensures.ok in
    let core = c.self.invariant.1 in
    let noted = c.note.ensures es room.0 room.1 ∙ ap (λ (r : Option Reply). es ++ entries_of {H = g.row.H.Denot} c.args.who (Pin c.args.id) r) c.pin_reply-reply.ensures in
    keeps-step k.held g.H.Hash32.digest_of k.trail k.batches k.faults start es c.note.new.journal c.self.inside.world c.begin_pin-answer.new.world c.self.inside.keeper c.self.inside.keeper c.args.who (Pin c.args.id) (pin_reply c.begin_pin-answer.result)
    c.self.invariant (c.begin_pin-answer.ensures.did start.limit c.self.inside.keeper core.limited.1) noted

pub returns-clause-adds : goal.returns-clause-adds
returns-clause-adds g c =
    let k = g.K.Keeper in
    let es = c.self.inside.journal in
    let start = c.self.inside.start in
    let room = c.in-Ok.ensures.ok in
    let core = c.self.invariant.1 in
    let noted = c.note.ensures es room.0 room.1 ∙ ap (λ (r : Option Reply). es ++ entries_of {H = g.row.H.Denot} c.args.who (Pin c.args.id) r) c.pin_reply-reply.ensures in
    subst (λ (v : CoreView g.row.K.Denot g.row.H.Denot). Adds k.held g.H.Hash32.digest_of v.start v.journal c.args.who (Pin c.args.id) (pin_reply c.begin_pin-answer.result) c.note.new.journal) c.self.view_is
    (adds-step k.held g.H.Hash32.digest_of k.trail k.batches k.faults start es c.note.new.journal c.self.inside.world c.begin_pin-answer.new.world c.self.inside.keeper c.self.inside.keeper c.args.who (Pin c.args.id) (pin_reply c.begin_pin-answer.result)
    c.self.invariant.0 c.self.invariant.1 (c.begin_pin-answer.ensures.did start.limit c.self.inside.keeper core.limited.1) noted)

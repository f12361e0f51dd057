use Rattle.std.proofs.Common.{◌+◌, ◌*◌, ◌≤◌, List, ◌++◌, length, Option, ap, ◌∙◌, subst}
use Rattle.std.specs.Prelude.{IfSome}
use Rattle.cd_cell.specs.Tree.{Tree}
use Rattle.cd_world.specs.Standing.{kept_at}
use Rattle.cd_world.specs.Told.{told_replay}
use Rattle.cd_event.specs.declared.event.Event.TheVariants.{Expire}
use Rattle.cd_event.specs.declared.entry.Reply.{Reply}
use Rattle.cd_event.specs.Replies.{entries_of, expire_reply}
use Rattle.cd_core.specs.Cores.{CoreView, told_start}
use Rattle.cd_core.specs.Effects.{Adds, AreExpired, dropped_by}
use Rattle.cd_core.proofs.Journaling.{keeps-step, adds-step, told-now}
use Rattle.cd_core.proofs.body.Core.expire.Goals as goal

pub invariant_of-self-2 : goal.invariant_of-self-2
invariant_of-self-2 g c =
    let k = g.K.Keeper in
    let es = c.self.inside.journal in
    let start = c.self.inside.start in
    let room = c.in-Ok.ensures.ok in
    let core = c.self.invariant.1 in
    let noted = c.note.ensures es room.0 room.1 ∙ ap (λ (r : Option Reply). es ++ entries_of {H = g.row.H.Denot} c.args.who (Expire c.args.id) r) c.expire_reply-reply.ensures in
    keeps-step k.held g.H.Hash32.digest_of k.trail k.batches k.faults start es c.note.new.journal c.self.inside.world c.expire_by-answer.new.world c.self.inside.keeper c.expire_by-answer.new.keeper c.args.who (Expire c.args.id) (expire_reply c.expire_by-answer.result)
    c.self.invariant (c.expire_by-answer.ensures.did start.limit core.limited.1) noted

pub returns-clause-adds : goal.returns-clause-adds
returns-clause-adds g c =
    let k = g.K.Keeper in
    let es = c.self.inside.journal in
    let start = c.self.inside.start in
    let room = c.in-Ok.ensures.ok in
    let core = c.self.invariant.1 in
    let noted = c.note.ensures es room.0 room.1 ∙ ap (λ (r : Option Reply). es ++ entries_of {H = g.row.H.Denot} c.args.who (Expire c.args.id) r) c.expire_reply-reply.ensures in
    subst (λ (v : CoreView g.row.K.Denot g.row.H.Denot). Adds k.held g.H.Hash32.digest_of v.start v.journal c.args.who (Expire c.args.id) (expire_reply c.expire_by-answer.result) c.note.new.journal) c.self.view_is
    (adds-step k.held g.H.Hash32.digest_of k.trail k.batches k.faults start es c.note.new.journal c.self.inside.world c.expire_by-answer.new.world c.self.inside.keeper c.expire_by-answer.new.keeper c.args.who (Expire c.args.id) (expire_reply c.expire_by-answer.result)
    c.self.invariant.0 c.self.invariant.1 (c.expire_by-answer.ensures.did start.limit core.limited.1) noted)

pub returns-clause-reads : goal.returns-clause-reads
returns-clause-reads g c =
    let k = g.K.Keeper in
    let H = g.H.Hash32.digest_of in
    let es = c.self.inside.journal in
    let start = c.self.inside.start in
    subst (λ (v : CoreView g.row.K.Denot g.row.H.Denot). IfSome (told_start k.held v.start) (λ t. (dead : List Tree) → let now = told_replay H t v.journal in AreExpired H now c.args.id dead
    → k.reads c.expire_by-answer.new.keeper ≤ k.reads v.keeper + (4 * length dead + length (dropped_by H now (kept_at now.world c.args.id))))) c.self.view_is
    (told-now k.held H k.trail k.batches k.faults (λ u. (dead : List Tree) → AreExpired H u c.args.id dead → k.reads c.expire_by-answer.new.keeper ≤ k.reads c.self.inside.keeper + (4 * length dead + length (dropped_by H u (kept_at u.world c.args.id))))
    c.self.inside.world start es c.self.inside.keeper c.self.invariant (λ u same h dead are. c.expire_by-answer.ensures.reads u dead same h are))

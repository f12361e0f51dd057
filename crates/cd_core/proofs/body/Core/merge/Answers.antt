use Rattle.std.proofs.Common.{◌≡◌, ◌+◌, ◌*◌, ◌≤◌, false, List, ◌++◌, Option, length, sym, ap, ◌∙◌, subst}
use Rattle.std.specs.Prelude.{IfSome}
use Rattle.cd_cell.specs.Tree.{Tree}
use Rattle.cd_event.specs.declared.event.Event.TheVariants.{Merge}
use Rattle.cd_event.specs.declared.entry.Reply.{Reply}
use Rattle.cd_event.specs.Replies.{entries_of, merge_reply}
use Rattle.cd_world.specs.declared.world.World.{World}
use Rattle.cd_world.specs.Machine.{merge_rows}
use Rattle.cd_world.specs.Told.{told_replay}
use Rattle.cd_core.specs.Cores.{CoreView, told_start, world_of}
use Rattle.cd_core.specs.Effects.{Adds, MayStoreOver, AreEnded, ended_by, merge_collects}
use Rattle.cd_core.proofs.Asked.{asked-fits}
use Rattle.cd_core.proofs.Journaling.{keeps-step, adds-step, told-now}
use Rattle.cd_core.proofs.body.Core.merge.Goals as goal

pub invariant_of-self-2 : goal.invariant_of-self-2
invariant_of-self-2 g c =
    let k = g.K.Keeper in
    let es = c.self.inside.journal in
    let start = c.self.inside.start in
    let room = c.in-Ok.ensures.ok in
    let event = Merge c.args.pin c.args.other c.args.id c.args.tops c.args.prepared in
    let noted = c.note.ensures es room.0 room.1 ∙ ap (λ (r : Option Reply). es ++ entries_of {H = g.row.H.Denot} c.args.who event r) c.merge_reply-reply.ensures in
    keeps-step k.held g.H.Hash32.digest_of k.trail k.batches k.faults start es c.note.new.journal c.self.inside.world c.merge_over-answer.new.world c.self.inside.keeper c.merge_over-answer.new.keeper c.args.who event (merge_reply c.merge_over-answer.result)
    c.self.invariant c.merge_over-answer.ensures.did noted

pub merge_over-answer-requires-clause-fits : goal.merge_over-answer-requires-clause-fits
merge_over-answer-requires-clause-fits g c =
    let k = g.K.Keeper in
    let start = c.self.inside.start in
    let es = c.self.inside.journal in
    asked-fits k.held g.H.Hash32.digest_of k.trail k.batches k.faults c.self.inside.world start es c.self.inside.keeper c.args.who.worker c.args.pin c.args.other c.args.prepared c.self.invariant
    (subst (λ (v : CoreView g.row.K.Denot g.row.H.Denot). MayStoreOver k.held g.H.Hash32.digest_of v.start v.journal c.args.who.worker c.args.pin c.args.other c.args.prepared) (sym c.self.view_is) c.requires.fits)

pub returns-clause-adds : goal.returns-clause-adds
returns-clause-adds g c =
    let k = g.K.Keeper in
    let es = c.self.inside.journal in
    let start = c.self.inside.start in
    let room = c.in-Ok.ensures.ok in
    let event = Merge c.args.pin c.args.other c.args.id c.args.tops c.args.prepared in
    let noted = c.note.ensures es room.0 room.1 ∙ ap (λ (r : Option Reply). es ++ entries_of {H = g.row.H.Denot} c.args.who event r) c.merge_reply-reply.ensures in
    subst (λ (v : CoreView g.row.K.Denot g.row.H.Denot). Adds k.held g.H.Hash32.digest_of v.start v.journal c.args.who event (merge_reply c.merge_over-answer.result) c.note.new.journal) c.self.view_is
    (adds-step k.held g.H.Hash32.digest_of k.trail k.batches k.faults start es c.note.new.journal c.self.inside.world c.merge_over-answer.new.world c.self.inside.keeper c.merge_over-answer.new.keeper c.args.who event (merge_reply c.merge_over-answer.result)
    c.self.invariant.0 c.self.invariant.1 c.merge_over-answer.ensures.did noted)

pub returns-clause-quiet : goal.returns-clause-quiet
returns-clause-quiet g c =
    let k = g.K.Keeper in
    subst (λ (v : CoreView g.row.K.Denot g.row.H.Denot). merge_collects (world_of v) c.args.who.worker c.args.pin c.args.other ≡ false → k.reads c.merge_over-answer.new.keeper ≤ k.reads v.keeper + (5 * length c.args.prepared.cells + 1)) c.self.view_is
    (subst (λ (w : World). merge_collects w c.args.who.worker c.args.pin c.args.other ≡ false → k.reads c.merge_over-answer.new.keeper ≤ k.reads c.self.inside.keeper + (5 * length c.args.prepared.cells + 1)) c.self.invariant.0 c.merge_over-answer.ensures.quiet)

pub returns-clause-reads : goal.returns-clause-reads
returns-clause-reads g c =
    let k = g.K.Keeper in
    let H = g.H.Hash32.digest_of in
    let es = c.self.inside.journal in
    let start = c.self.inside.start in
    let p = c.args.prepared in
    subst (λ (v : CoreView g.row.K.Denot g.row.H.Denot). IfSome (told_start k.held v.start) (λ t. (dead : List Tree)
    → let now = told_replay H t v.journal in let rows = merge_rows now.world c.args.who.worker c.args.pin c.args.other in AreEnded H now rows c.args.id c.args.tops p dead
    → k.reads c.merge_over-answer.new.keeper ≤ k.reads v.keeper + (5 * length p.cells + 1 + (4 * length dead + length (ended_by now rows))))) c.self.view_is
    (told-now k.held H k.trail k.batches k.faults (λ u. (dead : List Tree) → let rows = merge_rows u.world c.args.who.worker c.args.pin c.args.other in AreEnded H u rows c.args.id c.args.tops p dead
    → k.reads c.merge_over-answer.new.keeper ≤ k.reads c.self.inside.keeper + (5 * length p.cells + 1 + (4 * length dead + length (ended_by u rows))))
    c.self.inside.world start es c.self.inside.keeper c.self.invariant (λ u same h dead are. c.merge_over-answer.ensures.reads u dead same h are))

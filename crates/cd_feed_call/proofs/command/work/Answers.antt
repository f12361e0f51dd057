use Rattle.std.proofs.Common.{List, inl, refl, sym, subst, subst₂, ◌∙◌}
use Rattle.std.proofs.Math.Dec.{eqb}
use Rattle.cd_event.specs.declared.entry.Entry.{Entry}
use Rattle.cd_core.specs.declared.start.CoreStart.{CoreStart}
use Rattle.cd_run.specs.ReportText.{ends_of, AreBeside}
use Rattle.cd_replay.specs.Ran.{pins_in}
use Rattle.cd_command.specs.Printing.{NoFault}
use Rattle.cd_feed_call.specs.Told.{FeedEnds}
use Rattle.cd_feed_call.specs.Telling.{IsTold}
use Rattle.cd_feed_call.proofs.BesideLaws.{all-beside}
use Rattle.cd_feed_call.proofs.FeedLaws.{begun-of, begun-caused, done-of, done-caused, ends-of}
use Rattle.cd_feed_call.proofs.command.work.Goals as goal

pub returns-in-Err-clause-ends : goal.returns-in-Err-clause-ends
returns-in-Err-clause-ends g c = (
  inl (begun-of g.H.Hash32.digest_of g.K.Keeper.held g.K.Keeper.faults (λ b. (goal.SliceClient-dyn g (b.vtable, b.value)).got b.value) (λ b. (goal.SliceClient-dyn g (b.vtable, b.value)).steady b.value) c.args.feed.now c.args.clients.now.items c.do_feed.new.clients.items c.args.core.now c.do_feed.new.core c.requires.none c.in-Err.ensures.stopped c.in-Err.ensures.clients_then, refl),
  begun-caused g.H.Hash32.digest_of g.K.Keeper.held g.K.Keeper.faults (λ b. (goal.SliceClient-dyn g (b.vtable, b.value)).got b.value) (λ b. (goal.SliceClient-dyn g (b.vtable, b.value)).steady b.value) c.args.feed.now c.args.clients.now.items c.do_feed.new.clients.items c.args.core.now c.do_feed.new.core c.requires.none c.in-Err.ensures.stopped,
)

pub tell-requires-clause-beside : goal.tell-requires-clause-beside
tell-requires-clause-beside g c = subst (AreBeside c.args.feed.now.phases) (sym c.deref.ensures.value)
    (all-beside g.H.Hash32.digest_of (pins_in g.H.Hash32.digest_of g.K.Keeper.held c.do_feed.new.core) 0 c.args.feed.now.phases c.in-Ok.ensures.done.entries c.in-Ok.ends.items c.in-Ok.ensures.done.are)

pub returns-clause-ends : goal.returns-clause-ends
returns-clause-ends g c =
    subst₂ (λ (s : CoreStart g.row.K.Denot) (j : List (Entry g.row.H.Denot)). FeedEnds g.H.Hash32.digest_of g.K.Keeper.held (λ b. (goal.SliceClient-dyn g (b.vtable, b.value)).got b.value) (λ b. (goal.SliceClient-dyn g (b.vtable, b.value)).steady b.value) s j c.args.feed.now c.args.clients.now.items c.do_feed.new.clients.items g.O.Sink c.args.out.now c.tell.new.out NoFault
    (g.K.Keeper.faults c.args.core.now.keeper) (g.K.Keeper.faults c.tell.new.core.keeper) c.tell.result) (sym c.tell.ensures.start) (sym c.tell.ensures.journal)
    (ends-of g.H.Hash32.digest_of g.K.Keeper.held g.K.Keeper.faults (λ b. (goal.SliceClient-dyn g (b.vtable, b.value)).got b.value) (λ b. (goal.SliceClient-dyn g (b.vtable, b.value)).steady b.value) c.args.feed.now c.args.clients.now.items c.do_feed.new.clients.items g.O.Sink c.args.out.now c.tell.new.out (ends_of c.in-Ok.ends.items) c.do_feed.new.core c.tell.new.core
    (done-of g.H.Hash32.digest_of g.K.Keeper.held g.K.Keeper.faults (λ b. (goal.SliceClient-dyn g (b.vtable, b.value)).got b.value) (λ b. (goal.SliceClient-dyn g (b.vtable, b.value)).steady b.value) c.args.feed.now c.args.clients.now.items c.do_feed.new.clients.items c.args.core.now c.do_feed.new.core c.requires.none (ends_of c.in-Ok.ends.items) c.in-Ok.ensures.done c.in-Ok.ensures.clients)
    NoFault (g.K.Keeper.faults c.args.core.now.keeper)
    (done-caused g.H.Hash32.digest_of g.K.Keeper.held g.K.Keeper.faults (λ b. (goal.SliceClient-dyn g (b.vtable, b.value)).got b.value) (λ b. (goal.SliceClient-dyn g (b.vtable, b.value)).steady b.value) c.args.feed.now c.args.clients.now.items c.do_feed.new.clients.items c.args.core.now c.do_feed.new.core c.requires.none (ends_of c.in-Ok.ends.items) c.in-Ok.ensures.done)
    (eqb c.len.result c.len-handed.result)
    (λ i. eqb ((c.len.ensures ∙ c.do_feed.new.clients.ok.0) i) ((c.len-handed.ensures ∙ c.args.clients.now.ok.0) i))
    c.tell.result
    (subst (λ es. IsTold g.H.Hash32.digest_of g.K.Keeper.held g.K.Keeper.faults g.O.Sink c.args.feed.now (ends_of es) (eqb c.len.result c.len-handed.result) c.do_feed.new.core c.tell.new.core c.args.out.now c.tell.new.out c.tell.result) c.deref.ensures.value c.tell.ensures.told))

use Rattle.std.proofs.Common.{List, [], inl, refl, sym, subst, subst₂, ◌∙◌}
use Rattle.std.specs.Prelude.{All}
use Rattle.std.proofs.Math.Dec.{eqb}
use Rattle.cd_event.specs.declared.entry.Entry.{Entry}
use Rattle.cd_core.specs.declared.start.CoreStart.{CoreStart}
use Rattle.cd_run.specs.ReportText.{ends_of, AreBeside}
use Rattle.cd_replay.specs.Ran.{pins_in}
use Rattle.cd_lanes.specs.Lanes.{AreUnserved}
use Rattle.cd_lanes.specs.Left.{LeftByOne, PhaseServed}
use Rattle.cd_threads.specs.Ran.{FeedDone, FeedStopped}
use Rattle.cd_feed_call.specs.Told.{FeedEnds, NotFallen}
use Rattle.cd_feed_call.specs.Telling.{IsTold}
use Rattle.cd_feed_call.proofs.BesideLaws.{all-beside}
use Rattle.cd_feed_call.proofs.FeedLaws.{begun-by, done-by, counts-run, ends-of, ok-of, err-of}
use Rattle.cd_feed_call.proofs.running.work_on_threads.Goals as goal

pub returns-in-Err-clause-ends : goal.returns-in-Err-clause-ends
returns-in-Err-clause-ends g c = (
  inl (begun-by g.H.Hash32.digest_of g.K.Keeper.held (λ b. (goal.SliceClient-dyn g (b.vtable, b.value)).got b.value) (λ b. (goal.SliceClient-dyn g (b.vtable, b.value)).steady b.value) c.args.feed.now c.args.clients.now.items c.run_feed-core.new.clients.items c.run_feed-core.result.0 (let ran = (err-of c.run_feed-core.result.1 c.in-Err.field-0 (FeedStopped g.H.Hash32.digest_of g.K.Keeper.held g.K.Keeper.faults c.args.feed.now.phases c.args.core c.run_feed-core.result.0) c.in-Err.is c.run_feed-core.ensures.stopped) in ran.are) (err-of c.run_feed-core.result.1 c.in-Err.field-0 (LeftByOne (All AreUnserved) (PhaseServed (λ b. (goal.SliceClient-dyn g (b.vtable, b.value)).got b.value) (λ b. (goal.SliceClient-dyn g (b.vtable, b.value)).steady b.value) g.H.Hash32.digest_of (pins_in g.H.Hash32.digest_of g.K.Keeper.held c.run_feed-core.result.0)) c.args.feed.now.phases [] c.args.clients.now.items c.run_feed-core.new.clients.items) c.in-Err.is c.run_feed-core.ensures.clients_then), refl),
  let s = c.args.core.start in counts-run c.run_feed-core.result.0.journal (g.K.Keeper.faults s.keeper.value) (g.K.Keeper.faults c.run_feed-core.result.0.keeper) (let ran = (err-of c.run_feed-core.result.1 c.in-Err.field-0 (FeedStopped g.H.Hash32.digest_of g.K.Keeper.held g.K.Keeper.faults c.args.feed.now.phases c.args.core c.run_feed-core.result.0) c.in-Err.is c.run_feed-core.ensures.stopped) in ran.counted),
)

pub tell-status-requires-clause-beside : goal.tell-status-requires-clause-beside
tell-status-requires-clause-beside g c = subst (AreBeside c.args.feed.now.phases) (sym c.deref.ensures.value)
    (all-beside g.H.Hash32.digest_of (pins_in g.H.Hash32.digest_of g.K.Keeper.held c.run_feed-core.result.0) 0 c.args.feed.now.phases c.run_feed-core.result.0.journal c.in-Ok.ends.items (let ran = (ok-of c.run_feed-core.result.1 c.in-Ok.ends (λ ends. FeedDone g.H.Hash32.digest_of g.K.Keeper.held g.K.Keeper.faults c.args.feed.now.phases (ends_of ends.items) c.args.core c.run_feed-core.result.0) c.in-Ok.is c.run_feed-core.ensures.done) in ran.are))

pub returns-clause-ends : goal.returns-clause-ends
returns-clause-ends g c =
    let was = c.args.core.start in
    subst₂ (λ (s : CoreStart g.row.K.Denot) (j : List (Entry g.row.H.Denot)). FeedEnds g.H.Hash32.digest_of g.K.Keeper.held (λ b. (goal.SliceClient-dyn g (b.vtable, b.value)).got b.value) (λ b. (goal.SliceClient-dyn g (b.vtable, b.value)).steady b.value) s j c.args.feed.now c.args.clients.now.items c.run_feed-core.new.clients.items g.O.Sink c.args.out.now c.tell-status.new.out NotFallen
    (g.K.Keeper.faults was.keeper.value) (g.K.Keeper.faults c.tell-status.new.core.keeper) c.tell-status.result) (sym c.tell-status.ensures.start) (sym c.tell-status.ensures.journal)
    (ends-of g.H.Hash32.digest_of g.K.Keeper.held g.K.Keeper.faults (λ b. (goal.SliceClient-dyn g (b.vtable, b.value)).got b.value) (λ b. (goal.SliceClient-dyn g (b.vtable, b.value)).steady b.value) c.args.feed.now c.args.clients.now.items c.run_feed-core.new.clients.items g.O.Sink c.args.out.now c.tell-status.new.out (ends_of c.in-Ok.ends.items) c.run_feed-core.result.0 c.tell-status.new.core
    (done-by g.H.Hash32.digest_of g.K.Keeper.held (λ b. (goal.SliceClient-dyn g (b.vtable, b.value)).got b.value) (λ b. (goal.SliceClient-dyn g (b.vtable, b.value)).steady b.value) c.args.feed.now c.args.clients.now.items c.run_feed-core.new.clients.items c.run_feed-core.result.0 (ends_of c.in-Ok.ends.items) (let ran = (ok-of c.run_feed-core.result.1 c.in-Ok.ends (λ ends. FeedDone g.H.Hash32.digest_of g.K.Keeper.held g.K.Keeper.faults c.args.feed.now.phases (ends_of ends.items) c.args.core c.run_feed-core.result.0) c.in-Ok.is c.run_feed-core.ensures.done) in ran.are) (ok-of c.run_feed-core.result.1 c.in-Ok.ends (λ ends. LeftByOne (All AreUnserved) (PhaseServed (λ b. (goal.SliceClient-dyn g (b.vtable, b.value)).got b.value) (λ b. (goal.SliceClient-dyn g (b.vtable, b.value)).steady b.value) g.H.Hash32.digest_of (pins_in g.H.Hash32.digest_of g.K.Keeper.held c.run_feed-core.result.0)) c.args.feed.now.phases (ends_of ends.items) c.args.clients.now.items c.run_feed-core.new.clients.items) c.in-Ok.is c.run_feed-core.ensures.clients))
    NotFallen (g.K.Keeper.faults was.keeper.value)
    (counts-run c.run_feed-core.result.0.journal (g.K.Keeper.faults was.keeper.value) (g.K.Keeper.faults c.run_feed-core.result.0.keeper) (let ran = (ok-of c.run_feed-core.result.1 c.in-Ok.ends (λ ends. FeedDone g.H.Hash32.digest_of g.K.Keeper.held g.K.Keeper.faults c.args.feed.now.phases (ends_of ends.items) c.args.core c.run_feed-core.result.0) c.in-Ok.is c.run_feed-core.ensures.done) in ran.counted))
    (eqb c.len.result c.len-handed.result)
    (λ i. eqb ((c.len.ensures ∙ c.run_feed-core.new.clients.ok.0) i) ((c.len-handed.ensures ∙ c.args.clients.now.ok.0) i))
    c.tell-status.result
    (subst (λ es. IsTold g.H.Hash32.digest_of g.K.Keeper.held g.K.Keeper.faults g.O.Sink c.args.feed.now (ends_of es) (eqb c.len.result c.len-handed.result) c.run_feed-core.result.0 c.tell-status.new.core c.args.out.now c.tell-status.new.out c.tell-status.result) c.deref.ensures.value c.tell-status.ensures.told))

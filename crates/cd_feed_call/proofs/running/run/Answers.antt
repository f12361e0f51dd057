use Rattle.std.proofs.Common.{List, inl, inr, refl, sym, subst, subst₂, ap, ◌∙◌}
use Rattle.cd_event.specs.declared.entry.Entry.{Entry}
use Rattle.cd_command.specs.Opening.{LeadOn}
use Rattle.cd_command.proofs.CoreRuns.{led-on, opening-at, tidy-at}
use Rattle.cd_feed_call.specs.Told.{FeedEnds, NotFallen}
use Rattle.cd_feed_call.proofs.CleanLaws.{free-of}
use Rattle.cd_feed_call.proofs.running.run.Goals as goal

pub returns-in-Err-open_store : goal.returns-in-Err-open_store
returns-in-Err-open_store g c = inl (
  c.in-Ok.feed,
  c.in-Ok.ensures.taken,
  inr (record {
    unopened = c.in-Err-open_store.ensures.refused;
    entries = c.in-Err-open_store.ensures.no_entry;
    sink = refl;
    same = refl;
  }),
)

pub returns : goal.returns
returns g c =
    let opened = c.in-Ok-open_store.ensures.opened in
    let journal = sym c.close-keeper.ensures.journal in
    let keeper = sym c.close-keeper.ensures.keeper in
    let on = subst₂ (λ (j : List (Entry g.row.H.Denot)) (x : g.row.K.Denot). LeadOn g.H.Hash32.digest_of g.K.Keeper c.work_on_threads-core.result.0.start.world.value j c.work_on_threads-core.result.0.start.keeper.value x) journal keeper
    (led-on g.H.Hash32.digest_of g.K.Keeper c.args.keeper c.in-Ok-open_store.core c.in-Ok-open_store.ensures.opened c.in-Ok-open_store.ensures.kept c.work_on_threads-core.result.0.start c.work_on_threads-core.ensures.start c.work_on_threads-core.result.0.journal c.work_on_threads-core.result.0.keeper c.close-keeper.ensures.kept) in
    let ends = subst₂ (λ (j : List (Entry g.row.H.Denot)) (x : g.row.K.Denot). FeedEnds g.H.Hash32.digest_of g.K.Keeper.held (λ b. (goal.SliceClient-dyn g (b.vtable, b.value)).got b.value) (λ b. (goal.SliceClient-dyn g (b.vtable, b.value)).steady b.value) c.work_on_threads-core.result.0.start j c.in-Ok.feed c.args.clients.now.items c.work_on_threads-core.new.clients.items g.O.Sink c.args.out.now c.work_on_threads-core.new.out NotFallen
    (g.K.Keeper.faults c.args.keeper) (g.K.Keeper.faults x) c.work_on_threads-core.result.1) journal keeper
    (subst (λ b. FeedEnds g.H.Hash32.digest_of g.K.Keeper.held (λ b. (goal.SliceClient-dyn g (b.vtable, b.value)).got b.value) (λ b. (goal.SliceClient-dyn g (b.vtable, b.value)).steady b.value) c.work_on_threads-core.result.0.start c.work_on_threads-core.result.0.journal c.in-Ok.feed c.args.clients.now.items c.work_on_threads-core.new.clients.items g.O.Sink c.args.out.now c.work_on_threads-core.new.out NotFallen
    b (g.K.Keeper.faults c.work_on_threads-core.result.0.keeper) c.work_on_threads-core.result.1) (ap g.K.Keeper.faults opened.begun ∙ opened.steady) c.work_on_threads-core.ensures.ends) in
    inl (
      c.in-Ok.feed,
      c.in-Ok.ensures.taken,
      inl (record {
        start = c.work_on_threads-core.result.0.start;
        opened = opening-at g.H.Hash32.digest_of g.K.Keeper c.args.keeper c.in-Ok-open_store.core c.in-Ok-open_store.ensures.opened c.in-Ok-open_store.ensures.kept c.work_on_threads-core.result.0.start c.work_on_threads-core.ensures.start;
        on = on;
        ends = ends;
        free = free-of g.H.Hash32.digest_of g.K.Keeper (λ b. (goal.SliceClient-dyn g (b.vtable, b.value)).got b.value) (λ b. (goal.SliceClient-dyn g (b.vtable, b.value)).steady b.value) c.work_on_threads-core.result.0.start c.close-keeper.result.1.items c.in-Ok.feed c.args.clients.now.items c.work_on_threads-core.new.clients.items g.O.Sink c.args.out.now c.work_on_threads-core.new.out NotFallen
            (g.K.Keeper.faults c.args.keeper) (g.K.Keeper.faults c.close-keeper.result.0) c.args.keeper c.close-keeper.result.0 c.work_on_threads-core.result.1 (opening-at g.H.Hash32.digest_of g.K.Keeper c.args.keeper c.in-Ok-open_store.core c.in-Ok-open_store.ensures.opened c.in-Ok-open_store.ensures.kept c.work_on_threads-core.result.0.start c.work_on_threads-core.ensures.start) on (tidy-at g.H.Hash32.digest_of g.K.Keeper c.args.keeper c.in-Ok-open_store.core c.in-Ok-open_store.ensures.opened c.in-Ok-open_store.ensures.kept c.work_on_threads-core.result.0.start c.work_on_threads-core.ensures.start) ends;
      }),
    )

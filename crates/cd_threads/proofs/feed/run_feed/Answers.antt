use Rattle.std.proofs.Common.{◌≤◌, List, sym, subst}
use Rattle.std.proofs.lemmas.Result.{IfOk-weaker, on_err_weaker}
use Rattle.cd_feed.specs.declared.feed.Phase.{Phase}
use Rattle.cd_run.specs.Covers.{CutEarly}
use Rattle.cd_run.specs.ReportText.{ends_of}
use Rattle.cd_lanes.specs.Left.{all_serves}
use Rattle.cd_lanes.specs.Phases.{PhasesRun}
use Rattle.cd_replay.proofs.FeedLaws.{serves_fit}
use Rattle.cd_threads.specs.Ran.{FeedDone}
use Rattle.cd_threads.specs.Whole.{PhasesDone, PhasesStopped}
use Rattle.cd_threads.proofs.FeedLaws.{fed, unfed}
use Rattle.cd_threads.proofs.feed.run_feed.Goals as goal

pub returns-in-Err-clause-stopped : goal.returns-in-Err-clause-stopped
returns-in-Err-clause-stopped g c = unfed g.H.Hash32.digest_of g.K.Keeper.held g.K.Keeper.trail g.K.Keeper.batches g.K.Keeper.faults c.args.core c.in-Err.core c.journal.ensures.kept c.args.feed.now.phases c.in-Err.ensures.kept c.requires.empty

pub do_phases-seat-requires-clause-one : goal.do_phases-seat-requires-clause-one
do_phases-seat-requires-clause-one g c κs within = subst (λ (ps : List Phase). all_serves ps ≤ 1) (sym c.as_slice.ensures) (serves_fit c.args.feed.now c.requires.fit)

pub returns-clause-done : goal.returns-clause-done
returns-clause-done g c = IfOk-weaker c.do_phases-seat.result.1 (λ ends. PhasesDone g.H.Hash32.digest_of g.K.Keeper.held c.in-Ok.made.0 c.as_slice.result.now (ends_of ends.items) c.do_phases-seat.result.0)
    (λ ends. FeedDone g.H.Hash32.digest_of g.K.Keeper.held g.K.Keeper.faults c.args.feed.now.phases (ends_of ends.items) c.args.core c.close-core.result)
    (λ ends did. fed g.H.Hash32.digest_of g.K.Keeper.held g.K.Keeper.trail g.K.Keeper.batches g.K.Keeper.faults c.args.core c.close-core.result c.journal-2.ensures.kept c.in-Ok.made.0 c.do_phases-seat.result.0 (λ pins es. PhasesRun g.H.Hash32.digest_of pins 0 c.args.feed.now.phases es (ends_of ends.items))
    c.in-Ok.ensures.start c.close-core.ensures.start c.close-core.ensures.journal
    (subst (λ ps. PhasesDone g.H.Hash32.digest_of g.K.Keeper.held c.in-Ok.made.0 ps (ends_of ends.items) c.do_phases-seat.result.0) c.as_slice.ensures did))
    c.do_phases-seat.ensures.done

pub returns-clause-stopped : goal.returns-clause-stopped
returns-clause-stopped g c = on_err_weaker c.do_phases-seat.result.1
    (λ (did : PhasesStopped g.H.Hash32.digest_of g.K.Keeper.held c.in-Ok.made.0 c.as_slice.result.now c.do_phases-seat.result.0). fed g.H.Hash32.digest_of g.K.Keeper.held g.K.Keeper.trail g.K.Keeper.batches g.K.Keeper.faults c.args.core c.close-core.result c.journal-2.ensures.kept c.in-Ok.made.0 c.do_phases-seat.result.0 (λ pins es. CutEarly g.H.Hash32.digest_of pins 0 c.args.feed.now.phases es)
    c.in-Ok.ensures.start c.close-core.ensures.start c.close-core.ensures.journal
    (subst (λ ps. PhasesStopped g.H.Hash32.digest_of g.K.Keeper.held c.in-Ok.made.0 ps c.do_phases-seat.result.0) c.as_slice.ensures did))
    c.do_phases-seat.ensures.stopped

use Rattle.std.proofs.lemmas.Result.{IfOk-weaker, on_err_weaker}
use Rattle.cd_run.specs.Covers.{WorkerBegun}
use Rattle.cd_lanes.specs.Lanes.{TasksRun}
use Rattle.cd_replay.proofs.OnCore.{grew_so}
use Rattle.cd_replay.proofs.worker.do_in_turns.Goals as goal

pub returns-clause-done : goal.returns-clause-done
returns-clause-done g c = IfOk-weaker c.do_tasks.result _ _ (λ ends did.
    grew_so g.H.Hash32.digest_of g.K.Keeper.held g.K.Keeper.faults
    (λ pins es. TasksRun g.H.Hash32.digest_of pins c.args.phase c.args.worker 0 c.args.tasks.now es ends.items)
    c.args.worker c.args.turns.now.worker c.do_tasks.new.turns.worker c.args.turns.now.core.now c.do_tasks.new.turns.core.now did.entries
    c.requires.worker did.same_worker did.went.2 did.added did.are did.caused) c.do_tasks.ensures.done

pub returns-clause-stopped : goal.returns-clause-stopped
returns-clause-stopped g c = on_err_weaker c.do_tasks.result (λ did.
    grew_so g.H.Hash32.digest_of g.K.Keeper.held g.K.Keeper.faults
    (λ pins es. WorkerBegun g.H.Hash32.digest_of pins c.args.phase c.args.worker 0 c.args.tasks.now es)
    c.args.worker c.args.turns.now.worker c.do_tasks.new.turns.worker c.args.turns.now.core.now c.do_tasks.new.turns.core.now did.entries
    c.requires.worker did.same_worker did.went.2 did.added did.are did.caused) c.do_tasks.ensures.stopped

use Rattle.std.proofs.Common.{Ok, Err, inl, refl}
use Rattle.cd_event.specs.declared.event.Event.TheVariants as event
use Rattle.cd_feed.specs.declared.feed.Task.TheVariants as task
use Rattle.cd_run.proofs.StageLaws.{whose, stage_none, stage_call}
use Rattle.cd_run.proofs.CallLaws.{did_by, zero_stopped, zero_called}
use Rattle.cd_run.proofs.zero_task.do_zero.Goals as goal

pub returns-in-Err : goal.returns-in-Err
returns-in-Err g c =
    rw c.end_of_stop.ensures
    (did_by g.T.Hash.Hash32.digest_of g.T.Turns.worker g.T.Turns.faults g.T.Turns.made g.T.Turns.goes g.T.Turns.named c.args.who (task.Zero c.args.id c.args.tops.now c.args.bag.now) _ _ _ _
    (stage_none g.T.Turns.worker g.T.Turns.faults g.T.Turns.made g.T.Turns.goes g.T.Turns.named g.met.T.Turns.stays _ c.args.turns.now
    (zero_stopped g.row.T-Hash.Denot g.T.Hash.Hash32.digest_of (g.T.Turns.named c.args.turns.now) c.args.who c.args.id c.args.tops.now c.args.bag.now c.in-Err.stop c.in-Err.ensures)))

pub returns-in-Err-copied : goal.returns-in-Err-copied
returns-in-Err-copied g c =
    did_by g.T.Hash.Hash32.digest_of g.T.Turns.worker g.T.Turns.faults g.T.Turns.made g.T.Turns.goes g.T.Turns.named c.args.who (task.Zero c.args.id c.args.tops.now c.args.bag.now) _ _ _ _
    (stage_none g.T.Turns.worker g.T.Turns.faults g.T.Turns.made g.T.Turns.goes g.T.Turns.named g.met.T.Turns.stays _ c.args.turns.now (inl refl))

pub returns-in-Ok-zero : goal.returns-in-Ok-zero
returns-in-Ok-zero g c =
    let turned = rw c.in-Ok-copied.ensures at c.in-Ok-zero.ensures.turned in
    did_by g.T.Hash.Hash32.digest_of g.T.Turns.worker g.T.Turns.faults g.T.Turns.made g.T.Turns.goes g.T.Turns.named c.args.who (task.Zero c.args.id c.args.tops.now c.args.bag.now) _ _ _ _
    (stage_call g.T.Turns.worker g.T.Turns.faults g.T.Turns.made g.T.Turns.goes g.T.Turns.named c.args.who _ c.args.turns.now c.zero.new.self (event.Zero c.args.id c.args.tops.now c.in-Ok.prepared) _ _
    (whose c.args.who _ c.requires.worker) turned c.in-Ok-zero.ensures.named
    (zero_called g.row.T-Hash.Denot g.T.Hash.Hash32.digest_of (g.T.Turns.named c.zero.new.self) c.args.who c.args.id c.args.tops.now c.args.bag.now c.in-Ok.prepared c.in-Ok.ensures
    (Ok c.in-Ok-zero.stored) c.in-Ok-zero.ensures.stored))

pub returns-in-Err-zero : goal.returns-in-Err-zero
returns-in-Err-zero g c =
    let turned = rw c.in-Ok-copied.ensures at c.in-Err-zero.ensures.turned in
    rw c.end_of_zero.ensures
    (did_by g.T.Hash.Hash32.digest_of g.T.Turns.worker g.T.Turns.faults g.T.Turns.made g.T.Turns.goes g.T.Turns.named c.args.who (task.Zero c.args.id c.args.tops.now c.args.bag.now) _ _ _ _
    (stage_call g.T.Turns.worker g.T.Turns.faults g.T.Turns.made g.T.Turns.goes g.T.Turns.named c.args.who _ c.args.turns.now c.zero.new.self (event.Zero c.args.id c.args.tops.now c.in-Ok.prepared) _ _
    (whose c.args.who _ c.requires.worker) turned c.in-Err-zero.ensures.named
    (zero_called g.row.T-Hash.Denot g.T.Hash.Hash32.digest_of (g.T.Turns.named c.zero.new.self) c.args.who c.args.id c.args.tops.now c.args.bag.now c.in-Ok.prepared c.in-Ok.ensures
    (Err c.in-Err-zero.fault) c.in-Err-zero.ensures.stored)))

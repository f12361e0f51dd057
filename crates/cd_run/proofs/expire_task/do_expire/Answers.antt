use Rattle.std.proofs.Common.{Ok, Err}
use Rattle.cd_event.specs.declared.event.Event.TheVariants as event
use Rattle.cd_feed.specs.declared.feed.Task.TheVariants as task
use Rattle.cd_run.proofs.StageLaws.{whose, stage_call}
use Rattle.cd_run.proofs.CallLaws.{did_by, expire_called}
use Rattle.cd_run.proofs.expire_task.do_expire.Goals as goal

pub returns-in-Ok : goal.returns-in-Ok
returns-in-Ok g c =
    did_by g.T.Hash.Hash32.digest_of g.T.Turns.worker g.T.Turns.faults g.T.Turns.made g.T.Turns.goes g.T.Turns.named c.args.who (task.Expire c.args.id) _ _ _ _
    (stage_call g.T.Turns.worker g.T.Turns.faults g.T.Turns.made g.T.Turns.goes g.T.Turns.named c.args.who _ c.args.turns.now c.expire.new.self (event.Expire c.args.id) _ _
    (whose c.args.who _ c.requires) c.in-Ok.ensures.turned c.in-Ok.ensures.named
    (expire_called g.row.T-Hash.Denot g.T.Hash.Hash32.digest_of (g.T.Turns.named c.expire.new.self) c.args.who c.args.id (Ok c.in-Ok.gone)))

pub returns-in-Err : goal.returns-in-Err
returns-in-Err g c =
    rw c.end_of_expire.ensures
    (did_by g.T.Hash.Hash32.digest_of g.T.Turns.worker g.T.Turns.faults g.T.Turns.made g.T.Turns.goes g.T.Turns.named c.args.who (task.Expire c.args.id) _ _ _ _
    (stage_call g.T.Turns.worker g.T.Turns.faults g.T.Turns.made g.T.Turns.goes g.T.Turns.named c.args.who _ c.args.turns.now c.expire.new.self (event.Expire c.args.id) _ _
    (whose c.args.who _ c.requires) c.in-Err.ensures.turned c.in-Err.ensures.named
    (expire_called g.row.T-Hash.Denot g.T.Hash.Hash32.digest_of (g.T.Turns.named c.expire.new.self) c.args.who c.args.id (Err c.in-Err.fault))))

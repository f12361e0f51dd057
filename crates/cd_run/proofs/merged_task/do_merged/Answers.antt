use Rattle.cd_run.proofs.MergedLaws.{merged_none, merged_not_read}
use Rattle.cd_run.proofs.merged_task.do_merged.Goals as goal

pub returns-in-Err : goal.returns-in-Err
returns-in-Err g c =
    rw c.end_of_stop.ensures
    (merged_none g.T.Hash.Hash32.digest_of g.T.Turns.worker g.T.Turns.faults g.T.Turns.made g.T.Turns.goes g.T.Turns.named c.args.who c.args.id c.args.left c.args.right c.args.tops.now c.args.bag.now g.met.T.Turns.stays c.args.turns.now _
    (merged_not_read g.row.T-Hash.Denot g.T.Hash.Hash32.digest_of c.args.who c.args.id c.args.left c.args.right c.args.tops.now c.args.bag.now (g.T.Turns.named c.args.turns.now) c.in-Err.fault _ c.stop_of_bag.ensures c.in-Err.ensures.exact))

pub returns : goal.returns
returns g c = c.store_merged.ensures c.args.bag.now c.in-Ok.ensures.found

use Rattle.std.proofs.Common.{Err, refl}
use Rattle.cd_cell.specs.Bags.{bag_trees}
use Rattle.cd_boc_read.specs.BagFaults.{bag_fault}
use Rattle.cd_run.specs.Prepared.{no_bag}
use Rattle.cd_run.specs.Stages.{StateBy}
use Rattle.cd_run.proofs.PreparingLaws.{by_bag, state_is, no_state_is}
use Rattle.cd_run.proofs.zero_task.prepare_state.Goals as goal

pub returns-in-Err : goal.returns-in-Err
returns-in-Err g c =
    by_bag (λ s. StateBy g.H.Hash32.digest_of c.args.bytes.now (Err s)) c.in-Err.fault (bag_fault g.H.Hash32.digest_of c.args.bytes.now) _ c.stop_of_bag.ensures c.in-Err.ensures.exact tt
    (λ is. no_bag c.in-Err.fault is refl)

pub returns-in-Ok-prepare_zero : goal.returns-in-Ok-prepare_zero
returns-in-Ok-prepare_zero g c =
    state_is g.H.Hash32.digest_of c.args.bytes.now (bag_trees c.in-Ok.bag) c.in-Ok-prepare_zero.prepared c.in-Ok.ensures.found c.in-Ok-prepare_zero.ensures.exact
    c.in-Ok-prepare_zero.ensures.old c.in-Ok-prepare_zero.ensures.whole

pub returns : goal.returns
returns g c =
    rw c.stop_of_prepare.ensures
    (no_state_is g.H.Hash32.digest_of c.args.bytes.now (bag_trees c.in-Ok.bag) c.in-Err-prepare_zero.fault c.in-Ok.ensures.found c.in-Err-prepare_zero.ensures.exact)

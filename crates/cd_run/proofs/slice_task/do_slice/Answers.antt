use Rattle.cd_feed.specs.declared.feed.Task.TheVariants as task
use Rattle.cd_run.specs.Finds.{SliceFinds}
use Rattle.cd_run.specs.Runs.{IsAnyNumber}
use Rattle.cd_run.proofs.PinLaws.{did_unpinned, did_pinned}
use Rattle.cd_run.proofs.slice_task.do_slice.Goals as goal

pub returns-in-Err : goal.returns-in-Err
returns-in-Err g c =
    let T = g.T.Turns in
    rw c.end_of_stop.ensures
    (did_unpinned T.worker T.faults T.made T.goes T.named g.met.T.Turns.further g.T.Hash.Hash32.digest_of c.args.who (task.Slice c.args.id c.args.max) c.args.id IsAnyNumber
    (SliceFinds g.T.Hash.Hash32.digest_of c.args.max) (λ pins es end run. run) c.args.turns.now c.take_pin.new.turns c.in-Err.stop c.requires.worker c.in-Err.ensures.pinned)

pub returns : goal.returns
returns g c =
    let T = g.T.Turns in
    let looks = c.cut_pin-end.ensures.looks in
    did_pinned T.worker T.faults T.made T.goes T.named g.met.T.Turns.further g.T.Hash.Hash32.digest_of c.args.who (task.Slice c.args.id c.args.max) c.args.id IsAnyNumber
    (SliceFinds g.T.Hash.Hash32.digest_of c.args.max) (λ pins es end run. run) c.args.turns.now c.take_pin.new.turns c.cut_pin-end.new.turns c.let_go.new.turns c.in-Ok.pinned looks.0
    c.cut_pin-end.result c.let_go.result c.requires.worker c.in-Ok.ensures.pinned (λ n is. tt) looks.1 c.cut_pin-end.ensures.finds c.let_go.ensures

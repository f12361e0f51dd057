use Rattle.std.proofs.Common.{◌+◌, length, arith}
use Rattle.cd_feed.specs.declared.feed.Task.TheVariants as task
use Rattle.cd_run.specs.Finds.{ReadFinds}
use Rattle.cd_run.specs.Runs.{IsFewFor}
use Rattle.cd_run.proofs.PinLaws.{did_unpinned, did_pinned, few_asked}
use Rattle.cd_run.proofs.read_task.do_read.Goals as goal

pub returns-in-Err : goal.returns-in-Err
returns-in-Err g c =
    let T = g.T.Turns in
    let path = c.args.path.now in
    rw c.end_of_stop.ensures
    (did_unpinned T.worker T.faults T.made T.goes T.named g.met.T.Turns.further g.T.Hash.Hash32.digest_of c.args.who (task.Read c.args.id path) c.args.id (IsFewFor path) (ReadFinds g.T.Hash.Hash32.digest_of path)
    (λ pins es end run. run) c.args.turns.now c.take_pin.new.turns c.in-Err.stop c.requires.worker c.in-Err.ensures.pinned)

pub returns : goal.returns
returns g c =
    let T = g.T.Turns in
    let path = c.args.path.now in
    let looks = c.read_pin-end.ensures.looks in
    did_pinned T.worker T.faults T.made T.goes T.named g.met.T.Turns.further g.T.Hash.Hash32.digest_of c.args.who (task.Read c.args.id path) c.args.id (IsFewFor path) (ReadFinds g.T.Hash.Hash32.digest_of path)
    (λ pins es end run. run) c.args.turns.now c.take_pin.new.turns c.read_pin-end.new.turns c.let_go.new.turns c.in-Ok.pinned looks.0 c.read_pin-end.result c.let_go.result
    c.requires.worker c.in-Ok.ensures.pinned (λ n is. few_asked (length path + 1) looks.0 n (omega (arith, c.requires.short)) looks.1.1 is) looks.2 c.read_pin-end.ensures.finds c.let_go.ensures

use Rattle.std.proofs.Common.{Ok, Err}
use Rattle.cd_run.proofs.MergedLaws.{left_refused, right_stopped, right_refused}
use Rattle.cd_run.proofs.TwoPins.{both_pins}
use Rattle.cd_run.proofs.merged_task.pin_both.Goals as goal

pub returns-in-Err : goal.returns-in-Err
returns-in-Err g c id tops bytes u has =
    left_refused g.T.Hash.Hash32.digest_of g.T.Turns.worker g.T.Turns.faults g.T.Turns.made g.T.Turns.goes g.T.Turns.named c.args.who id c.args.left c.args.right tops bytes u has c.args.turns.now c.pin_parent.new.turns c.in-Err.stop c.in-Err.ensures

pub returns-in-Ok-pin_parent : goal.returns-in-Ok-pin_parent
returns-in-Ok-pin_parent g c =
    both_pins g.T.Hash.Hash32.digest_of g.T.Turns.worker g.T.Turns.faults g.T.Turns.made g.T.Turns.goes g.T.Turns.named c.args.who c.args.left c.args.right g.met.T.Turns.further c.args.turns.now c.pin_parent.new.turns c.pin_parent-2.new.turns c.in-Ok.first c.in-Ok-pin_parent.second c.in-Ok.ensures c.in-Ok-pin_parent.ensures

pub returns-in-Err-Memory : goal.returns-in-Err-Memory
returns-in-Err-Memory g c id tops bytes u has =
    let none = rw c.in-Err-Memory.field-0-is at c.in-Err-Memory.ensures in
    right_stopped g.T.Hash.Hash32.digest_of g.T.Turns.worker g.T.Turns.faults g.T.Turns.made g.T.Turns.goes g.T.Turns.named c.args.who id c.args.left c.args.right tops bytes u has c.args.turns.now c.pin_parent.new.turns g.met.T.Turns.further c.in-Ok.first c.in-Ok.ensures c.pin_parent-2.new.turns none

pub returns-in-Ok-let_go : goal.returns-in-Ok-let_go
returns-in-Ok-let_go g c id tops bytes u has =
    let refused = rw c.in-Err-Refused.field-0-is at c.in-Err-Refused.ensures in
    right_refused g.T.Hash.Hash32.digest_of g.T.Turns.worker g.T.Turns.faults g.T.Turns.made g.T.Turns.goes g.T.Turns.named c.args.who id c.args.left c.args.right tops bytes u has c.args.turns.now c.pin_parent.new.turns g.met.T.Turns.further c.in-Ok.first c.in-Ok.ensures c.pin_parent-2.new.turns c.let_go.new.turns
    c.in-Err-Refused.why (Ok (tt {0})) refused c.in-Ok-let_go.ensures

pub returns-in-Err-let_go : goal.returns-in-Err-let_go
returns-in-Err-let_go g c id tops bytes u has =
    let refused = rw c.in-Err-Refused.field-0-is at c.in-Err-Refused.ensures in
    right_refused g.T.Hash.Hash32.digest_of g.T.Turns.worker g.T.Turns.faults g.T.Turns.made g.T.Turns.goes g.T.Turns.named c.args.who id c.args.left c.args.right tops bytes u has c.args.turns.now c.pin_parent.new.turns g.met.T.Turns.further c.in-Ok.first c.in-Ok.ensures c.pin_parent-2.new.turns c.let_go.new.turns
    c.in-Err-Refused.why (Err c.in-Err-let_go.field-0) refused c.in-Err-let_go.ensures

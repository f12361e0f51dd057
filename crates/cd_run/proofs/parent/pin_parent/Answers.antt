use Rattle.cd_run.proofs.ParentLaws.{its_name, pins_are, not_pinned_is}
use Rattle.cd_run.proofs.parent.pin_parent.Goals as goal

pub returns-in-Ok : goal.returns-in-Ok
returns-in-Ok g c =
    pins_are g.T.Hash.Hash32.digest_of g.T.Turns.worker g.T.Turns.faults g.T.Turns.made g.T.Turns.goes g.T.Turns.named c.args.who c.at_of.result c.args.turns.now c.pin.new.self
    (its_name c.args.who _ _ c.at_of.ensures c.requires) c.args.id c.in-Ok.pinned c.in-Ok.ensures.turned c.in-Ok.ensures.named

pub returns-in-Err : goal.returns-in-Err
returns-in-Err g c =
    rw c.stop_of_pin.ensures
    (not_pinned_is g.T.Hash.Hash32.digest_of g.T.Turns.worker g.T.Turns.faults g.T.Turns.made g.T.Turns.goes g.T.Turns.named c.args.who c.at_of.result c.args.turns.now c.pin.new.self
    (its_name c.args.who _ _ c.at_of.ensures c.requires) c.args.id c.in-Err.fault c.in-Err.ensures.turned c.in-Err.ensures.named)

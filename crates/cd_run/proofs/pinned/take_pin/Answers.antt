use Rattle.cd_run.proofs.PinLaws.{pin_came, pin_root}
use Rattle.cd_run.proofs.pinned.take_pin.Goals as goal

pub returns-in-Ok-clause-root : goal.returns-in-Ok-clause-root
returns-in-Ok-clause-root g c =
    pin_root g.T.Turns.worker g.T.Turns.faults g.T.Turns.made g.T.Turns.goes g.T.Turns.named g.T.Hash.Hash32.digest_of c.args.at c.args.id c.args.turns.now c.pin.new.self
    c.in-Ok.pinned c.in-Ok.ensures.named

pub returns-in-Ok-clause-pinned : goal.returns-in-Ok-clause-pinned
returns-in-Ok-clause-pinned g c =
    pin_came g.T.Turns.worker g.T.Turns.faults g.T.Turns.made g.T.Turns.goes g.T.Turns.named g.T.Hash.Hash32.digest_of c.args.at c.args.id c.args.turns.now c.pin.new.self
    c.in-Ok.pinned c.in-Ok.ensures.turned c.in-Ok.ensures.named

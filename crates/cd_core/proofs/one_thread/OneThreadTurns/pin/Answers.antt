use Rattle.std.proofs.Common.{ap}
use Rattle.cd_event.specs.declared.names.Who.{Who}
use Rattle.cd_core.proofs.OwnPins.{states-now, pin-named, on-ok-always}
use Rattle.cd_core.proofs.one_thread.OneThreadTurns.pin.Goals as goal

pub returns-clause-named : goal.returns-clause-named
returns-clause-named g c =
    let k = g.K.Keeper in
    pin-named g.H.Hash32.digest_of c.args.self.now.worker k.held k.trail k.batches k.faults c.args.self.now.core.now.start c.args.self.now.core.now.journal c.args.self.now.core.now.keeper c.know.ensures c.pin-answer.new.self.start c.pin-answer.new.self.journal c.who-who.result c.args.id c.pin-answer.result (ap (λ (who : Who). who.worker) c.who-who.ensures) c.pin-answer.ensures.start c.pin-answer.ensures.adds.entry
    c.pin-answer.ensures.adds.follows c.pin-answer.ensures.root

pub returns-clause-states : goal.returns-clause-states
returns-clause-states g c =
    let k = g.K.Keeper in
    on-ok-always c.pin-answer.result _
    (states-now g.H.Hash32.digest_of c.args.self.now.worker k.held k.trail k.batches k.faults c.pin-answer.new.self.start c.pin-answer.new.self.journal c.pin-answer.new.self.keeper c.know-2.ensures)

use Rattle.std.proofs.Common.{refl}
use Rattle.cd_event.specs.declared.event.Event.TheVariants.{Pin}
use Rattle.cd_event.specs.Replies.{pin_reply}
use Rattle.cd_core.proofs.OwnPins.{on-ok-always}
use Rattle.cd_shared.proofs.AsSeen.{own-turn, pin-names, states-after}
use Rattle.cd_shared.proofs.at_db.AtDbTurns.pin.Goals as goal

pub returns-clause-turned : goal.returns-clause-turned
returns-clause-turned g c =
    let k = g.K.Keeper in
    let t = c.pin.ensures.turn in
    let own = own-turn k.held g.H.Hash32.digest_of k.trail k.batches k.faults c.args.self.now.db.now.start c.args.self.now.seat c.pin.new.seat c.pin.ensures.seat c.pin.ensures.range.0 t.0 t.1 c.args.at (Pin c.args.id) (pin_reply c.pin.result) t.2 in
    record { same_worker = own.same_worker; went = (refl, own.went); entry = own.entry; caused = own.caused }

pub returns-clause-named : goal.returns-clause-named
returns-clause-named g c =
    let k = g.K.Keeper in
    let t = c.pin.ensures.turn in
    pin-names k.held g.H.Hash32.digest_of k.trail k.batches k.faults c.args.self.now.db.now.start c.args.self.now.seat c.pin.new.seat c.pin.ensures.seat c.pin.ensures.range.0 t.0 t.1 c.args.at c.args.id c.pin.result t.2 t.3

pub returns-clause-states : goal.returns-clause-states
returns-clause-states g c =
    let k = g.K.Keeper in
    let t = c.pin.ensures.turn in
    on-ok-always c.pin.result _ (states-after k.held g.H.Hash32.digest_of k.trail k.batches k.faults c.args.self.now.db.now.start c.args.self.now.seat c.pin.new.seat c.pin.ensures.seat c.pin.ensures.range.0 t.0 t.1 c.args.at (Pin c.args.id) (pin_reply c.pin.result) t.2)

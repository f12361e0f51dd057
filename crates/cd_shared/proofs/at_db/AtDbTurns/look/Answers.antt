use Rattle.std.proofs.Common.{◌≡◌, false, length, refl}
use Rattle.cd_event.specs.declared.event.Event.TheVariants.{Look}
use Rattle.cd_event.specs.Pins.{is_live}
use Rattle.cd_event.specs.Replies.{look_reply, who_of}
use Rattle.cd_event.specs.Turning.{AreHeldFaces}
use Rattle.cd_core.proofs.OwnPins.{faces-now, ok-then}
use Rattle.cd_core.proofs.OwnMerges.{look-pinless}
use Rattle.cd_shared.proofs.AsSeen.{own-turn, named-stays, known, states-before}
use Rattle.cd_shared.proofs.at_db.AtDbTurns.look.Goals as goal

pub returns-clause-turned : goal.returns-clause-turned
returns-clause-turned g c =
    let k = g.K.Keeper in
    let t = c.look.ensures.turn in
    let own = own-turn k.held g.H.Hash32.digest_of k.trail k.batches k.faults c.args.self.now.db.now.start c.args.self.now.seat c.look.new.seat c.look.ensures.seat c.look.ensures.range.0 t.0 t.1 c.args.at (Look c.args.pin (length c.args.hashes.now)) (look_reply c.look.result) t.2 in
    record { same_worker = own.same_worker; went = (refl, own.went); entry = own.entry; caused = own.caused }

pub returns-clause-named : goal.returns-clause-named
returns-clause-named g c =
    let k = g.K.Keeper in
    let t = c.look.ensures.turn in
    named-stays k.held g.H.Hash32.digest_of k.trail k.batches k.faults c.args.self.now.db.now.start c.args.self.now.seat c.look.new.seat c.look.ensures.seat c.look.ensures.range.0 t.0 t.1 c.args.at (Look c.args.pin (length c.args.hashes.now)) (look_reply c.look.result) t.2 (λ w o r e. refl)

pub returns-clause-faces : goal.returns-clause-faces
returns-clause-faces g c =
    let k = g.K.Keeper in
    let t = c.look.ensures.turn in
    ok-then c.look.result _ _
    (λ found seen. known k.held g.H.Hash32.digest_of k.trail k.batches k.faults c.args.self.now.db.now.start c.args.self.now.seat c.look.new.seat c.look.ensures.seat c.look.ensures.range.0 t.0 t.1 c.args.at (Look c.args.pin (length c.args.hashes.now)) (look_reply c.look.result) t.2 (λ ms ns. AreHeldFaces g.H.Hash32.digest_of ms ns c.args.hashes.now found.items)
    (λ keeper core. faces-now g.H.Hash32.digest_of c.args.self.now.seat.lowest k.held k.trail k.batches k.faults c.args.self.now.db.now.start t.0 keeper core c.args.hashes.now found.items seen))
    t.3

pub returns-clause-states : goal.returns-clause-states
returns-clause-states g c =
    let k = g.K.Keeper in
    let t = c.look.ensures.turn in
    states-before k.held g.H.Hash32.digest_of k.trail k.batches k.faults c.args.self.now.db.now.start c.args.self.now.seat c.look.new.seat c.look.ensures.seat c.look.ensures.range.0 t.0 t.1 c.args.at (Look c.args.pin (length c.args.hashes.now)) (look_reply c.look.result) t.2

pub returns-clause-no_pin : goal.returns-clause-no_pin
returns-clause-no_pin g c = λ e.
    let k = g.K.Keeper in
    let t = c.look.ensures.turn in
    let adds = (t.2).adds in
    known k.held g.H.Hash32.digest_of k.trail k.batches k.faults c.args.self.now.db.now.start c.args.self.now.seat c.look.new.seat c.look.ensures.seat c.look.ensures.range.0 t.0 t.1 c.args.at (Look c.args.pin (length c.args.hashes.now)) (look_reply c.look.result) t.2 (λ ms ns. is_live c.args.pin ms ≡ false)
    (λ keeper core. look-pinless g.H.Hash32.digest_of c.args.self.now.seat.lowest k.held k.trail k.batches k.faults c.args.self.now.db.now.start t.0 keeper core (who_of c.args.at c.args.self.now.seat.lowest) c.args.pin (length c.args.hashes.now) refl c.look.result e adds.follows)

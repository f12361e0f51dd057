use Rattle.std.proofs.Common.{◌≡◌, Bool, false, refl, subst}
use Rattle.std.specs.Prelude.{Result, IfSome}
use Rattle.cd_event.specs.declared.event.Event.TheVariants.{Unpin}
use Rattle.cd_event.specs.declared.faults.UnpinFault.{UnpinFault}
use Rattle.cd_event.specs.Pins.{is_live}
use Rattle.cd_event.specs.Replies.{entry_of, unpin_reply, who_of}
use Rattle.cd_world.specs.Following.{Follows}
use Rattle.cd_core.specs.Cores.{world_after}
use Rattle.cd_core.proofs.OwnMerges.{pinless}
use Rattle.cd_shared.proofs.AsSeen.{own-turn, named-stays, known}
use Rattle.cd_shared.proofs.at_db.AtDbTurns.unpin.Goals as goal

pub returns-clause-turned : goal.returns-clause-turned
returns-clause-turned g c =
    let k = g.K.Keeper in
    let t = c.unpin.ensures.turn in
    let own = own-turn k.held g.H.Hash32.digest_of k.trail k.batches k.faults c.args.self.now.db.now.start c.args.self.now.seat c.unpin.new.seat c.unpin.ensures.seat c.unpin.ensures.range.0 t.0 t.1 c.args.at (Unpin c.args.pin) (unpin_reply c.unpin.result) t.2 in
    record { same_worker = own.same_worker; went = (refl, own.went); entry = own.entry; caused = own.caused }

pub returns-clause-named : goal.returns-clause-named
returns-clause-named g c =
    let k = g.K.Keeper in
    let t = c.unpin.ensures.turn in
    named-stays k.held g.H.Hash32.digest_of k.trail k.batches k.faults c.args.self.now.db.now.start c.args.self.now.seat c.unpin.new.seat c.unpin.ensures.seat c.unpin.ensures.range.0 t.0 t.1 c.args.at (Unpin c.args.pin) (unpin_reply c.unpin.result) t.2 (λ w o r e. refl)

pub returns-clause-no_pin : goal.returns-clause-no_pin
returns-clause-no_pin g c = λ e.
    let k = g.K.Keeper in
    let t = c.unpin.ensures.turn in
    let adds = (t.2).adds in
    known k.held g.H.Hash32.digest_of k.trail k.batches k.faults c.args.self.now.db.now.start c.args.self.now.seat c.unpin.new.seat c.unpin.ensures.seat c.unpin.ensures.range.0 t.0 t.1 c.args.at (Unpin c.args.pin) (unpin_reply c.unpin.result) t.2 (λ ms ns. is_live c.args.pin ms ≡ false)
    (λ keeper core. pinless g.H.Hash32.digest_of c.args.self.now.seat.lowest k.held k.trail k.batches k.faults c.args.self.now.db.now.start t.0 keeper core (who_of c.args.at c.args.self.now.seat.lowest) (Unpin c.args.pin) c.args.pin refl (λ v n. refl)
    (subst (λ (a : Result Bool UnpinFault). IfSome (unpin_reply a) (λ r. Follows g.H.Hash32.digest_of (world_after c.args.self.now.db.now.start t.0) (entry_of {H = g.row.H.Denot} (who_of c.args.at c.args.self.now.seat.lowest) (Unpin c.args.pin) r))) e adds.follows))

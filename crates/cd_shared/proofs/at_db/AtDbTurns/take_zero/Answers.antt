use Rattle.std.proofs.Common.{refl, sym}
use Rattle.cd_event.specs.declared.event.Event.TheVariants.{Zero}
use Rattle.cd_event.specs.Replies.{zero_reply}
use Rattle.cd_core.proofs.OwnPins.{some-of}
use Rattle.cd_shared.proofs.AsSeen.{own-turn, named-stays}
use Rattle.cd_shared.proofs.at_db.AtDbTurns.take_zero.Goals as goal

pub returns-clause-turned : goal.returns-clause-turned
returns-clause-turned g c =
    let k = g.K.Keeper in
    let t = c.zero.ensures.turn in
    let own = own-turn k.held g.H.Hash32.digest_of k.trail k.batches k.faults c.args.self.now.db.now.start c.args.self.now.seat c.zero.new.seat c.zero.ensures.seat c.zero.ensures.range.0 t.0 t.1 c.args.at (Zero c.args.id c.args.tops c.in-Some.prepared) (zero_reply c.zero.result) t.2 in
    some-of c.args.slot.now c.in-Some.prepared _ (sym c.in-Some.ensures.value) (record { same_worker = own.same_worker; went = (refl, own.went); entry = own.entry; caused = own.caused })

pub returns-clause-named : goal.returns-clause-named
returns-clause-named g c =
    let k = g.K.Keeper in
    let t = c.zero.ensures.turn in
    named-stays k.held g.H.Hash32.digest_of k.trail k.batches k.faults c.args.self.now.db.now.start c.args.self.now.seat c.zero.new.seat c.zero.ensures.seat c.zero.ensures.range.0 t.0 t.1 c.args.at (Zero c.args.id c.args.tops c.in-Some.prepared) (zero_reply c.zero.result) t.2 (λ w o r e. refl)

use Rattle.std.proofs.Common.{refl}
use Rattle.cd_event.specs.declared.event.Event.TheVariants.{Expire}
use Rattle.cd_event.specs.Replies.{expire_reply}
use Rattle.cd_shared.proofs.AsSeen.{own-turn, named-stays}
use Rattle.cd_shared.proofs.at_db.AtDbTurns.expire.Goals as goal

pub returns-clause-turned : goal.returns-clause-turned
returns-clause-turned g c =
    let k = g.K.Keeper in
    let t = c.expire.ensures.turn in
    let own = own-turn k.held g.H.Hash32.digest_of k.trail k.batches k.faults c.args.self.now.db.now.start c.args.self.now.seat c.expire.new.seat c.expire.ensures.seat c.expire.ensures.range.0 t.0 t.1 c.args.at (Expire c.args.id) (expire_reply c.expire.result) t.2 in
    record { same_worker = own.same_worker; went = (refl, own.went); entry = own.entry; caused = own.caused }

pub returns-clause-named : goal.returns-clause-named
returns-clause-named g c =
    let k = g.K.Keeper in
    let t = c.expire.ensures.turn in
    named-stays k.held g.H.Hash32.digest_of k.trail k.batches k.faults c.args.self.now.db.now.start c.args.self.now.seat c.expire.new.seat c.expire.ensures.seat c.expire.ensures.range.0 t.0 t.1 c.args.at (Expire c.args.id) (expire_reply c.expire.result) t.2 (λ w o r e. refl)

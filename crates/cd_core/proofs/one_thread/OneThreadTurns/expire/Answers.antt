use Rattle.std.proofs.Common.{refl}
use Rattle.cd_event.specs.declared.event.Event.TheVariants.{Expire}
use Rattle.cd_event.specs.Replies.{expire_reply}
use Rattle.cd_core.proofs.OwnPins.{named-kept}
use Rattle.cd_core.proofs.one_thread.OneThreadTurns.expire.Goals as goal

pub returns-clause-named : goal.returns-clause-named
returns-clause-named g c =
    named-kept g.H.Hash32.digest_of c.args.self.now.worker g.K.Keeper.held c.args.self.now.core.now.start c.expire.new.self.start c.args.self.now.core.now.journal c.expire.new.self.journal
    c.who-who.result (Expire c.args.id) (expire_reply c.expire.result) c.expire.ensures.start c.expire.ensures.adds.entry (λ w t r e. refl)

use Rattle.std.proofs.Common.{Bool, ap, refl, subst}
use Rattle.std.specs.Prelude.{Result, IfSome}
use Rattle.cd_event.specs.declared.event.Event.TheVariants.{Unpin}
use Rattle.cd_event.specs.declared.faults.UnpinFault.{UnpinFault}
use Rattle.cd_event.specs.declared.names.Who.{Who}
use Rattle.cd_event.specs.Replies.{entry_of, unpin_reply}
use Rattle.cd_world.specs.Following.{Follows}
use Rattle.cd_core.specs.Cores.{world_after}
use Rattle.cd_core.proofs.OwnPins.{named-kept}
use Rattle.cd_core.proofs.OwnMerges.{pinless}
use Rattle.cd_core.proofs.one_thread.OneThreadTurns.unpin.Goals as goal

pub returns-clause-named : goal.returns-clause-named
returns-clause-named g c =
    named-kept g.H.Hash32.digest_of c.args.self.now.worker g.K.Keeper.held c.args.self.now.core.now.start c.unpin.new.self.start c.args.self.now.core.now.journal c.unpin.new.self.journal
    c.who-who.result (Unpin c.args.pin) (unpin_reply c.unpin.result) c.unpin.ensures.start c.unpin.ensures.adds.entry (λ w t r e. refl)

pub returns-clause-no_pin : goal.returns-clause-no_pin
returns-clause-no_pin g c = λ e.
    let k = g.K.Keeper in
    pinless g.H.Hash32.digest_of c.args.self.now.worker k.held k.trail k.batches k.faults c.args.self.now.core.now.start c.args.self.now.core.now.journal c.args.self.now.core.now.keeper c.know.ensures c.who-who.result (Unpin c.args.pin) c.args.pin (ap (λ (who : Who). who.worker) c.who-who.ensures) (λ v n. refl)
    (subst (λ (a : Result Bool UnpinFault). IfSome (unpin_reply a) (λ r. Follows g.H.Hash32.digest_of (world_after c.args.self.now.core.now.start c.args.self.now.core.now.journal) (entry_of {H = g.row.H.Denot} c.who-who.result (Unpin c.args.pin) r))) e c.unpin.ensures.adds.follows)

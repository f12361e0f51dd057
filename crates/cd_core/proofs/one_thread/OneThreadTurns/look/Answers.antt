use Rattle.std.proofs.Common.{length, ap, refl}
use Rattle.cd_event.specs.declared.event.Event.TheVariants.{Look}
use Rattle.cd_event.specs.declared.names.Who.{Who}
use Rattle.cd_event.specs.Replies.{look_reply}
use Rattle.cd_core.proofs.OwnPins.{named-kept, states-now, faces-now, ok-then}
use Rattle.cd_core.proofs.OwnMerges.{look-pinless}
use Rattle.cd_core.proofs.one_thread.OneThreadTurns.look.Goals as goal

pub returns-clause-named : goal.returns-clause-named
returns-clause-named g c =
    named-kept g.H.Hash32.digest_of c.args.self.now.worker g.K.Keeper.held c.args.self.now.core.now.start c.look.new.self.start c.args.self.now.core.now.journal c.look.new.self.journal
    c.who-who.result (Look c.args.pin (length c.args.hashes.now)) (look_reply c.look.result) c.look.ensures.start c.look.ensures.adds.entry (λ w t r e. refl)

pub returns-clause-faces : goal.returns-clause-faces
returns-clause-faces g c =
    let k = g.K.Keeper in
    ok-then c.look.result _ _ (λ found seen. faces-now g.H.Hash32.digest_of c.args.self.now.worker k.held k.trail k.batches k.faults c.args.self.now.core.now.start c.args.self.now.core.now.journal c.args.self.now.core.now.keeper c.know.ensures c.args.hashes.now found.items seen) c.look.ensures.seen

pub returns-clause-states : goal.returns-clause-states
returns-clause-states g c =
    let k = g.K.Keeper in
    states-now g.H.Hash32.digest_of c.args.self.now.worker k.held k.trail k.batches k.faults c.args.self.now.core.now.start c.args.self.now.core.now.journal c.args.self.now.core.now.keeper c.know.ensures

pub returns-clause-no_pin : goal.returns-clause-no_pin
returns-clause-no_pin g c = λ e.
    let k = g.K.Keeper in
    look-pinless g.H.Hash32.digest_of c.args.self.now.worker k.held k.trail k.batches k.faults c.args.self.now.core.now.start c.args.self.now.core.now.journal c.args.self.now.core.now.keeper c.know.ensures c.who-who.result c.args.pin (length c.args.hashes.now) (ap (λ (who : Who). who.worker) c.who-who.ensures) c.look.result e c.look.ensures.adds.follows

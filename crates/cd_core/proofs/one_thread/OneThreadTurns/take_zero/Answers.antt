use Rattle.std.proofs.Common.{◌++◌, refl, sym, ap, ◌∙◌}
use Rattle.cd_event.specs.declared.event.Event.TheVariants.{Zero}
use Rattle.cd_event.specs.declared.names.Who.{Who}
use Rattle.cd_event.specs.Replies.{entries_of, zero_reply}
use Rattle.cd_core.specs.Workers.{made_by}
use Rattle.cd_core.proofs.OwnPins.{named-kept, goes-by, made-append, some-of}
use Rattle.cd_core.proofs.one_thread.OneThreadTurns.take_zero.Goals as goal

pub returns-clause-turned : goal.returns-clause-turned
returns-clause-turned g c =
    let who = c.who-who.result in
    let entry = c.zero.ensures.adds.entry in
    some-of c.args.slot.now c.in-Some.prepared _ (sym c.in-Some.ensures.value) (record {
      same_worker = refl;
      went = (refl, refl, goes-by g.H.Hash32.digest_of c.args.self.now.worker c.args.self.now.core.now c.zero.new.self who (Zero c.args.id c.args.tops c.in-Some.prepared) (zero_reply c.zero.result) (ap (λ (who : Who). who.worker) c.who-who.ensures) c.zero.ensures.start entry);
      entry = ap (made_by c.args.self.now.worker) entry ∙ made-append g.H.Hash32.digest_of c.args.self.now.worker c.args.self.now.core.now.journal who (Zero c.args.id c.args.tops c.in-Some.prepared) (zero_reply c.zero.result) (ap (λ (who : Who). who.worker) c.who-who.ensures)
          ∙ ap (λ (named : Who). made_by c.args.self.now.worker c.args.self.now.core.now.journal ++ entries_of named (Zero c.args.id c.args.tops c.in-Some.prepared) (zero_reply c.zero.result)) c.who-who.ensures;
      caused = c.zero.ensures.cause;
    })

pub returns-clause-named : goal.returns-clause-named
returns-clause-named g c =
    named-kept g.H.Hash32.digest_of c.args.self.now.worker g.K.Keeper.held c.args.self.now.core.now.start c.zero.new.self.start c.args.self.now.core.now.journal c.zero.new.self.journal
    c.who-who.result (Zero c.args.id c.args.tops c.in-Some.prepared) (zero_reply c.zero.result) c.zero.ensures.start c.zero.ensures.adds.entry (λ w t r e. refl)

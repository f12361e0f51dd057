use Rattle.std.proofs.Common.{◌++◌, ℕ, refl, sym, ap, ◌∙◌, subst}
use Rattle.std.specs.Prelude.{Result, IfSome}
use Rattle.cd_event.specs.declared.answers.Stored.{Stored}
use Rattle.cd_event.specs.declared.event.Event.TheVariants.{Merge}
use Rattle.cd_event.specs.declared.faults.MergeFault.{MergeFault}
use Rattle.cd_event.specs.declared.names.Who.{Who}
use Rattle.cd_event.specs.Replies.{entry_of, entries_of, merge_reply}
use Rattle.cd_world.specs.Following.{Follows}
use Rattle.cd_core.specs.Cores.{world_after}
use Rattle.cd_core.specs.Effects.{MayStoreOver}
use Rattle.cd_core.specs.Workers.{made_by}
use Rattle.cd_core.proofs.OwnPins.{named-kept, goes-by, made-append, some-of}
use Rattle.cd_core.proofs.OwnMerges.{may-store, merge-pinless, merge-wrong}
use Rattle.cd_core.proofs.Planned.{of-some}
use Rattle.cd_core.proofs.one_thread.OneThreadTurns.take_merge.Goals as goal

pub merge-requires-clause-fits : goal.merge-requires-clause-fits
merge-requires-clause-fits g c =
    let k = g.K.Keeper in
    subst (λ (n : ℕ). MayStoreOver k.held g.H.Hash32.digest_of c.args.self.now.core.now.start c.args.self.now.core.now.journal n c.args.pin c.args.other c.in-Some.prepared) (sym (ap (λ (who : Who). who.worker) c.who-who.ensures))
    (may-store g.H.Hash32.digest_of c.args.self.now.worker k.held k.trail k.batches k.faults c.args.self.now.core.now.start c.args.self.now.core.now.journal c.args.self.now.core.now.keeper c.know.ensures c.args.pin c.args.other c.in-Some.prepared (of-some c.args.slot.now c.in-Some.prepared _ (sym c.in-Some.ensures.value) c.requires.fits))

pub returns-clause-turned : goal.returns-clause-turned
returns-clause-turned g c =
    let who = c.who-who.result in
    let entry = c.merge.ensures.adds.entry in
    some-of c.args.slot.now c.in-Some.prepared _ (sym c.in-Some.ensures.value) (record {
      same_worker = refl;
      went = (refl, refl, goes-by g.H.Hash32.digest_of c.args.self.now.worker c.args.self.now.core.now c.merge.new.self who (Merge c.args.pin c.args.other c.args.id c.args.tops c.in-Some.prepared) (merge_reply c.merge.result) (ap (λ (who : Who). who.worker) c.who-who.ensures) c.merge.ensures.start entry);
      entry = ap (made_by c.args.self.now.worker) entry ∙ made-append g.H.Hash32.digest_of c.args.self.now.worker c.args.self.now.core.now.journal who (Merge c.args.pin c.args.other c.args.id c.args.tops c.in-Some.prepared) (merge_reply c.merge.result) (ap (λ (who : Who). who.worker) c.who-who.ensures)
          ∙ ap (λ (named : Who). made_by c.args.self.now.worker c.args.self.now.core.now.journal ++ entries_of named (Merge c.args.pin c.args.other c.args.id c.args.tops c.in-Some.prepared) (merge_reply c.merge.result)) c.who-who.ensures;
      caused = c.merge.ensures.cause;
    })

pub returns-clause-named : goal.returns-clause-named
returns-clause-named g c =
    named-kept g.H.Hash32.digest_of c.args.self.now.worker g.K.Keeper.held c.args.self.now.core.now.start c.merge.new.self.start c.args.self.now.core.now.journal c.merge.new.self.journal
    c.who-who.result (Merge c.args.pin c.args.other c.args.id c.args.tops c.in-Some.prepared) (merge_reply c.merge.result) c.merge.ensures.start c.merge.ensures.adds.entry (λ w t r e. refl)

pub returns-clause-no_pin : goal.returns-clause-no_pin
returns-clause-no_pin g c = λ e.
    let k = g.K.Keeper in
    merge-pinless g.H.Hash32.digest_of c.args.self.now.worker k.held k.trail k.batches k.faults c.args.self.now.core.now.start c.args.self.now.core.now.journal c.args.self.now.core.now.keeper c.know.ensures c.who-who.result c.args.pin c.args.other c.args.id c.args.tops c.in-Some.prepared (ap (λ (who : Who). who.worker) c.who-who.ensures)
    (subst (λ (a : Result Stored MergeFault). IfSome (merge_reply a) (λ r. Follows g.H.Hash32.digest_of (world_after c.args.self.now.core.now.start c.args.self.now.core.now.journal) (entry_of {H = g.row.H.Denot} c.who-who.result (Merge c.args.pin c.args.other c.args.id c.args.tops c.in-Some.prepared) r))) e c.merge.ensures.adds.follows)

pub returns-clause-wrong : goal.returns-clause-wrong
returns-clause-wrong g c = λ e.
    let k = g.K.Keeper in
    some-of c.args.slot.now c.in-Some.prepared _ (sym c.in-Some.ensures.value) (merge-wrong g.H.Hash32.digest_of c.args.self.now.worker k.held k.trail k.batches k.faults c.args.self.now.core.now.start c.args.self.now.core.now.journal c.args.self.now.core.now.keeper c.know.ensures c.who-who.result c.args.pin c.args.other c.args.id c.args.tops c.in-Some.prepared (ap (λ (who : Who). who.worker) c.who-who.ensures)
    (subst (λ (a : Result Stored MergeFault). IfSome (merge_reply a) (λ r. Follows g.H.Hash32.digest_of (world_after c.args.self.now.core.now.start c.args.self.now.core.now.journal) (entry_of {H = g.row.H.Denot} c.who-who.result (Merge c.args.pin c.args.other c.args.id c.args.tops c.in-Some.prepared) r))) e c.merge.ensures.adds.follows))

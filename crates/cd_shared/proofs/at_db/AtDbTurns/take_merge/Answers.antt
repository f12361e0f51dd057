use Rattle.std.proofs.Common.{◌≡◌, false, refl, sym, subst}
use Rattle.std.specs.Prelude.{Result, IfSome}
use Rattle.cd_event.specs.declared.answers.Stored.{Stored}
use Rattle.cd_event.specs.declared.event.Event.TheVariants.{Merge}
use Rattle.cd_event.specs.declared.faults.MergeFault.{MergeFault}
use Rattle.cd_event.specs.Pins.{are_live, IsOfOther}
use Rattle.cd_event.specs.Replies.{entry_of, merge_reply, who_of}
use Rattle.cd_world.specs.Following.{Follows}
use Rattle.cd_core.specs.Cores.{world_after}
use Rattle.cd_core.proofs.OwnPins.{some-of}
use Rattle.cd_core.proofs.OwnMerges.{merge-pinless, merge-wrong}
use Rattle.cd_core.proofs.Planned.{of-some}
use Rattle.cd_shared.proofs.AsSeen.{own-turn, named-stays, known}
use Rattle.cd_shared.proofs.at_db.AtDbTurns.take_merge.Goals as goal

pub merge-requires-clause-fits : goal.merge-requires-clause-fits
merge-requires-clause-fits g c = of-some c.args.slot.now c.in-Some.prepared _ (sym c.in-Some.ensures.value) c.requires.fits

pub returns-clause-turned : goal.returns-clause-turned
returns-clause-turned g c =
    let k = g.K.Keeper in
    let t = c.merge.ensures.turn in
    let own = own-turn k.held g.H.Hash32.digest_of k.trail k.batches k.faults c.args.self.now.db.now.start c.args.self.now.seat c.merge.new.seat c.merge.ensures.seat c.merge.ensures.range.0 t.0 t.1 c.args.at (Merge c.args.pin c.args.other c.args.id c.args.tops c.in-Some.prepared) (merge_reply c.merge.result) t.2 in
    some-of c.args.slot.now c.in-Some.prepared _ (sym c.in-Some.ensures.value) (record { same_worker = own.same_worker; went = (refl, own.went); entry = own.entry; caused = own.caused })

pub returns-clause-named : goal.returns-clause-named
returns-clause-named g c =
    let k = g.K.Keeper in
    let t = c.merge.ensures.turn in
    named-stays k.held g.H.Hash32.digest_of k.trail k.batches k.faults c.args.self.now.db.now.start c.args.self.now.seat c.merge.new.seat c.merge.ensures.seat c.merge.ensures.range.0 t.0 t.1 c.args.at (Merge c.args.pin c.args.other c.args.id c.args.tops c.in-Some.prepared) (merge_reply c.merge.result) t.2 (λ w o r e. refl)

pub returns-clause-no_pin : goal.returns-clause-no_pin
returns-clause-no_pin g c = λ e.
    let k = g.K.Keeper in
    let t = c.merge.ensures.turn in
    let adds = (t.2).adds in
    known k.held g.H.Hash32.digest_of k.trail k.batches k.faults c.args.self.now.db.now.start c.args.self.now.seat c.merge.new.seat c.merge.ensures.seat c.merge.ensures.range.0 t.0 t.1 c.args.at (Merge c.args.pin c.args.other c.args.id c.args.tops c.in-Some.prepared) (merge_reply c.merge.result) t.2 (λ ms ns. are_live c.args.pin c.args.other ms ≡ false)
    (λ keeper core. merge-pinless g.H.Hash32.digest_of c.args.self.now.seat.lowest k.held k.trail k.batches k.faults c.args.self.now.db.now.start t.0 keeper core (who_of c.args.at c.args.self.now.seat.lowest) c.args.pin c.args.other c.args.id c.args.tops c.in-Some.prepared refl
    (subst (λ (a : Result Stored MergeFault). IfSome (merge_reply a) (λ r. Follows g.H.Hash32.digest_of (world_after c.args.self.now.db.now.start t.0) (entry_of {H = g.row.H.Denot} (who_of c.args.at c.args.self.now.seat.lowest) (Merge c.args.pin c.args.other c.args.id c.args.tops c.in-Some.prepared) r))) e adds.follows))

pub returns-clause-wrong : goal.returns-clause-wrong
returns-clause-wrong g c = λ e.
    let k = g.K.Keeper in
    let t = c.merge.ensures.turn in
    let adds = (t.2).adds in
    some-of c.args.slot.now c.in-Some.prepared _ (sym c.in-Some.ensures.value)
    (known k.held g.H.Hash32.digest_of k.trail k.batches k.faults c.args.self.now.db.now.start c.args.self.now.seat c.merge.new.seat c.merge.ensures.seat c.merge.ensures.range.0 t.0 t.1 c.args.at (Merge c.args.pin c.args.other c.args.id c.args.tops c.in-Some.prepared) (merge_reply c.merge.result) t.2 (λ ms ns. IsOfOther g.H.Hash32.digest_of ns c.args.pin c.args.other c.in-Some.prepared.old)
    (λ keeper core. merge-wrong g.H.Hash32.digest_of c.args.self.now.seat.lowest k.held k.trail k.batches k.faults c.args.self.now.db.now.start t.0 keeper core (who_of c.args.at c.args.self.now.seat.lowest) c.args.pin c.args.other c.args.id c.args.tops c.in-Some.prepared refl
    (subst (λ (a : Result Stored MergeFault). IfSome (merge_reply a) (λ r. Follows g.H.Hash32.digest_of (world_after c.args.self.now.db.now.start t.0) (entry_of {H = g.row.H.Denot} (who_of c.args.at c.args.self.now.seat.lowest) (Merge c.args.pin c.args.other c.args.id c.args.tops c.in-Some.prepared) r))) e adds.follows)))

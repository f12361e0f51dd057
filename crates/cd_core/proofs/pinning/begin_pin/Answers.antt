use Rattle.std.proofs.Common.{◌≡◌, ℕ, ◌-◌, ◌^◌, ◌<◌, true, nat_lt, List, None, refl, sym, subst, arith}
use Rattle.std.specs.Prelude.{min}
use Rattle.std.proofs.lemmas.Bool.{lt-ltb}
use Rattle.cd_event.specs.declared.event.Event.TheVariants.{Pin}
use Rattle.cd_world.specs.declared.world.PinRow.{PinRow}
use Rattle.cd_core.specs.Steps.{Did}
use Rattle.cd_core.proofs.Begun.{begun-did}
use Rattle.cd_core.proofs.Doings.{memory-did}
use Rattle.cd_core.proofs.Ended.{keeps-itself}
use Rattle.cd_core.proofs.pinning.begin_pin.Goals as goal

few-is : (n r : ℕ) → r ≡ min n (2 ^ 32 - 1) → r < 64 → nat_lt n 64 ≡ true
few-is n r is few = lt-ltb n 64 (omega arith)

pub returns-in-Ok-clause-did : goal.returns-in-Ok-clause-did
returns-in-Ok-clause-did g c = λ limit keeper low.
    let k = g.K.Keeper in
    begun-did g.row.H.Denot k.held g.H.Hash32.digest_of k.trail k.batches k.faults limit low c.args.world.now keeper c.args.who c.requires.kept c.args.id.now c.in-Some.block.now c.push.new.self
    (sym c.in-Some.ensures) (few-is _ c.pins_of.result c.pins_of.ensures c.if-pins_of-ge-MOST_PINS.false) c.in-Ok.ensures.ok

pub returns-in-Err-clause-did : goal.returns-in-Err-clause-did
returns-in-Err-clause-did g c = λ limit keeper low.
    let k = g.K.Keeper in
    let w = c.args.world.now in
    subst (λ (ps : List PinRow). Did k.held g.H.Hash32.digest_of k.trail {X = g.row.H.Denot} k.batches k.faults limit w keeper c.args.who (Pin c.args.id.now) None (record { blocks = w.blocks; pins = ps; next = w.next }) keeper)
    (sym c.in-Err.ensures.err)
    (memory-did k.held g.H.Hash32.digest_of k.trail k.batches k.faults limit w keeper keeper c.args.who (Pin c.args.id.now) c.requires.kept (keeps-itself k.held k.trail k.batches keeper) refl)

use Rattle.std.proofs.Common.{refl, sym, ◌∙◌}
use Rattle.std.proofs.lemmas.Bool.{true≢false}
use Rattle.cd_core.proofs.Ended.{still-did, gone-did, ungone-did, collects, collected-cells}
use Rattle.cd_core.proofs.unpinning.end_pin.Goals as goal

pub returns-in-None-clause-did : goal.returns-in-None-clause-did
returns-in-None-clause-did g c = λ limit low.
    let k = g.K.Keeper in
    still-did g.row.H.Denot k.held g.H.Hash32.digest_of k.trail k.batches k.faults limit low c.args.world.now c.args.keeper.now c.args.keeper.now c.args.who c.args.pin c.in-Some.row.now
    c.requires.kept (sym c.in-Some.ensures) c.drop_pin.new.self c.drop_pin.ensures (c.in-None.ensures.none refl)

pub returns-in-Ok-clause-did : goal.returns-in-Ok-clause-did
returns-in-Ok-clause-did g c = λ limit low.
    let k = g.K.Keeper in
    let there = c.in-Some-collected_place.ensures.some in
    gone-did g.row.H.Denot k.held g.H.Hash32.digest_of k.trail k.batches k.faults limit low c.args.world.now c.args.keeper.now c.drop_block.new.keeper c.args.who c.args.pin c.in-Some.row.now
    c.requires.kept (sym c.in-Some.ensures) c.in-Some-collected_place.place there.0 there.1 there.2 c.remove.new.self c.drop_pin-in-Ok.new.self c.remove.ensures c.drop_pin-in-Ok.ensures
    c.in-Ok.ensures.done (c.in-Ok.ensures.cause.steady refl)

pub returns-in-Ok-clause-quiet : goal.returns-in-Ok-clause-quiet
returns-in-Ok-clause-quiet g c = λ none.
    let there = c.in-Some-collected_place.ensures.some in
    absurd (true≢false (sym (collects c.args.world.now c.args.who.worker c.args.pin c.in-Some.row.now c.in-Some-collected_place.place there.0 (sym c.in-Some.ensures) there.1 there.2) ∙ none))

pub returns-in-Ok-clause-reads : goal.returns-in-Ok-clause-reads
returns-in-Ok-clause-reads g c = λ t dead same h are.
    c.drop_block.ensures.reads t dead same h
    (collected-cells g.H.Hash32.digest_of c.args.world.now t c.args.who.worker c.args.pin c.in-Some.row.now dead same (sym c.in-Some.ensures) are)

pub returns-in-Err-clause-did : goal.returns-in-Err-clause-did
returns-in-Err-clause-did g c = λ limit low.
    let k = g.K.Keeper in
    let there = c.in-Some-collected_place.ensures.some in
    ungone-did g.row.H.Denot k.held g.H.Hash32.digest_of k.trail k.batches k.faults limit low c.args.world.now c.args.keeper.now c.drop_block.new.keeper c.args.who c.args.pin c.in-Some.row.now
    c.requires.kept (sym c.in-Some.ensures) c.in-Some-collected_place.place there.0 there.1 there.2 (Unit {0}) c.in-Err.fault
    c.in-Err.ensures.undone c.in-Err.ensures.outside c.in-Err.ensures.cause

pub returns-in-Err-clause-quiet : goal.returns-in-Err-clause-quiet
returns-in-Err-clause-quiet g c = λ none.
    let there = c.in-Some-collected_place.ensures.some in
    absurd (true≢false (sym (collects c.args.world.now c.args.who.worker c.args.pin c.in-Some.row.now c.in-Some-collected_place.place there.0 (sym c.in-Some.ensures) there.1 there.2) ∙ none))

pub returns-in-Err-clause-reads : goal.returns-in-Err-clause-reads
returns-in-Err-clause-reads g c = λ t dead same h are.
    c.drop_block.ensures.reads t dead same h
    (collected-cells g.H.Hash32.digest_of c.args.world.now t c.args.who.worker c.args.pin c.in-Some.row.now dead same (sym c.in-Some.ensures) are)

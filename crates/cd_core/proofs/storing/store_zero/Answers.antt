use Rattle.std.proofs.Common.{List, [], ◌∷◌, ◌++◌, map, refl, sym, subst}
use Rattle.std.specs.List.{IsDistinct}
use Rattle.cd_block.specs.declared.block.BlockId.{BlockId}
use Rattle.cd_block.specs.Block.{key_of}
use Rattle.cd_keeper.specs.NoKeyTwice.{same_key}
use Rattle.cd_count.specs.Changes.{Rows}
use Rattle.cd_core.proofs.Places.{one-key-alone}
use Rattle.cd_core.proofs.ZeroDid.{zero-refused, zero-planless, zero-failed, zero-wanting, zero-stored}
use Rattle.cd_core.proofs.storing.store_zero.Goals as goal

pub returns-in-Some-clause-did : goal.returns-in-Some-clause-did
returns-in-Some-clause-did g c =
    let k = g.K.Keeper in
    zero-refused g.row.H.Denot k.held g.H.Hash32.digest_of k.trail k.batches k.faults c.args.limit c.args.world.now c.args.keeper.now c.args.who c.args.id.now c.args.tops.now c.args.prepared.now c.requires.kept
    c.in-Some.fault c.in-Some.ensures.kind c.in-Some.ensures.refusal

pub returns-in-Err-clause-did : goal.returns-in-Err-clause-did
returns-in-Err-clause-did g c =
    let k = g.K.Keeper in
    let cause = c.in-Err.ensures.cause in
    zero-planless g.row.H.Denot k.held g.H.Hash32.digest_of k.trail k.batches k.faults c.args.limit c.args.world.now c.args.keeper.now c.args.who c.args.id.now c.args.tops.now c.args.prepared.now c.requires.kept
    Rows c.plan_state.new.keeper c.in-Err.fault c.zero_fault.result c.zero_fault.ensures (sym c.in_default.ensures.refusal) c.in-Err.ensures.keeps cause.later cause.caused (λ t is h. c.in-Err.ensures.judged t is h c.requires.whole)

pub returns-in_default-stored_descr-clause-did : goal.returns-in_default-stored_descr-clause-did
returns-in_default-stored_descr-clause-did g c =
    let k = g.K.Keeper in
    let cause = c.in-Ok.ensures.cause in
    zero-wanting g.row.H.Denot k.held g.H.Hash32.digest_of k.trail k.batches k.faults c.args.limit c.args.world.now c.args.keeper.now c.args.who c.args.id.now c.args.tops.now c.args.prepared.now c.requires.kept
    c.args.world.now c.args.keeper.now c.plan_state.new.keeper refl (record { same_held = refl; same_trail = refl; same_batches = refl }) c.in-Ok.ensures.keeps refl cause.steady

pub store_block-requires-clause-once : goal.store_block-requires-clause-once
store_block-requires-clause-once g c =
    subst (λ (ids : List BlockId). IsDistinct same_key (map key_of ids ++ key_of c.in-Ok-stored_descr.descr.id ∷ [])) (sym c.new.ensures.items) (one-key-alone (key_of c.in-Ok-stored_descr.descr.id))

pub returns-in-Ok-store_block-clause-did : goal.returns-in-Ok-store_block-clause-did
returns-in-Ok-store_block-clause-did g c =
    let k = g.K.Keeper in
    let cause = c.in-Ok.ensures.cause in
    let after = c.in-Ok-store_block.ensures.cause in
    zero-stored g.row.H.Denot k.held g.H.Hash32.digest_of k.trail k.batches k.faults c.args.limit c.args.world.now c.args.keeper.now c.args.who c.args.id.now c.args.tops.now c.args.prepared.now c.requires.kept
    c.requires.limit (sym c.in_default.ensures.refusal) c.in-Ok.ensures.storable c.requires.whole c.plan_state.new.keeper c.store_block.new.keeper c.in-Ok.ensures.keeps cause.steady c.in-Ok.plan
    c.answer_of.result c.store_block.new.world c.in-Ok-stored_descr.descr c.new.result.items c.in-Ok-stored_descr.ensures c.new.ensures.items c.in-Ok-store_block.ensures.world
    c.in-Ok-store_block.ensures.made after.steady (λ t is h. c.in-Ok.ensures.judged t is h c.requires.whole) (λ t is h. c.in-Ok.ensures.planned t is h c.requires.whole)

pub returns-in-Err-Failed-clause-did : goal.returns-in-Err-Failed-clause-did
returns-in-Err-Failed-clause-did g c =
    let k = g.K.Keeper in
    let cause = c.in-Ok.ensures.cause in
    let after = c.in-Err-Failed.ensures.cause in
    zero-failed g.row.H.Denot k.held g.H.Hash32.digest_of k.trail k.batches k.faults c.args.limit c.args.world.now c.args.keeper.now c.args.who c.args.id.now c.args.tops.now c.args.prepared.now c.requires.kept
    c.store_block.new.world c.plan_state.new.keeper c.store_block.new.keeper c.in-Err-Failed.ensures.still (sym c.in_default.ensures.refusal) c.in-Ok.ensures.keeps c.in-Err-Failed.ensures.undone cause.steady after.later
    (rw c.in-Err-Failed.field-0-is at c.in-Err-Failed.ensures.cause.caused)

pub returns-in-Err-Memory-clause-did : goal.returns-in-Err-Memory-clause-did
returns-in-Err-Memory-clause-did g c =
    let k = g.K.Keeper in
    let cause = c.in-Ok.ensures.cause in
    zero-wanting g.row.H.Denot k.held g.H.Hash32.digest_of k.trail k.batches k.faults c.args.limit c.args.world.now c.args.keeper.now c.args.who c.args.id.now c.args.tops.now c.args.prepared.now c.requires.kept
    c.store_block.new.world c.plan_state.new.keeper c.store_block.new.keeper c.in-Err-Memory.ensures.still c.in-Ok.ensures.keeps c.in-Err-Memory.ensures.undone cause.steady
    (rw c.in-Err-Memory.field-0-is at c.in-Err-Memory.ensures.cause.caused)

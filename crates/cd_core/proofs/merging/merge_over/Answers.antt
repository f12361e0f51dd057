use Rattle.std.proofs.Common.{◌+◌, ◌*◌, List, length, refl, sym, ap, ◌∙◌}
use Rattle.cd_block.specs.declared.block.BlockId.{BlockId}
use Rattle.cd_world.specs.declared.world.World.{World}
use Rattle.cd_world.specs.Changes.{stored, without_pins}
use Rattle.cd_world.specs.Machine.{unmergeable}
use Rattle.cd_count.specs.Changes.{Rows}
use Rattle.cd_core.specs.Merging.{rows_of_ends}
use Rattle.cd_core.proofs.MergeDid.{merge-refused, merge-failed, merge-wanting, merge-judged, merge-once, merge-writable, merge-stored, merge-quiet, merge-reads}
use Rattle.cd_core.proofs.merging.merge_over.Goals as goal

pub returns-in-Some-merge_refusal-clause-did : goal.returns-in-Some-merge_refusal-clause-did
returns-in-Some-merge_refusal-clause-did g c =
    let k = g.K.Keeper in
    let fault = c.in-Some-merge_refusal in
    merge-refused g.row.H.Denot k.held g.H.Hash32.digest_of k.trail k.batches k.faults c.args.limit c.args.world.now c.args.keeper.now c.args.who c.args.pin c.args.other c.args.id.now c.args.tops.now c.args.prepared.now c.requires.kept
    (rows_of_ends c.in-Some.ends) (sym c.in-Some.ensures) fault.fault fault.ensures.kind fault.ensures.refusal

pub returns-in_default-stored_descr-clause-did : goal.returns-in_default-stored_descr-clause-did
returns-in_default-stored_descr-clause-did g c =
    let k = g.K.Keeper in
    let plan = c.in-Ok-plan_state.ensures in
    let cause = plan.cause in
    merge-wanting g.row.H.Denot k.held g.H.Hash32.digest_of k.trail k.batches k.faults c.args.limit c.args.world.now c.args.keeper.now c.args.who c.args.pin c.args.other c.args.id.now c.args.tops.now c.args.prepared.now c.requires.kept
    c.args.world.now c.args.keeper.now c.plan_state.new.keeper refl (record { same_held = refl; same_trail = refl; same_batches = refl }) plan.keeps refl cause.steady

pub returns-in_default-list_going-clause-did : goal.returns-in_default-list_going-clause-did
returns-in_default-list_going-clause-did g c =
    let k = g.K.Keeper in
    let plan = c.in-Ok-plan_state.ensures in
    let cause = plan.cause in
    merge-wanting g.row.H.Denot k.held g.H.Hash32.digest_of k.trail k.batches k.faults c.args.limit c.args.world.now c.args.keeper.now c.args.who c.args.pin c.args.other c.args.id.now c.args.tops.now c.args.prepared.now c.requires.kept
    c.args.world.now c.args.keeper.now c.plan_state.new.keeper refl (record { same_held = refl; same_trail = refl; same_batches = refl }) plan.keeps refl cause.steady

pub returns-in-Err-Failed-clause-did : goal.returns-in-Err-Failed-clause-did
returns-in-Err-Failed-clause-did g c =
    let k = g.K.Keeper in
    let plan = c.in-Ok-plan_state.ensures in
    let cause = plan.cause in
    let after = c.in-Err-Failed.ensures.cause in
    merge-failed g.row.H.Denot k.held g.H.Hash32.digest_of k.trail k.batches k.faults c.args.limit c.args.world.now c.args.keeper.now c.args.who c.args.pin c.args.other c.args.id.now c.args.tops.now c.args.prepared.now c.requires.kept
    c.store_without.new.world c.plan_state.new.keeper c.store_without.new.keeper c.in-Err-Failed.ensures.still
    (sym (c.in_default-merge_refusal.ensures.refusal ∙ ap (unmergeable g.H.Hash32.digest_of c.args.world.now c.args.id.now c.args.prepared.now) c.in-Some.ensures))
    plan.keeps c.in-Err-Failed.ensures.undone cause.steady after.later (rw c.in-Err-Failed.field-0-is at c.in-Err-Failed.ensures.cause.caused)

pub returns-clause-did : goal.returns-clause-did
returns-clause-did g c =
    let k = g.K.Keeper in
    let plan = c.in-Ok-plan_state.ensures in
    let cause = plan.cause in
    merge-wanting g.row.H.Denot k.held g.H.Hash32.digest_of k.trail k.batches k.faults c.args.limit c.args.world.now c.args.keeper.now c.args.who c.args.pin c.args.other c.args.id.now c.args.tops.now c.args.prepared.now c.requires.kept
    c.store_without.new.world c.plan_state.new.keeper c.store_without.new.keeper c.in-Err-Memory.ensures.still plan.keeps c.in-Err-Memory.ensures.undone cause.steady
    (rw c.in-Err-Memory.field-0-is at c.in-Err-Memory.ensures.cause.caused)

pub returns-in-Err-clause-did : goal.returns-in-Err-clause-did
returns-in-Err-clause-did g c =
    let k = g.K.Keeper in
    let plan = c.in-Err.ensures in
    let cause = plan.cause in
    merge-judged g.row.H.Denot k.held g.H.Hash32.digest_of k.trail k.batches k.faults c.args.limit c.args.world.now c.args.keeper.now c.args.who c.args.pin c.args.other c.args.id.now c.args.tops.now c.args.prepared.now c.requires.kept
    (rows_of_ends c.in-Some.ends) (sym c.in-Some.ensures) (sym c.in_default-merge_refusal.ensures.refusal) Rows c.plan_state.new.keeper c.in-Err.fault c.merge_fault.result c.merge_fault.ensures c.requires.fits
    plan.keeps cause.later cause.caused c.as_slice-2.result.now (c.as_slice-2.ensures.value ∙ c.in-Ok.ensures) plan.judged

pub store_without-requires-clause-once : goal.store_without-requires-clause-once
store_without-requires-clause-once g c =
    let k = g.K.Keeper in
    let plan = c.in-Ok-plan_state.ensures in
    merge-once g.row.H.Denot k.held g.H.Hash32.digest_of k.trail k.batches k.faults c.args.limit c.args.world.now c.args.keeper.now c.args.who c.args.pin c.args.other c.args.id.now c.args.tops.now c.args.prepared.now c.requires.kept
    (rows_of_ends c.in-Some.ends) (sym c.in-Some.ensures) (sym c.in_default-merge_refusal.ensures.refusal) plan.storable c.as_slice-3.result.now (c.as_slice-3.ensures.value ∙ c.in-Ok.ensures) c.in-Ok-stored_descr.descr c.in-Ok-stored_descr.ensures
    c.in-Ok-list_going.going.roots.items c.in-Ok-list_going.going.ids.items c.in-Ok-list_going.ensures

pub end_all-requires : goal.end_all-requires
end_all-requires g c =
    let k = g.K.Keeper in
    let plan = c.in-Ok-plan_state.ensures in
    merge-writable g.row.H.Denot k.held g.H.Hash32.digest_of k.trail k.batches k.faults c.args.limit c.args.world.now c.args.keeper.now c.args.who c.args.pin c.args.other c.args.id.now c.args.tops.now c.args.prepared.now c.requires.kept
    (rows_of_ends c.in-Some.ends) (sym c.in-Some.ensures) (sym c.in_default-merge_refusal.ensures.refusal) plan.storable c.as_slice-3.result.now (c.as_slice-3.ensures.value ∙ c.in-Ok.ensures) c.in-Ok-stored_descr.descr c.in-Ok-stored_descr.ensures c.store_without.new.world c.in-Ok-store_without.ensures.world

pub returns-in-Ok-store_without-clause-did : goal.returns-in-Ok-store_without-clause-did
returns-in-Ok-store_without-clause-did g c =
    let k = g.K.Keeper in
    let plan = c.in-Ok-plan_state.ensures in
    let cause = plan.cause in
    let after = c.in-Ok-store_without.ensures.cause in
    let made = c.in-Ok-store_without.ensures.made in
    let rows = rows_of_ends c.in-Some.ends in
    let same = c.as_slice-3.ensures.value ∙ sym c.as_slice-2.ensures.value in
    merge-stored g.row.H.Denot k.held g.H.Hash32.digest_of k.trail k.batches k.faults c.args.limit c.args.world.now c.args.keeper.now c.args.who c.args.pin c.args.other c.args.id.now c.args.tops.now c.args.prepared.now c.requires.kept
    (rows_of_ends c.in-Some.ends) (sym c.in-Some.ensures) (sym c.in_default-merge_refusal.ensures.refusal) c.requires.fits c.plan_state.new.keeper plan.keeps c.in-Ok-plan_state.plan
    c.in-Ok-list_going.going.roots.items c.in-Ok-list_going.going.ids.items c.in-Ok-list_going.ensures c.as_slice-2.result.now (c.as_slice-2.ensures.value ∙ c.in-Ok.ensures) plan.planned
    c.requires.limit plan.storable cause.steady made.0 c.store_without.new.keeper c.answer_of.result c.end_all.new.world
    c.in-Ok-stored_descr.descr (c.in-Ok-stored_descr.ensures ∙ ap (λ (ps : List BlockId). stored c.args.id.now ps c.args.tops.now c.args.prepared.now) same)
    (c.end_all.ensures ∙ ap (λ (w : World). without_pins w rows) c.in-Ok-store_without.ensures.world)
    made.1 made.2 after.steady Rows c.in-Ok-plan_state.plan plan.judged

pub returns-in-Ok-store_without-clause-quiet : goal.returns-in-Ok-store_without-clause-quiet
returns-in-Ok-store_without-clause-quiet g c =
    let k = g.K.Keeper in
    merge-quiet g.row.H.Denot k.held g.H.Hash32.digest_of k.trail k.batches k.faults c.args.limit c.args.world.now c.args.keeper.now c.args.who c.args.pin c.args.other c.args.id.now c.args.tops.now c.args.prepared.now c.requires.kept
    (rows_of_ends c.in-Some.ends) (sym c.in-Some.ensures) (sym c.in_default-merge_refusal.ensures.refusal) c.in-Ok-list_going.going.roots.items c.in-Ok-list_going.going.ids.items c.in-Ok-list_going.ensures
    (k.reads c.args.keeper.now) (k.reads c.plan_state.new.keeper) (k.reads c.store_without.new.keeper) (5 * length c.args.prepared.now.cells + 1) c.in-Ok-plan_state.ensures.reads c.store_without.ensures.quiet

pub returns-in-Ok-store_without-clause-reads : goal.returns-in-Ok-store_without-clause-reads
returns-in-Ok-store_without-clause-reads g c =
    let k = g.K.Keeper in
    let plan = c.in-Ok-plan_state.ensures in
    merge-reads g.row.H.Denot k.held g.H.Hash32.digest_of k.trail k.batches k.faults c.args.limit c.args.world.now c.args.keeper.now c.args.who c.args.pin c.args.other c.args.id.now c.args.tops.now c.args.prepared.now c.requires.kept
    (rows_of_ends c.in-Some.ends) (sym c.in-Some.ensures) (sym c.in_default-merge_refusal.ensures.refusal) c.requires.fits c.plan_state.new.keeper plan.keeps c.in-Ok-plan_state.plan
    c.in-Ok-list_going.going.roots.items c.in-Ok-list_going.going.ids.items c.in-Ok-list_going.ensures c.as_slice-2.result.now (c.as_slice-2.ensures.value ∙ c.in-Ok.ensures) plan.planned
    (k.reads c.args.keeper.now) (k.reads c.plan_state.new.keeper) (k.reads c.store_without.new.keeper) (5 * length c.args.prepared.now.cells + 1) plan.reads c.store_without.ensures.reads

pub returns-in-Err-Failed-clause-quiet : goal.returns-in-Err-Failed-clause-quiet
returns-in-Err-Failed-clause-quiet g c =
    let k = g.K.Keeper in
    merge-quiet g.row.H.Denot k.held g.H.Hash32.digest_of k.trail k.batches k.faults c.args.limit c.args.world.now c.args.keeper.now c.args.who c.args.pin c.args.other c.args.id.now c.args.tops.now c.args.prepared.now c.requires.kept
    (rows_of_ends c.in-Some.ends) (sym c.in-Some.ensures) (sym c.in_default-merge_refusal.ensures.refusal) c.in-Ok-list_going.going.roots.items c.in-Ok-list_going.going.ids.items c.in-Ok-list_going.ensures
    (k.reads c.args.keeper.now) (k.reads c.plan_state.new.keeper) (k.reads c.store_without.new.keeper) (5 * length c.args.prepared.now.cells + 1) c.in-Ok-plan_state.ensures.reads c.store_without.ensures.quiet

pub returns-in-Err-Failed-clause-reads : goal.returns-in-Err-Failed-clause-reads
returns-in-Err-Failed-clause-reads g c =
    let k = g.K.Keeper in
    let plan = c.in-Ok-plan_state.ensures in
    merge-reads g.row.H.Denot k.held g.H.Hash32.digest_of k.trail k.batches k.faults c.args.limit c.args.world.now c.args.keeper.now c.args.who c.args.pin c.args.other c.args.id.now c.args.tops.now c.args.prepared.now c.requires.kept
    (rows_of_ends c.in-Some.ends) (sym c.in-Some.ensures) (sym c.in_default-merge_refusal.ensures.refusal) c.requires.fits c.plan_state.new.keeper plan.keeps c.in-Ok-plan_state.plan
    c.in-Ok-list_going.going.roots.items c.in-Ok-list_going.going.ids.items c.in-Ok-list_going.ensures c.as_slice-2.result.now (c.as_slice-2.ensures.value ∙ c.in-Ok.ensures) plan.planned
    (k.reads c.args.keeper.now) (k.reads c.plan_state.new.keeper) (k.reads c.store_without.new.keeper) (5 * length c.args.prepared.now.cells + 1) plan.reads c.store_without.ensures.reads

pub returns-clause-quiet : goal.returns-clause-quiet
returns-clause-quiet g c =
    let k = g.K.Keeper in
    merge-quiet g.row.H.Denot k.held g.H.Hash32.digest_of k.trail k.batches k.faults c.args.limit c.args.world.now c.args.keeper.now c.args.who c.args.pin c.args.other c.args.id.now c.args.tops.now c.args.prepared.now c.requires.kept
    (rows_of_ends c.in-Some.ends) (sym c.in-Some.ensures) (sym c.in_default-merge_refusal.ensures.refusal) c.in-Ok-list_going.going.roots.items c.in-Ok-list_going.going.ids.items c.in-Ok-list_going.ensures
    (k.reads c.args.keeper.now) (k.reads c.plan_state.new.keeper) (k.reads c.store_without.new.keeper) (5 * length c.args.prepared.now.cells + 1) c.in-Ok-plan_state.ensures.reads c.store_without.ensures.quiet

pub returns-clause-reads : goal.returns-clause-reads
returns-clause-reads g c =
    let k = g.K.Keeper in
    let plan = c.in-Ok-plan_state.ensures in
    merge-reads g.row.H.Denot k.held g.H.Hash32.digest_of k.trail k.batches k.faults c.args.limit c.args.world.now c.args.keeper.now c.args.who c.args.pin c.args.other c.args.id.now c.args.tops.now c.args.prepared.now c.requires.kept
    (rows_of_ends c.in-Some.ends) (sym c.in-Some.ensures) (sym c.in_default-merge_refusal.ensures.refusal) c.requires.fits c.plan_state.new.keeper plan.keeps c.in-Ok-plan_state.plan
    c.in-Ok-list_going.going.roots.items c.in-Ok-list_going.going.ids.items c.in-Ok-list_going.ensures c.as_slice-2.result.now (c.as_slice-2.ensures.value ∙ c.in-Ok.ensures) plan.planned
    (k.reads c.args.keeper.now) (k.reads c.plan_state.new.keeper) (k.reads c.store_without.new.keeper) (5 * length c.args.prepared.now.cells + 1) plan.reads c.store_without.ensures.reads

use Rattle.std.proofs.Common.{◌+◌, ◌*◌, ◌≤◌, List, map, length, sym, ap, ◌∙◌, subst}
use Rattle.cd_base.specs.declared.hash.Hash256.{Hash256}
use Rattle.cd_keeper.specs.Shown.{hash_bytes}
use Rattle.cd_core.proofs.Expired.{fit-left, once-in, passed-leads, passed-reads}
use Rattle.cd_core.proofs.Places.{on-ok-then}
use Rattle.cd_core.proofs.expiring.drop_passed.Goals as goal

pub into_batch-requires-clause-fit : goal.into_batch-requires-clause-fit
into_batch-requires-clause-fit g c = fit-left c.args.world.now c.args.master.now c.requires.kept c.args.passed.leaving.items c.requires.passed.leaving_are

pub into_batch-requires-clause-once : goal.into_batch-requires-clause-once
into_batch-requires-clause-once g c =
    once-in c.args.world.now c.args.master.now c.requires.kept c.args.passed.gone.items c.args.passed.leaving.items c.requires.passed.gone_are c.requires.passed.leaving_are

pub returns-clause-done : goal.returns-clause-done
returns-clause-done g c =
    let k = g.K.Keeper in
    let H = g.H.Hash32.digest_of in
    let is = c.requires.passed in
    let made = c.in-Ok-into_batch.ensures in
    on-ok-then c.apply.result _ _ (λ applied.
    passed-leads k.held H k.trail k.batches c.args.world.now c.args.master.now c.requires.kept c.args.keeper.now c.plan_going.new.keeper c.apply.new.self c.in-Ok.plan
    c.args.passed.roots.items c.args.passed.gone.items c.args.passed.leaving.items is.roots_are is.gone_are is.leaving_are c.in-Ok.ensures.keeps
    (λ t left gone h together named. c.in-Ok.ensures.dropped t left gone h together (named ∙ ap (map hash_bytes) (sym c.as_slice.ensures.value)))
    c.in-Ok-into_batch.batch made.cells made.bytes made.puts made.drops applied)
    c.apply.ensures.done

pub returns-in-Err-clause-reads : goal.returns-in-Err-clause-reads
returns-in-Err-clause-reads g c =
    let k = g.K.Keeper in
    let is = c.requires.passed in
    passed-reads k.held g.H.Hash32.digest_of k.trail k.batches c.args.world.now c.args.master.now c.requires.kept (k.reads c.args.keeper.now) (k.reads c.plan_going.new.keeper) c.args.keeper.now c.args.passed.roots.items is.roots_are
    (λ t left gone dead h together named ended. subst (λ (rs : List Hash256). k.reads c.plan_going.new.keeper ≤ k.reads c.args.keeper.now + (4 * length dead + length rs)) c.as_slice.ensures.value (c.plan_going.ensures.reads t left gone dead h together (named ∙ ap (map hash_bytes) (sym c.as_slice.ensures.value)) ended))

pub returns-in_default-clause-reads : goal.returns-in_default-clause-reads
returns-in_default-clause-reads g c =
    let k = g.K.Keeper in
    let is = c.requires.passed in
    passed-reads k.held g.H.Hash32.digest_of k.trail k.batches c.args.world.now c.args.master.now c.requires.kept (k.reads c.args.keeper.now) (k.reads c.plan_going.new.keeper) c.args.keeper.now c.args.passed.roots.items is.roots_are
    (λ t left gone dead h together named ended. subst (λ (rs : List Hash256). k.reads c.plan_going.new.keeper ≤ k.reads c.args.keeper.now + (4 * length dead + length rs)) c.as_slice.ensures.value (c.plan_going.ensures.reads t left gone dead h together (named ∙ ap (map hash_bytes) (sym c.as_slice.ensures.value)) ended))

pub returns-clause-reads : goal.returns-clause-reads
returns-clause-reads g c =
    let k = g.K.Keeper in
    let is = c.requires.passed in
    passed-reads k.held g.H.Hash32.digest_of k.trail k.batches c.args.world.now c.args.master.now c.requires.kept (k.reads c.args.keeper.now) (k.reads c.apply.new.self) c.args.keeper.now c.args.passed.roots.items is.roots_are
    (λ t left gone dead h together named ended. subst (λ n. n ≤ k.reads c.args.keeper.now + (4 * length dead + length c.args.passed.roots.items)) (sym c.apply.ensures.reads) (subst (λ (rs : List Hash256). k.reads c.plan_going.new.keeper ≤ k.reads c.args.keeper.now + (4 * length dead + length rs)) c.as_slice.ensures.value (c.plan_going.ensures.reads t left gone dead h together (named ∙ ap (map hash_bytes) (sym c.as_slice.ensures.value)) ended)))

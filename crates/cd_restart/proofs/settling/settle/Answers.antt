use Rattle.std.proofs.Common.{◌≡◌, [], ◌∷◌, ◌++◌, None, refl, sym, ap, ◌∙◌, subst}
use Rattle.cd_world.specs.declared.world.World.{World}
use Rattle.cd_world.specs.Machine.{replay}
use Rattle.cd_core.specs.declared.start.CoreStart.{CoreStart}
use Rattle.cd_core.specs.Cores.{opened, world_of}
use Rattle.cd_core.specs.Settling.{first_leaving, without_leaving}
use Rattle.cd_restart.proofs.Settlings.{settling-start, settling-more, settling-same}
use Rattle.cd_restart.proofs.settling.settle.Goals as goal

pub settling-init : goal.settling-init
settling-init g c = record {
  journal = c.requires;
  settling = ([], settling-start g.H.Hash32.digest_of g.K.Keeper c.args.core.now);
  begun = λ is. is;
  steady = refl;
}

pub settling-preserved : goal.settling-preserved
settling-preserved g c =
    let so = c.settling.invariant in
    let passed = so.settling in
    record {
      journal = c.in-Ok-Some.ensures.journal;
      settling = (
        passed.0 ++ without_leaving (world_of c.settling.core) ∷ [],
        settling-more g.H.Hash32.digest_of g.K.Keeper c.args.core.now c.settling.core c.settle_next.new.self passed.0 c.in-Ok-Some.field-0-0 c.in-Ok-Some.ensures.journal passed.1
            (rw c.in-Ok-Some.field-0-is at c.in-Ok-Some.ensures.settles),
      );
      begun = λ is. (let settled = rw c.in-Ok-Some.field-0-is at c.in-Ok-Some.ensures.settles in settled.keeper);
      steady = c.in-Ok-Some.ensures.cause.steady refl ∙ so.steady;
    }

pub returns-in-Ok-None-clause-settling : goal.returns-in-Ok-None-clause-settling
returns-in-Ok-None-clause-settling g c =
    let k = g.K.Keeper in
    let so = c.settling.invariant in
    let passed = so.settling in
    let none = rw c.in-Ok-None.field-0-is at c.in-Ok-None.ensures.settles in (
      passed.0,
      settling-same g.H.Hash32.digest_of k c.args.core.now c.settling.core c.settle_next.new.self passed.0 none.2
          (c.in-Ok-None.ensures.journal ∙ sym so.journal) (ap k.held none.3) (ap k.trail none.3) passed.1,
    )

pub returns-in-Ok-None-clause-all : goal.returns-in-Ok-None-clause-all
returns-in-Ok-None-clause-all g c =
    let so = c.settling.invariant in
    let none = rw c.in-Ok-None.field-0-is at c.in-Ok-None.ensures.settles in
    let same : world_of c.settling.core ≡ world_of c.settle_next.new.self =
    λ i. replay (sym none.2 i).world.value ((so.journal ∙ sym c.in-Ok-None.ensures.journal) i) in
    subst (λ (w : World). (first_leaving w ≡ None) × (w ≡ opened w.blocks)) same (none.0, none.1)

pub returns-in-Ok-None-clause-begun : goal.returns-in-Ok-None-clause-begun
returns-in-Ok-None-clause-begun g c =
    let so = c.settling.invariant in
    let none = rw c.in-Ok-None.field-0-is at c.in-Ok-None.ensures.settles in
    λ is. ap (λ (s : CoreStart g.row.K.Denot). s.keeper.value) none.2 ∙ so.begun is ∙ sym none.3

pub returns-in-Err-clause-settling : goal.returns-in-Err-clause-settling
returns-in-Err-clause-settling g c =
    let so = c.settling.invariant in
    let passed = so.settling in
    let kept = c.in-Err.ensures.settles in (
      passed.0,
      settling-same g.H.Hash32.digest_of g.K.Keeper c.args.core.now c.settling.core c.settle_next.new.self passed.0 kept.0
          (c.in-Err.ensures.journal ∙ sym so.journal) kept.1.same_held kept.1.same_trail passed.1,
    )

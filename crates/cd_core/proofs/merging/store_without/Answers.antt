use Rattle.std.proofs.Common.{List, sym, subst}
use Rattle.cd_base.specs.declared.hash.Hash256.{Hash256}
use Rattle.cd_core.specs.Merging.{IsDropRead}
use Rattle.cd_core.proofs.merging.store_without.Goals as goal

pub returns-in-Ok-clause-reads : goal.returns-in-Ok-clause-reads
returns-in-Ok-clause-reads g c =
    let k = g.K.Keeper in
    subst (λ n. IsDropRead k.held g.H.Hash32.digest_of c.args.keeper.now c.args.plan c.args.going.roots.items (k.reads c.args.keeper.now) n) (sym c.store_block.ensures.reads)
    (subst (λ (rs : List Hash256). IsDropRead k.held g.H.Hash32.digest_of c.args.keeper.now c.args.plan rs (k.reads c.args.keeper.now) (k.reads c.plan_ended.new.keeper)) c.as_slice.ensures.value c.plan_ended.ensures.reads)

pub returns-in-Err-clause-reads : goal.returns-in-Err-clause-reads
returns-in-Err-clause-reads g c =
    let k = g.K.Keeper in
    subst (λ (rs : List Hash256). IsDropRead k.held g.H.Hash32.digest_of c.args.keeper.now c.args.plan rs (k.reads c.args.keeper.now) (k.reads c.plan_ended.new.keeper)) c.as_slice.ensures.value c.plan_ended.ensures.reads

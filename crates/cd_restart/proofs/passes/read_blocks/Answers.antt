use Rattle.std.proofs.Common.{ℕ, List, Option, Some, None, Ok, IfSome, refl, sym, ap₂, ◌∙◌, subst}
use Rattle.std.specs.FinMap as finite
use Rattle.cd_block.specs.declared.description.Descr.{Descr}
use Rattle.cd_keeper.specs.Contents.{Contents}
use Rattle.cd_restart.specs.ScanFaults.{desc_fault}
use Rattle.cd_restart.specs.Walks.{IsNext, IsBlockNext, AreBlocksRead, AreBlocksTo}
use Rattle.cd_restart.proofs.PassSteps.{blocks-start, blocks-more}
use Rattle.cd_restart.proofs.BlocksInOrder.{none-to, more-to, fit-to}
use Rattle.cd_restart.proofs.ToldContents.{if_some-all, if_some-both}
use Rattle.cd_restart.proofs.passes.read_blocks.Goals as goal

pub reading-init : goal.reading-init
reading-init g c = record {
  read = if_some-all (λ (contents : Contents). AreBlocksRead (finite.entries contents.descs) None c.new-all.result.items) (g.K.Keeper.held c.args.keeper.now)
      (λ contents. subst (AreBlocksRead (finite.entries contents.descs) None) (sym c.new-all.ensures.items) (blocks-start (finite.entries contents.descs)));
  to = subst (AreBlocksTo None) (sym c.new-all.ensures.items) none-to;
  keeps = record { same_held = refl; same_trail = refl; same_batches = refl };
  steady = refl;
}

pub reading-preserved : goal.reading-preserved
reading-preserved g c =
    let so = c.reading.invariant in
    let step = c.in_ok-block.ensures in
    let block = c.in-Some.block in
    let after = c.reading.after in
    let blocks = c.reading.all in
    let next = λ (contents : Contents). IsNext desc_fault IsBlockNext (finite.entries contents.descs) after (Ok c.in_ok-block.field-0) in
    let before = λ (contents : Contents). AreBlocksRead (finite.entries contents.descs) after blocks.items in
    let later = λ (contents : Contents). AreBlocksRead (finite.entries contents.descs) (Some c.to_key.result) c.push.new.self.items in
    record {
      read = if_some-both before next later (g.K.Keeper.held c.args.keeper.now) so.read
          (subst (λ (o : Option Contents). IfSome o next) so.keeps.same_held step.next)
          (λ contents a b.
          let es = finite.entries contents.descs in
          let is = subst (λ (o : Option Descr). IsNext desc_fault IsBlockNext es after (Ok o)) c.in-Some.is b in
          subst (λ (x : List ℕ × List Descr). AreBlocksRead es (Some x.0) x.1)
          (ap₂ (λ (k : List ℕ) (ds : List Descr). (k, ds)) (sym c.to_key.ensures) (sym c.in_ok-push.ensures.items))
          (blocks-more es after blocks.items a block is));
      to = subst (λ (x : List ℕ × List Descr). AreBlocksTo (Some x.0) x.1)
          (ap₂ (λ (k : List ℕ) (ds : List Descr). (k, ds)) (sym c.to_key.ensures) (sym c.in_ok-push.ensures.items))
          (more-to after blocks.items block so.to (rw c.in-Some.is at step.above));
      keeps = record {
        same_held = step.keeps.same_held ∙ so.keeps.same_held;
        same_trail = step.keeps.same_trail ∙ so.keeps.same_trail;
        same_batches = step.keeps.same_batches ∙ so.keeps.same_batches;
      };
      steady = step.cause.steady ∙ so.steady;
    }

pub returns-in_default-clause-written : goal.returns-in_default-clause-written
returns-in_default-clause-written g c = let so = c.reading.invariant in fit-to c.reading.after c.reading.all.items so.to

use Rattle.std.proofs.Common.{◌≡◌, ℕ, ◌+◌, ◌*◌, ◌<◌, ◌≤◌, List, map, length, Option, Some, IfSome, subst, ◌∙◌, arith}
use Rattle.cd_base.specs.declared.hash.Hash256.{Hash256}
use Rattle.cd_cell.specs.Tree.{Tree}
use Rattle.cd_keeper.specs.Contents.{Contents}
use Rattle.cd_keeper.specs.Shown.{hash_bytes}
use Rattle.std.specs.BTreeMap as tree
use Rattle.cd_cell.specs.Export.{hash_cmp}
use Rattle.cd_world.specs.World.{World, Block}
use Rattle.cd_count.specs.declared.rows.Row.{Row}
use Rattle.cd_count.specs.Changes.{states, rep_bytes, AreTogether, AreAdded, AreDeadCells}
use Rattle.cd_count.specs.PlanWorlds.{IsReadable, IsDropped}
use Rattle.cd_count.specs.PlanRows.{rows_of}
use Rattle.cd_count.specs.PlanSteps.{RowMap, kid_bytes, AreTaken}
use Rattle.cd_count.specs.Reading.{stored_in}
use Rattle.cd_count.proofs.Drops.{IsGoing, going-begun, going-next, going-few, going-ended}
use Rattle.cd_count.proofs.Steps.{if_some-map, if_both}
use Rattle.cd_count.proofs.plan.drop_roots.Goals as goal

abbrev Goes : RowMap → List Hash256 → RowMap → List Hash256 → ℕ → Contents → Type 0
Goes rows0 roots rows dead next contents =
    (H : List ℕ → Hash256) (old grown left : World) (come gone : List Block) (news : List Tree)
    (readable : IsReadable H old contents) (added : AreAdded H old grown come news (rows_of rows0.entries)) (went : AreTogether H left.blocks gone grown.blocks)
    → map (rep_bytes H) (states gone) ≡ map hash_bytes roots
    → IsGoing H contents old grown left come gone news readable rows0 added went rows dead next

pub loop-next-init : goal.loop-next-init
loop-next-init g c =
    let took = c.in_ok-take_references.ensures in
    let rows0 = c.args.rows.now in
    let roots = c.args.roots.now in
    let rows = c.take_references.new.rows in
    let dead = c.take_references.new.dead.items in
    record {
      within = omega arith;
      going = if_some-map (λ (contents : Contents). AreTaken (stored_in contents) rows0 c.new-dead.result.items (map hash_bytes roots) rows dead)
          (Goes rows0 roots rows dead 0) (g.K.Keeper.held c.args.keeper.now) took.taken
          (λ contents taken H old grown left come gone news readable added went named.
          going-begun H contents old grown left come gone news readable rows0 added went roots rows dead named
          (subst (λ (ds : List Hash256). AreTaken (stored_in contents) rows0 ds (map hash_bytes roots) rows dead) c.new-dead.ensures.items taken));
      keeps = took.keeps;
      fit = took.fit;
      steady = took.cause.steady;
      reads = omega (arith, took.reads);
    }

pub loop-next-preserved : goal.loop-next-preserved
loop-next-preserved g c =
    let so = c.loop-next.invariant in
    let step = c.in_ok-take_kids.ensures in
    let rows0 = c.args.rows.now in
    let roots = c.args.roots.now in
    let hash = c.index.result.now in
    let rows' = c.take_kids.new.rows in
    let dead' = c.take_kids.new.dead.items in
    let within : c.loop-next.next < length c.loop-next.dead.items = omega (arith, c.len.ensures, c.loop-next-test.true) in
    let Taken = λ (contents : Contents). (row : Row) → tree.get hash_cmp c.loop-next.rows hash ≡ Some row → AreTaken (stored_in contents) c.loop-next.rows c.loop-next.dead.items (kid_bytes row.face) rows' dead' in
    record {
      within = omega (arith, within, step.longer);
      going = if_both (Goes rows0 roots c.loop-next.rows c.loop-next.dead.items c.loop-next.next) Taken (Goes rows0 roots rows' dead' (c.loop-next.next + 1))
          (g.K.Keeper.held c.args.keeper.now) so.going (subst (λ (o : Option Contents). IfSome o Taken) so.keeps.same_held step.taken)
          (λ contents going taken H old grown left come gone news readable added went named.
          going-next H contents old grown left come gone news readable rows0 added went c.loop-next.rows c.loop-next.dead.items c.loop-next.next
          (going H old grown left come gone news readable added went named) within hash c.index.ensures rows' dead' taken);
      keeps = record {
        same_held = step.keeps.same_held ∙ so.keeps.same_held;
        same_trail = step.keeps.same_trail ∙ so.keeps.same_trail;
        same_batches = step.keeps.same_batches ∙ so.keeps.same_batches;
      };
      fit = λ fit. step.fit (so.fit fit);
      steady = step.cause.steady ∙ so.steady;
      reads = omega (arith, step.reads, so.reads);
    }

pub returns-clause-dropped : goal.returns-clause-dropped
returns-clause-dropped g c =
    let so = c.loop-next.invariant in
    if_some-map (Goes c.args.rows.now c.args.roots.now c.loop-next.rows c.loop-next.dead.items c.loop-next.next)
    (λ (contents : Contents). (H : List ℕ → Hash256) (old grown left : World) (come gone : List Block) (news : List Tree)
    → IsReadable H old contents → AreAdded H old grown come news (rows_of c.args.rows.now.entries) → AreTogether H left.blocks gone grown.blocks
    → map (rep_bytes H) (states gone) ≡ map hash_bytes c.args.roots.now → IsDropped H old grown come gone news c.loop-next.rows c.loop-next.dead.items)
    (g.K.Keeper.held c.args.keeper.now) so.going
    (λ contents going H old grown left come gone news readable added went named.
    going-ended H contents old grown left come gone news readable c.args.rows.now added went c.loop-next.rows c.loop-next.dead.items c.loop-next.next
    (going H old grown left come gone news readable added went named) (omega (arith, c.len.ensures, c.loop-next-test.false)))

-- what is read is within the bound of the cells that go
abbrev ReadBy : RowMap → List Hash256 → ℕ → ℕ → Contents → Type 0
ReadBy rows0 roots before after contents =
    (H : List ℕ → Hash256) (old grown left : World) (come gone : List Block) (news dead : List Tree)
    → IsReadable H old contents → AreAdded H old grown come news (rows_of rows0.entries) → AreTogether H left.blocks gone grown.blocks
    → map (rep_bytes H) (states gone) ≡ map hash_bytes roots → AreDeadCells H grown.blocks gone dead
    → after ≤ before + (4 * length dead + length roots)

-- since it is within that of those that are dead so far
read-by : (rows0 : RowMap) (roots : List Hash256) (rows : RowMap) (dead : List Hash256) (next before after : ℕ) → after ≤ before + (length roots + 4 * length dead)
    → (contents : Contents) → Goes rows0 roots rows dead next contents → ReadBy rows0 roots before after contents
read-by rows0 roots rows dead next before after few contents going H old grown left come gone news all readable added went named are =
    let n = going-few H contents old grown left come gone news readable rows0 added went rows dead next (going H old grown left come gone news readable added went named) all are in
    omega arith

pub returns-in_err-take_kids-clause-reads : goal.returns-in_err-take_kids-clause-reads
returns-in_err-take_kids-clause-reads g c =
    let so = c.loop-next.invariant in
    let rows0 = c.args.rows.now in
    let roots = c.args.roots.now in
    let dead = c.loop-next.dead.items in
    let within : c.loop-next.next < length dead = omega (arith, c.len.ensures, c.loop-next-test.true) in
    let before = g.K.Keeper.reads c.args.keeper.now in
    let after = g.K.Keeper.reads c.take_kids.new.keeper in
    let few : after ≤ before + (length roots + 4 * length dead) = omega (arith, c.in_err-take_kids.ensures.reads, so.reads, within) in
    if_some-map (Goes rows0 roots c.loop-next.rows dead c.loop-next.next) (ReadBy rows0 roots before after) (g.K.Keeper.held c.args.keeper.now) so.going
    (read-by rows0 roots c.loop-next.rows dead c.loop-next.next before after few)

pub returns-clause-reads : goal.returns-clause-reads
returns-clause-reads g c =
    let so = c.loop-next.invariant in
    let rows0 = c.args.rows.now in
    let roots = c.args.roots.now in
    let dead = c.loop-next.dead.items in
    let before = g.K.Keeper.reads c.args.keeper.now in
    let after = g.K.Keeper.reads c.loop-next.keeper in
    let few : after ≤ before + (length roots + 4 * length dead) = omega (arith, so.reads, so.within) in
    if_some-map (Goes rows0 roots c.loop-next.rows dead c.loop-next.next) (ReadBy rows0 roots before after) (g.K.Keeper.held c.args.keeper.now) so.going
    (read-by rows0 roots c.loop-next.rows dead c.loop-next.next before after few)

use Rattle.std.proofs.Common.{◌≡◌, ℕ, ◌+◌, ◌*◌, ◌≤◌, List, map, length, Option, None, Some, IfSome, subst, sym}
use Rattle.cd_base.specs.declared.hash.Hash256.{Hash256}
use Rattle.cd_cell.specs.Tree.{Tree}
use Rattle.cd_keeper.specs.Contents.{Contents}
use Rattle.cd_keeper.specs.Shown.{hash_bytes}
use Rattle.cd_world.specs.World.{World, Block}
use Rattle.cd_count.specs.PlanSteps.{RowMap}
use Rattle.cd_count.specs.Changes.{Rows, states, rep_bytes, AreTogether, AreCounted, AreAdded, AreDeadCells}
use Rattle.cd_count.specs.PlanRows.{rows_of}
use Rattle.cd_count.specs.PlanWorlds.{IsReadable, IsDropped}
use Rattle.cd_count.proofs.BatchKeys.{once-sorted}
use Rattle.cd_count.proofs.Drops.{dropped-counted}
use Rattle.cd_count.proofs.Readable.{readable}
use Rattle.cd_count.proofs.Steps.{if_some-map}
use Rattle.cd_count.specs.SoundContents.{AreSoundContents}
use Rattle.cd_world.specs.Told.{ToldWorld, shown}
use Rattle.cd_count.proofs.plan.plan_drop.Goals as goal

pub returns-clause-dropped : goal.returns-clause-dropped
returns-clause-dropped g c =
    let rows0 = c.plan.inside.rows in
    let roots = c.args.roots.now in
    let rows = c.drop_roots.new.rows in
    let dead = c.in_ok-_dead._dead.items in
    if_some-map
    (λ (contents : Contents). (H : List ℕ → Hash256) (old grown left : World) (come gone : List Block) (news : List Tree)
    → IsReadable H old contents → AreAdded H old grown come news (rows_of rows0.entries) → AreTogether H left.blocks gone grown.blocks
    → map (rep_bytes H) (states gone) ≡ map hash_bytes roots → IsDropped H old grown come gone news rows dead)
    (λ (contents : Contents). (H : List ℕ → Hash256) (old : ToldWorld) (grown left : World) (come gone : List Block) (news : List Tree)
    → AreSoundContents H old contents → AreAdded H (shown old) grown come news c.args.plan → AreTogether H left.blocks gone grown.blocks
    → map (rep_bytes H) (states gone) ≡ map hash_bytes roots
    → (cells : List Tree) × AreCounted H (shown old) grown left come gone news cells (rows_of rows.entries))
    (g.K.Keeper.held c.args.keeper.now) c.in_ok-_dead.ensures.dropped
    (λ contents dropped H told grown left come gone news sound added went named.
    let old = shown told in
    let read = readable H told contents sound in
    let added0 = subst (λ (rs : Rows). AreAdded H old grown come news rs) (sym c.plan.view_is) added in
    let so = dropped H old grown left come gone news read added0 went named in
    let all = dropped-counted H contents old grown left come gone news read rows0 added0 went rows dead (once-sorted rows.entries c.len.ensures.ordered) so in
    (so.cells, all.0))

-- what is read, by the rows and by the plan
read-planned : (rows : RowMap) (planned : Rows) → planned ≡ rows_of rows.entries → (roots : List Hash256) (before after : ℕ) (held : Option Contents)
    → IfSome held (λ contents. (H : List ℕ → Hash256) (old grown left : World) (come gone : List Block) (news dead : List Tree)
    → IsReadable H old contents → AreAdded H old grown come news (rows_of rows.entries) → AreTogether H left.blocks gone grown.blocks
    → map (rep_bytes H) (states gone) ≡ map hash_bytes roots → AreDeadCells H grown.blocks gone dead
    → after ≤ before + (4 * length dead + length roots))
    → IfSome held (λ contents. (H : List ℕ → Hash256) (old : ToldWorld) (grown left : World) (come gone : List Block) (news dead : List Tree)
    → AreSoundContents H old contents → AreAdded H (shown old) grown come news planned → AreTogether H left.blocks gone grown.blocks
    → map (rep_bytes H) (states gone) ≡ map hash_bytes roots → AreDeadCells H grown.blocks gone dead
    → after ≤ before + (4 * length dead + length roots))
read-planned rows planned is roots before after None read = read
read-planned rows planned is roots before after (Some contents) read = λ H old grown left come gone news dead sound added went named are.
    read H (shown old) grown left come gone news dead (readable H old contents sound) (subst (λ (rs : Rows). AreAdded H (shown old) grown come news rs) is added) went named are

pub returns-in_err-_dead-clause-reads : goal.returns-in_err-_dead-clause-reads
returns-in_err-_dead-clause-reads g c =
    read-planned c.plan.inside.rows c.args.plan (sym c.plan.view_is) c.args.roots.now (g.K.Keeper.reads c.args.keeper.now) (g.K.Keeper.reads c.drop_roots.new.keeper) (g.K.Keeper.held c.args.keeper.now) c.in_err-_dead.ensures.reads

pub returns-clause-reads : goal.returns-clause-reads
returns-clause-reads g c =
    read-planned c.plan.inside.rows c.args.plan (sym c.plan.view_is) c.args.roots.now (g.K.Keeper.reads c.args.keeper.now) (g.K.Keeper.reads c.drop_roots.new.keeper) (g.K.Keeper.held c.args.keeper.now) c.in_ok-_dead.ensures.reads

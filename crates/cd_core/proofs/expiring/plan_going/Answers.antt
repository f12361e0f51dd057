use Rattle.std.proofs.Common.{◌≡◌, ℕ, ◌+◌, ◌*◌, ◌≤◌, List, [], map, length}
use Rattle.cd_base.specs.declared.hash.Hash256.{Hash256}
use Rattle.cd_cell.specs.Tree.{Tree}
use Rattle.cd_keeper.specs.Contents.{Contents}
use Rattle.cd_keeper.specs.Shown.{hash_bytes}
use Rattle.cd_world.specs.World as trees
use Rattle.cd_world.specs.World.{Block}
use Rattle.cd_world.specs.Told.{ToldWorld, shown}
use Rattle.cd_count.specs.Changes.{Rows, states, rep_bytes, AreTogether, AreAdded, AreCounted, AreDeadCells}
use Rattle.cd_count.specs.SoundContents.{AreSoundContents}
use Rattle.cd_core.proofs.Expired.{keep-caused}
use Rattle.cd_core.proofs.Unpinned.{of-some, clear-shown}
use Rattle.cd_core.proofs.expiring.plan_going.Goals as goal

pub returns-in-Ok-clause-dropped : goal.returns-in-Ok-clause-dropped
returns-in-Ok-clause-dropped g c = λ t left gone h together named.
    let k = g.K.Keeper in
    let H = g.H.Hash32.digest_of in
    let so = h.are in
    of-some (k.held c.args.keeper.now) h.contents (λ (contents : Contents). (H : List ℕ → Hash256) (old : ToldWorld) (grown left : trees.World) (come gone : List Block) (news : List Tree)
    → AreSoundContents H old contents → AreAdded H (shown old) grown come news c.empty.result
    → AreTogether H left.blocks gone grown.blocks → map (rep_bytes H) (states gone) ≡ map hash_bytes c.args.roots.now
    → (dead : List Tree) × AreCounted H (shown old) grown left come gone news dead c.in-Ok.plan) h.is_held c.in-Ok.ensures.dropped
    H t (shown t) left [] gone [] h.are (c.empty.ensures.added H (shown t) (clear-shown H t so.sound)) together named

abbrev Reads : (before after : ℕ) → List Hash256 → Rows → Contents → Type 0
Reads before after roots plan contents = (H : List ℕ → Hash256) (old : ToldWorld) (grown left : trees.World) (come gone : List Block) (news dead : List Tree)
    → AreSoundContents H old contents → AreAdded H (shown old) grown come news plan
    → AreTogether H left.blocks gone grown.blocks → map (rep_bytes H) (states gone) ≡ map hash_bytes roots
    → AreDeadCells H grown.blocks gone dead → after ≤ before + (4 * length dead + length roots)

pub returns-in-Ok-clause-reads : goal.returns-in-Ok-clause-reads
returns-in-Ok-clause-reads g c = λ t left gone dead h together named ended.
    let k = g.K.Keeper in
    let H = g.H.Hash32.digest_of in
    let so = h.are in
    of-some (k.held c.args.keeper.now) h.contents (Reads (k.reads c.args.keeper.now) (k.reads c.plan_drop.new.keeper) c.args.roots.now c.empty.result) h.is_held c.plan_drop.ensures.reads
    H t (shown t) left [] gone [] dead h.are (c.empty.ensures.added H (shown t) (clear-shown H t so.sound)) together named ended

pub returns-in-Err-clause-reads : goal.returns-in-Err-clause-reads
returns-in-Err-clause-reads g c = λ t left gone dead h together named ended.
    let k = g.K.Keeper in
    let H = g.H.Hash32.digest_of in
    let so = h.are in
    of-some (k.held c.args.keeper.now) h.contents (Reads (k.reads c.args.keeper.now) (k.reads c.plan_drop.new.keeper) c.args.roots.now c.empty.result) h.is_held c.plan_drop.ensures.reads
    H t (shown t) left [] gone [] dead h.are (c.empty.ensures.added H (shown t) (clear-shown H t so.sound)) together named ended

pub returns-in-Err-clause-cause : goal.returns-in-Err-clause-cause
returns-in-Err-clause-cause g c =
    let cause = c.in-Err.ensures.cause in
    keep-caused c.in-Err.fault c.keep_fault.result _ _ c.keep_fault.ensures c.in-Err.ensures.outside cause.later cause.caused

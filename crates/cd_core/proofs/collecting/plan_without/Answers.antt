use Rattle.std.proofs.Common.{◌≡◌, ℕ, ◌+◌, ◌*◌, ◌≤◌, List, [], ◌∷◌, map, length, Option, sym, ap, subst}
use Rattle.std.specs.Prelude.{IfSome, Err}
use Rattle.cd_base.specs.declared.hash.Hash256.{Hash256}
use Rattle.cd_cell.specs.Tree.{Tree}
use Rattle.cd_keeper.specs.Contents.{Contents}
use Rattle.cd_keeper.specs.Shown.{hash_bytes}
use Rattle.cd_world.specs.World.{Block, World}
use Rattle.cd_world.specs.Told.{ToldWorld, shown}
use Rattle.cd_count.specs.Changes.{Rows, states, rep_bytes, AreTogether, AreAdded, AreDeadCells}
use Rattle.cd_count.specs.SoundContents.{AreSoundContents}
use Rattle.cd_core.specs.Cores.{Holds}
use Rattle.cd_event.specs.Turning.{RisesOnly}
use Rattle.cd_event.specs.declared.faults.UnpinFault.{UnpinFault}
use Rattle.cd_core.specs.Steps.{is_keeper_fault, IsOutsideFault}
use Rattle.cd_core.proofs.Unpinned.{of-some, clear-shown, caused-unpin, outside-unpin}
use Rattle.cd_core.proofs.collecting.plan_without.Goals as goal

-- what a plan reads of a keeper, of one block that goes
reads-one : {K : Type 0} (held : K → Option Contents) (H : List ℕ → Hash256) (k : K) (plan : Rows) (root : Hash256) (before after : ℕ)
    → ((t : ToldWorld) → Holds held H t k → AreAdded H (shown t) (shown t) [] [] plan)
    → IfSome (held k) (λ contents. (H' : List ℕ → Hash256) (old : ToldWorld) (grown left : World) (come gone : List Block) (news dead : List Tree)
    → AreSoundContents H' old contents → AreAdded H' (shown old) grown come news plan → AreTogether H' left.blocks gone grown.blocks
    → map (rep_bytes H') (states gone) ≡ map hash_bytes (root ∷ []) → AreDeadCells H' grown.blocks gone dead → after ≤ before + (4 * length dead + 1))
    → (t : ToldWorld) (left : World) (block : Block) (dead : List Tree) → Holds held H t k
    → (let all = shown t in AreTogether H left.blocks (block ∷ []) all.blocks) → rep_bytes H block.state ≡ root.0
    → (let all = shown t in AreDeadCells H all.blocks (block ∷ []) dead) → after ≤ before + (4 * length dead + 1)
reads-one held H k plan root before after added told t left block dead h together named ended =
    of-some (held k) h.contents _ h.is_held told H t (shown t) left [] (block ∷ []) [] dead h.are (added t h) together (ap (λ r. r ∷ []) named) ended

pub returns-in-Ok-clause-dropped : goal.returns-in-Ok-clause-dropped
returns-in-Ok-clause-dropped g c = λ t left block h together named.
    let H = g.H.Hash32.digest_of in
    let k = g.K.Keeper in
    let so = h.are in
    of-some (k.held c.args.keeper.now) h.contents _ h.is_held c.in-Ok.ensures.dropped H t (shown t) left [] (block ∷ []) [] h.are
    (c.empty.ensures.added H (shown t) (clear-shown H t so.sound)) together (ap (λ (r : List ℕ). r ∷ []) named)

pub returns-in-Ok-clause-reads : goal.returns-in-Ok-clause-reads
returns-in-Ok-clause-reads g c =
    let H = g.H.Hash32.digest_of in
    let k = g.K.Keeper in
    reads-one k.held H c.args.keeper.now c.empty.result c.args.root.now (k.reads c.args.keeper.now) (k.reads c.plan_drop.new.keeper)
    (λ t h. let so = h.are in c.empty.ensures.added H (shown t) (clear-shown H t so.sound)) c.plan_drop.ensures.reads

pub returns-in-Err-clause-reads : goal.returns-in-Err-clause-reads
returns-in-Err-clause-reads g c =
    let H = g.H.Hash32.digest_of in
    let k = g.K.Keeper in
    reads-one k.held H c.args.keeper.now c.empty.result c.args.root.now (k.reads c.args.keeper.now) (k.reads c.plan_drop.new.keeper)
    (λ t h. let so = h.are in c.empty.ensures.added H (shown t) (clear-shown H t so.sound)) c.plan_drop.ensures.reads

pub returns-in-Err-clause-cause : goal.returns-in-Err-clause-cause
returns-in-Err-clause-cause g c =
    let k = g.K.Keeper in
    let by = caused-unpin c.in-Err.fault (k.faults c.args.keeper.now) (k.faults c.plan_drop.new.keeper) c.plan_drop.ensures.cause.later c.in-Err.ensures.cause.caused in
    subst (λ (f : UnpinFault). RisesOnly (is_keeper_fault {A = Rows} (Err f)) (k.faults c.args.keeper.now) (k.faults c.plan_drop.new.keeper)) (sym c.unpin_fault.ensures) by

pub returns-in-Err-clause-outside : goal.returns-in-Err-clause-outside
returns-in-Err-clause-outside g c = subst (λ (f : UnpinFault). IsOutsideFault {A = Rows} (Err f)) (sym c.unpin_fault.ensures) (outside-unpin c.in-Err.fault)

use Rattle.std.proofs.Common.{◌≡◌, List, [], ◌∷◌, None, IfSome}
use Rattle.cd_cell.specs.Infos.{rep_of_info}
use Rattle.cd_cell.specs.Tree.{Tree, rep_of}
use Rattle.cd_keeper.specs.Contents.{Contents}
use Rattle.cd_world.specs.World as trees
use Rattle.cd_world.specs.World.{Block}
use Rattle.cd_world.specs.Told.{ToldWorld, shown, first_clash, first_overflow}
use Rattle.cd_count.specs.Changes.{AreAdded}
use Rattle.cd_count.specs.Bringing.{IsBrought, unheld}
use Rattle.cd_count.specs.Clashes.{RefusesClash, RefusesFull}
use Rattle.cd_count.specs.SoundContents.{AreSoundContents}
use Rattle.cd_core.proofs.Planned.{of-some, judged, planned, by-ok}
use Rattle.cd_core.proofs.placing.plan_state.Goals as goal

pub returns-clause-judged : goal.returns-clause-judged
returns-clause-judged g c = λ t is holds fits.
    let H = g.H.Hash32.digest_of in
    let p = c.args.prepared.now in
    let so = holds.are in
    let result = c.plan_add.result in
    judged H c.args.world.now c.args.id.now c.args.parents.now c.args.tops.now p c.know_storable.ensures c.requires.free c.requires.parents t is so.sound fits c.args.limit result
    (of-some (g.K.Keeper.held c.args.keeper.now) holds.contents (λ (contents : Contents). (old : ToldWorld) → AreSoundContents H old contents → RefusesClash (first_clash H old p.cells) result)
    holds.is_held c.plan_add.ensures.clash t holds.are)
    (λ u block ts. of-some (g.K.Keeper.held c.args.keeper.now) holds.contents (λ (contents : Contents). (old grown : ToldWorld) (block : Block) (listed : List Tree) → AreSoundContents H old contents
    → IsBrought H (shown old) (shown grown) block p.cells listed → rep_of H block.state ≡ rep_of_info p.root → RefusesFull (first_overflow H c.args.limit old grown) result)
    holds.is_held c.plan_add.ensures.full t u block ts holds.are)

pub returns-clause-planned : goal.returns-clause-planned
returns-clause-planned g c =
    let H = g.H.Hash32.digest_of in
    let p = c.args.prepared.now in
    by-ok c.plan_add.result _ _ (λ result. IfSome (g.K.Keeper.held c.args.keeper.now) (λ contents. (old : ToldWorld) → AreSoundContents H old contents → RefusesClash (first_clash H old p.cells) result))
    c.plan_add.ensures.clash (λ plan clash added t is holds fits.
    let so = holds.are in
    planned H c.args.world.now c.args.id.now c.args.parents.now c.args.tops.now p c.know_storable.ensures c.requires.free c.requires.parents t is so.sound fits plan
    (of-some (g.K.Keeper.held c.args.keeper.now) holds.contents (λ (contents : Contents). (old : ToldWorld) → AreSoundContents H old contents → first_clash H old p.cells ≡ None) holds.is_held clash t holds.are)
    (λ u block ts brought rep. of-some (g.K.Keeper.held c.args.keeper.now) holds.contents (λ (contents : Contents). (old : ToldWorld) (grown : trees.World) (block : Block) (listed : List Tree) → AreSoundContents H old contents
    → IsBrought H (shown old) grown block p.cells listed → rep_of H block.state ≡ rep_of_info p.root → AreAdded H (shown old) grown (block ∷ []) (unheld H (shown old) listed) plan)
    holds.is_held added t u block ts holds.are brought rep))
    c.plan_add.ensures.added

use Rattle.std.proofs.Common.{◌≡◌, ℕ, List, Option, Ok, Err, refl, sym, ap, ◌∙◌, subst, inr}
use Rattle.std.specs.Prelude.{IfSome}
use Rattle.cd_base.specs.Counts.{Rose}
use Rattle.cd_event.specs.declared.faults.UnpinFault.{UnpinFault}
use Rattle.cd_event.specs.declared.faults.UnpinFault.TheVariants as unpin
use Rattle.cd_event.specs.Turning.{RisesOnly}
use Rattle.cd_keeper.specs.declared.keeper.Keeper.{Ghosts as KeeperGhosts}
use Rattle.cd_keeper.specs.Contents.{Contents}
use Rattle.cd_world.specs.Machine.{replay}
use Rattle.cd_world.specs.Unfolded.{told_in}
use Rattle.cd_base.specs.declared.hash.Hash256.{Hash256}
use Rattle.cd_count.specs.SoundContents.{AreSoundContents}
use Rattle.cd_core.specs.Cores.{opened}
use Rattle.cd_core.specs.Cores as cores
use Rattle.cd_core.specs.Steps.{is_keeper_fault, IsOutsideFault}
use Rattle.cd_restart.specs.Found.{opened_of}
use Rattle.cd_world.specs.Changes.{settling, settled}
use Rattle.cd_restart.specs.Stored.{blocks_in}
use Rattle.cd_restart.specs.Opened.{world_of}
use Rattle.cd_restart.specs.OpenEnds.{by_settling, IsUnopened, IsLeft, IsSettledTo}
use Rattle.cd_restart.proofs.OpenedStores.{all-opened}
use Rattle.cd_restart.proofs.Openings.{all-sound, left-told, all-told}
use Rattle.cd_restart.proofs.settling.open_core.Goals as goal

unopened : (H : List ℕ → Hash256) {K : Type 0} (k : KeeperGhosts K) (old now : K) (fault : UnpinFault) (before : ℕ) → before ≡ k.faults old
    → RisesOnly (is_keeper_fault {A = Unit {0}} (Err fault)) before (k.faults now) → IsOutsideFault {A = Unit {0}} (Err fault) → IsLeft H k old now → IsUnopened H k old now (by_settling fault)
unopened H k old now unpin.Keeper before same cause outside left = (subst (λ n. Rose n (k.faults now)) same (cause.rose refl), left)
unopened H k old now unpin.Memory before same cause outside left = (cause.steady refl ∙ same, left)
unopened H k old now unpin.NoPin before same cause outside left = absurd outside

pub adopt-core-requires-clause-told : goal.adopt-core-requires-clause-told
adopt-core-requires-clause-told g c =
    let H = g.H.Hash32.digest_of in
    let wide = g.met.H.Hash32.has_32_bytes in
    let k = g.K.Keeper in
    let found = c.in-Ok.found in
    subst (λ (h : Option Contents). IfSome h (λ contents. AreSoundContents H (told_in contents (opened found.blocks.items)) contents)) (sym c.in-Ok.ensures.keeps.same_held)
    (all-sound H wide (k.held c.args.keeper) (opened_of found) c.in-Ok.ensures.read
    (all-opened H wide (k.held c.args.keeper) (Ok (opened_of found)) c.in-Ok.ensures.answers c.in-Ok.ensures.read))

pub returns-in-Ok-settle-clause-opened : goal.returns-in-Ok-settle-clause-opened
returns-in-Ok-settle-clause-opened g c =
    let H = g.H.Hash32.digest_of in
    let wide = g.met.H.Hash32.has_32_bytes in
    let k = g.K.Keeper in
    let found = c.in-Ok.found in
    let core = c.adopt-core.result in
    let now = c.settle.new.core in
    let so = c.in-Ok-settle.ensures.settling in
    let held = ap k.held c.adopt-core.ensures.keeper.1 ∙ c.in-Ok.ensures.keeps.same_held in
    let trail = ap k.trail c.adopt-core.ensures.keeper.1 ∙ c.in-Ok.ensures.keeps.same_trail in
    let begins : cores.world_of core ≡ opened found.blocks.items = ap (replay core.start.world.value) c.adopt-core.ensures.journal ∙ c.adopt-core.ensures.world in
    let begun : cores.world_of now ≡ now.start.world.value = ap (replay now.start.world.value) c.in-Ok-settle.ensures.journal in
    let all = c.in-Ok-settle.ensures.all in
    let is = so.1 in
    record {
      journal = c.in-Ok-settle.ensures.journal;
      limited = is.limit ∙ c.adopt-core.ensures.limit;
      begun = c.in-Ok-settle.ensures.begun (c.adopt-core.ensures.keeper.0 ∙ sym c.adopt-core.ensures.keeper.1);
      steady = c.in-Ok-settle.ensures.cause.steady refl ∙ ap k.faults c.adopt-core.ensures.keeper.1 ∙ c.in-Ok.ensures.cause.steady;
      silent = λ none. is.silent (held ∙ none);
      told = subst (λ w. IfSome (k.held c.args.keeper) (λ contents. (w ≡ settled (world_of (blocks_in contents)))
          × IsSettledTo H k contents (settled (world_of (blocks_in contents))) (settling (world_of (blocks_in contents))) c.args.keeper now.keeper)) begun
          (all-told H wide k c.args.keeper core now (opened_of found) so.0 begins held trail is all.0 all.1 c.in-Ok.ensures.read
          (all-opened H wide (k.held c.args.keeper) (Ok (opened_of found)) c.in-Ok.ensures.answers c.in-Ok.ensures.read));
    }

pub returns-in-Err-settle-clause-refused : goal.returns-in-Err-settle-clause-refused
returns-in-Err-settle-clause-refused g c =
    let H = g.H.Hash32.digest_of in
    let wide = g.met.H.Hash32.has_32_bytes in
    let k = g.K.Keeper in
    let found = c.in-Ok.found in
    let core = c.adopt-core.result in
    let now = c.settle.new.core in
    let so = c.in-Err-settle.ensures.settling in
    let held = ap k.held c.adopt-core.ensures.keeper.1 ∙ c.in-Ok.ensures.keeps.same_held in
    let trail = ap k.trail c.adopt-core.ensures.keeper.1 ∙ c.in-Ok.ensures.keeps.same_trail in
    let begins : cores.world_of core ≡ opened found.blocks.items = ap (replay core.start.world.value) c.adopt-core.ensures.journal ∙ c.adopt-core.ensures.world in
    let is = all-opened H wide (k.held c.args.keeper) (Ok (opened_of found)) c.in-Ok.ensures.answers c.in-Ok.ensures.read in
    let left = left-told H wide k c.args.keeper core now (opened_of found) so.0 begins held trail so.1 c.in-Ok.ensures.read is in
    subst (λ f. IsUnopened H k c.args.keeper c.close-keeper.result.0 f) (sym c.by_settling.ensures)
    (subst (λ (x : g.row.K.Denot). IsUnopened H k c.args.keeper x (by_settling c.in-Err-settle.fault)) (sym c.close-keeper.ensures.keeper)
    (unopened H k c.args.keeper now.keeper c.in-Err-settle.fault (k.faults core.keeper) (ap k.faults c.adopt-core.ensures.keeper.1 ∙ c.in-Ok.ensures.cause.steady)
    c.in-Err-settle.ensures.cause c.in-Err-settle.ensures.outside (inr left)))

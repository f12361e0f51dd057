-- A store that was read and settled, as the core that is opened.
use Rattle.std.proofs.Common.{◌≡◌, ℕ, List, ◌++◌, length, Option, Some, None, refl, sym, ap, ◌∙◌, subst, subst₂}
use Rattle.std.specs.Prelude.{IfSome}
use Rattle.std.specs.Option.{option_map}
use Rattle.std.specs.FinMap as finite
use Rattle.std.proofs.lemmas.List.Elements.{All-contains, All-from_recursion}
use Rattle.cd_base.specs.declared.hash.Hash256.{Hash256}
use Rattle.cd_base.specs.Numbers.{IsBytes}
use Rattle.cd_keeper.specs.declared.keeper.Keeper.{Ghosts as KeeperGhosts}
use Rattle.cd_keeper.specs.Contents.{Contents}
use Rattle.cd_world.specs.declared.world.World.{World}
use Rattle.cd_world.specs.Changes.{settling, settled}
use Rattle.cd_world.specs.ToldTrees.{HasBytes}
use Rattle.cd_world.specs.Unfolded.{told_in}
use Rattle.cd_world.proofs.Tables.{table-got}
use Rattle.cd_count.specs.SoundContents.{AreSoundContents}
use Rattle.cd_core.specs.Cores.{CoreView, opened}
use Rattle.cd_core.specs.Cores as cores
use Rattle.cd_core.specs.Settling.{first_leaving}
use Rattle.cd_restart.specs.declared.opened.Opened.{Opened}
use Rattle.cd_restart.specs.Stored.{IsCellEntry, AreBytes, blocks_in}
use Rattle.cd_restart.specs.Opened.{world_of, IsRead, IsOpened, IsStore}
use Rattle.cd_restart.specs.OpenEnds.{IsSettledTo}
use Rattle.cd_restart.specs.Settled.{IsOnTheWay, IsSettling}
use Rattle.cd_restart.proofs.SettledWorlds.{way-end}

has-bytes : (contents : Contents) → AreBytes contents → HasBytes contents
has-bytes contents fits hash bytes there =
    let entry = table-got contents.cells hash bytes there in
    let fit = All-contains IsCellEntry (finite.entries contents.cells) entry.0 (All-from_recursion IsCellEntry (finite.entries contents.cells) fits.cells) entry.1 in
    subst IsBytes entry.3 fit.value

module _ (H : List ℕ → Hash256) (wide : (m : List ℕ) → length (let hash = H m in hash.0) ≡ 32) where
  -- what was opened is what a core asks for
  pub opened-sound : (contents : Contents) (o : Opened) → IsRead contents o → IsOpened H contents o → AreSoundContents H (told_in contents (opened o.blocks)) contents
  opened-sound contents o read is =
      let store = is.store in
      record { sound = store.sound; are = store.are; bytes = has-bytes contents read.fit; wide = wide }

  pub all-sound : (held : Option Contents) (o : Opened) → IfSome held (λ contents. IsRead contents o) → IfSome held (λ contents. IsOpened H contents o)
      → IfSome held (λ contents. AreSoundContents H (told_in contents (opened o.blocks)) contents)
  all-sound None o read is = tt
  all-sound (Some contents) o read is = opened-sound contents o read is

  module _ {K X : Type 0} (k : KeeperGhosts K) (old : K) (core now : CoreView K X) (o : Opened) (passed : List World)
      (begins : cores.world_of core ≡ opened o.blocks) (held : k.held core.keeper ≡ k.held old) (trail : k.trail core.keeper ≡ k.trail old)
      (so : IsSettling H k core now passed) where
    passed-told : (contents : Contents) → k.held old ≡ Some contents → IsRead contents o → IsOpened H contents o → IsSettledTo H k contents (cores.world_of now) passed old now.keeper
    passed-told contents said read is =
        let first : cores.world_of core ≡ world_of (blocks_in contents) = begins ∙ ap opened read.blocks_are in
        let store : IsStore H contents (told_in contents (world_of (blocks_in contents))) = subst (λ bs. IsStore H contents (told_in contents (world_of bs))) read.blocks_are is.store in
        let sound : AreSoundContents H (told_in contents (world_of (blocks_in contents))) contents = record { sound = store.sound; are = store.are; bytes = has-bytes contents read.fit; wide = wide } in
        let went = so.told (told_in contents (world_of (blocks_in contents))) (sym first) (record { contents = contents; is_held = held ∙ said; are = sound }) in
        record {
          store = store;
          way = subst (λ w. IsOnTheWay w (cores.world_of now) passed) first so.way;
          is = record {
            holds = went.holds;
            more = went.more;
            is_trail = went.is_trail ∙ ap (option_map (λ cs. cs ++ went.more)) trail;
            are = went.are;
          };
        }

    -- some blocks are settled
    pub left-told : IfSome (k.held old) (λ contents. IsRead contents o) → IfSome (k.held old) (λ contents. IsOpened H contents o)
        → IfSome (k.held old) (λ contents. (left : World) × (passed : List World) × IsSettledTo H k contents left passed old now.keeper)
    left-told read is = by (k.held old) refl read is
      where
        by : (h : Option Contents) → k.held old ≡ h → IfSome h (λ contents. IsRead contents o) → IfSome h (λ contents. IsOpened H contents o)
            → IfSome h (λ contents. (left : World) × (passed : List World) × IsSettledTo H k contents left passed old now.keeper)
        by None said read is = tt
        by (Some contents) said read is = (cores.world_of now, passed, passed-told contents said read is)

    -- and where none is left to settle, all
    pub all-told : first_leaving (cores.world_of now) ≡ None → cores.world_of now ≡ opened (let w = cores.world_of now in w.blocks)
        → IfSome (k.held old) (λ contents. IsRead contents o) → IfSome (k.held old) (λ contents. IsOpened H contents o)
        → IfSome (k.held old) (λ contents. (cores.world_of now ≡ settled (world_of (blocks_in contents)))
        × IsSettledTo H k contents (settled (world_of (blocks_in contents))) (settling (world_of (blocks_in contents))) old now.keeper)
    all-told none bare read is = by (k.held old) refl read is
      where
        by : (h : Option Contents) → k.held old ≡ h → IfSome h (λ contents. IsRead contents o) → IfSome h (λ contents. IsOpened H contents o)
            → IfSome h (λ contents. (cores.world_of now ≡ settled (world_of (blocks_in contents)))
            × IsSettledTo H k contents (settled (world_of (blocks_in contents))) (settling (world_of (blocks_in contents))) old now.keeper)
        by None said read is = tt
        by (Some contents) said read is =
            let went = passed-told contents said read is in
            let end = way-end (world_of (blocks_in contents)) (cores.world_of now) passed went.way bare none in
            (end.0, subst₂ (λ w ws. IsSettledTo H k contents w ws old now.keeper) end.0 end.1 went)

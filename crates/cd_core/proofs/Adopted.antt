-- A core that begins keeps what a core keeps.
use Rattle.std.proofs.Common.{◌≡◌, ℕ, ◌≤◌, List, [], ◌++◌, Option, Some, None, All, AllPairs, refl, sym, ap, ◌∙◌, subst, arith, append-nil}
use Rattle.std.specs.Prelude.{IfSome}
use Rattle.std.specs.Option.{option_map}
use Rattle.cd_base.specs.declared.hash.Hash256.{Hash256}
use Rattle.cd_block.specs.declared.description.Descr.{Descr}
use Rattle.cd_block.specs.Description.{IsDescr, IsDescrFit}
use Rattle.cd_keeper.specs.Contents.{Contents}
use Rattle.cd_record.specs.declared.limits.TheConstants.{GREATEST_COUNT}
use Rattle.cd_event.specs.declared.entry.Entry.{Entry}
use Rattle.cd_world.specs.declared.world.World.{World}
use Rattle.cd_world.specs.Standing.{IsBeforeBlock}
use Rattle.cd_world.specs.Unfolded.{told_in}
use Rattle.cd_count.specs.SoundContents.{AreSoundContents}
use Rattle.cd_core.specs.declared.start.CoreStart.{CoreStart}
use Rattle.cd_core.specs.Cores.{IsCore, IsHeld, IsWritable, opened, world_after}

-- blocks in their order, and no pins
writable-opened : (blocks : List Descr) → AllPairs IsBeforeBlock blocks → All IsDescrFit blocks → All IsDescr blocks → IsWritable (opened blocks)
writable-opened blocks ordered fit are = record {
  tidy = record {
    ordered = ordered;
    numbered = λ i j d below within. absurd (omega arith);
    below = λ k d within. absurd (omega arith);
    on_blocks = λ k d within. absurd (omega arith);
    few = λ worker. omega arith;
  };
  fit = fit;
  are = are;
}

no-more : (trail : Option (List Contents)) → trail ≡ option_map (λ cs. cs ++ []) trail
no-more None = refl
no-more (Some cs) = ap {B = Option (List Contents)} Some (sym (append-nil cs))

module _ {K X : Type 0} (held : K → Option Contents) (H : List ℕ → Hash256) (trail : K → Option (List Contents)) (batches faults : K → ℕ) where
  -- a core that begins with a world and its keeper
  pub begun : (k : K) (start : CoreStart K) (w : World) (journal : List (Entry X))
      → start.world.value ≡ w → start.keeper.value ≡ k → journal ≡ [] → w.pins ≡ [] → IsWritable w → w.next ≤ 0 → (1 ≤ start.limit) × (start.limit ≤ GREATEST_COUNT)
      → IfSome (held k) (λ contents. AreSoundContents H (told_in contents w) contents)
      → (w ≡ world_after start journal) × IsCore held H trail batches faults start journal k
  begun k start w journal value keeper none bare ready next limited told =
      subst (λ es. (w ≡ world_after start es) × IsCore held H trail batches faults start es k) (sym none) (
        sym value,
        record {
          no_pins = ap (λ (v : World). v.pins) value ∙ bare;
          follow = tt;
          writable = subst IsWritable (sym value) ready;
          numbered = subst (λ (v : World). v.next ≤ 0) (sym value) next;
          limited = limited;
          is_batches = ap batches (sym keeper);
          is_faults = let same = ap faults keeper in omega (arith, same);
          silent = λ e. ap held (sym keeper) ∙ e;
          told = subst (λ (v : World). IfSome (option_map (λ contents. told_in contents v) (held start.keeper.value)) (λ t. IsHeld held H {X = X} trail start.limit t [] start.keeper.value k)) (sym value)
              (subst (λ (x : K). IfSome (option_map (λ contents. told_in contents w) (held x)) (λ t. IsHeld held H {X = X} trail start.limit t [] x k)) (sym keeper)
              (by (held k) refl told));
        },
      )
    where
      by : (o : Option Contents) → held k ≡ o → IfSome o (λ contents. AreSoundContents H (told_in contents w) contents)
          → IfSome (option_map (λ contents. told_in contents w) o) (λ t. IsHeld held H {X = X} trail start.limit t [] k k)
      by None said so = tt
      by (Some contents) said so = record {
        follow = tt;
        holds = record { contents = contents; is_held = said; are = so };
        trailed = record { more = []; is_trail = no-more (trail k); are = tt };
      }

  -- and one that takes blocks over
  pub adopted : (k : K) (blocks : List Descr) (start : CoreStart K) (w : World) (journal : List (Entry X))
      → w ≡ opened blocks → start.world.value ≡ w → start.keeper.value ≡ k → journal ≡ []
      → AllPairs IsBeforeBlock blocks → All IsDescrFit blocks → All IsDescr blocks → (1 ≤ start.limit) × (start.limit ≤ GREATEST_COUNT)
      → IfSome (held k) (λ contents. AreSoundContents H (told_in contents (opened blocks)) contents)
      → (w ≡ world_after start journal) × IsCore held H trail batches faults start journal k
  adopted k blocks start w journal is value keeper none ordered fit are limited told =
      begun k start w journal value keeper none (ap (λ (v : World). v.pins) is) (subst IsWritable (sym is) (writable-opened blocks ordered fit are))
      (subst (λ (v : World). v.next ≤ 0) (sym is) (omega arith)) limited
      (subst (λ (v : World). IfSome (held k) (λ contents. AreSoundContents H (told_in contents v) contents)) (sym is) told)

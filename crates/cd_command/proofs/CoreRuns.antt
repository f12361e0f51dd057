-- What a core keeps that an opening gave.
use Rattle.std.proofs.Common.{◌≡◌, ℕ, List, [], Option, Some, None, refl, sym, ap, ◌∙◌, subst}
use Rattle.std.specs.Prelude.{IfSome}
use Rattle.std.specs.Option.{option_map}
use Rattle.std.proofs.lemmas.Option.{same_Some}
use Rattle.cd_base.specs.declared.hash.Hash256.{Hash256}
use Rattle.cd_keeper.specs.declared.keeper.Keeper.{Ghosts as KeeperGhosts}
use Rattle.cd_keeper.specs.Contents.{Contents}
use Rattle.cd_event.specs.declared.entry.Entry.{Entry}
use Rattle.cd_record.specs.declared.limits.TheConstants.{GREATEST_COUNT}
use Rattle.cd_world.specs.declared.world.World.{World}
use Rattle.cd_world.specs.Standing.{IsTidy}
use Rattle.cd_world.specs.Unfolded.{told_in}
use Rattle.cd_count.specs.SoundContents.{AreSoundContents}
use Rattle.cd_core.specs.declared.start.CoreStart.{CoreStart}
use Rattle.cd_core.specs.Cores.{CoreView, IsCore, IsHeld, IsWritable, world_after}
use Rattle.cd_restart.specs.OpenEnds.{IsOpenedCore}
use Rattle.cd_command.specs.Opening.{IsOpening, LeadOn, LeadsTo}

module _ (H : List ℕ → Hash256) {K X : Type 0} (k : KeeperGhosts K) (old : K) (core : CoreView K X)
    (is : IsOpenedCore H k old GREATEST_COUNT core) (kept : IsCore k.held H k.trail k.batches k.faults core.start core.journal core.keeper) where
  holds-of : (w : World) (limit : ℕ) (o : Option Contents) (now : K) (journal : List (Entry X)) → journal ≡ [] → k.held now ≡ o
      → IfSome (option_map (λ contents. told_in contents w) o) (λ t. IsHeld k.held H k.trail limit t journal core.start.keeper.value now)
      → IfSome o (λ contents. AreSoundContents H (told_in contents w) contents)
  holds-of w limit None now journal none said told = tt
  holds-of w limit (Some contents) now journal none said told =
      let so = (subst (λ es. IsHeld k.held H k.trail limit (told_in contents w) es core.start.keeper.value now) none told).holds in
      let same : so.contents ≡ contents = same_Some so.contents contents (sym so.is_held ∙ said) in
      subst (λ c. AreSoundContents H (told_in contents w) c) same so.are

  pub opening-of : IsOpening H k core.start.world.value old core.keeper
  opening-of = record {
    no_pins = kept.no_pins;
    steady = is.steady;
    silent = is.silent;
    told = is.told;
    holds = holds-of core.start.world.value core.start.limit (k.held core.keeper) core.keeper core.journal is.journal refl
        (subst (λ (o : Option Contents). IfSome (option_map (λ contents. told_in contents core.start.world.value) o) (λ t. IsHeld k.held H k.trail core.start.limit t core.journal core.start.keeper.value core.keeper))
        (ap k.held is.begun) kept.told);
  }

  -- a start of the core that was opened
  module _ (start : CoreStart K) (same : start ≡ core.start) where
    begun : start.keeper.value ≡ core.keeper
    begun = ap (λ (s : CoreStart K). s.keeper.value) same ∙ is.begun

    pub opening-at : IsOpening H k start.world.value old start.keeper.value
    opening-at = subst (λ x. IsOpening H k start.world.value old x) (sym begun)
        (subst (λ w. IsOpening H k w old core.keeper) (sym (ap (λ (s : CoreStart K). s.world.value) same)) opening-of)

    pub tidy-at : IsTidy start.world.value
    tidy-at =
        let writable = subst (λ es. IsWritable (world_after core.start es)) is.journal kept.writable in
        subst (λ (s : CoreStart K). let w = s.world.value in IsTidy w) (sym same) writable.tidy

    -- entries that were made since lead on from there
    module _ (journal : List (Entry X)) (now : K) (since : IsCore k.held H k.trail k.batches k.faults start journal now) where
      told-on : (o : Option Contents) → IfSome (option_map (λ contents. told_in contents start.world.value) o) (λ t. IsHeld k.held H k.trail GREATEST_COUNT t journal start.keeper.value now)
          → IfSome o (λ contents. IsHeld k.held H k.trail GREATEST_COUNT (told_in contents start.world.value) journal start.keeper.value now)
      told-on None told = tt
      told-on (Some contents) told = told

      pub led-on : LeadOn H k start.world.value journal start.keeper.value now
      led-on = record {
        follow = since.follow;
        batches = since.is_batches;
        counted = since.is_faults;
        silent = since.silent;
        told = told-on (k.held start.keeper.value)
            (subst (λ l. IfSome (option_map (λ contents. told_in contents start.world.value) (k.held start.keeper.value)) (λ t. IsHeld k.held H k.trail l t journal start.keeper.value now))
            (ap (λ (s : CoreStart K). s.limit) same ∙ is.limited) since.told);
      }

  pub leads-on : (start : CoreStart K) (journal : List (Entry X)) (now : K) → start ≡ core.start
      → IsCore k.held H k.trail k.batches k.faults start journal now → LeadOn H k start.world.value journal core.keeper now
  leads-on start journal now same since = subst (λ x. LeadOn H k start.world.value journal x now) (begun start same) (led-on start same journal now since)

  pub leads-to : (start : CoreStart K) (journal : List (Entry X)) (now : K) → start ≡ core.start
      → IsCore k.held H k.trail k.batches k.faults start journal now → LeadsTo H k journal old now
  leads-to start journal now same since = record {
    world = start.world.value;
    mid = start.keeper.value;
    opened = opening-at start same;
    on = led-on start same journal now since;
  }

-- What a merge asks of the world that the journal leads to holds of each world whose contents the keeper holds.
use Rattle.std.proofs.Common.{◌≡◌, ℕ, true, List, map, Option, Some, None, refl, sym, ap, ◌∙◌, subst}
use Rattle.std.specs.Prelude.{IfSome, IsSome}
use Rattle.std.specs.Option.{option_map}
use Rattle.std.proofs.lemmas.List.Elements.{All-contains}
use Rattle.std.proofs.lemmas.Option.{none-some, same_Some}
use Rattle.cd_base.specs.declared.hash.Hash256.{Hash256}
use Rattle.cd_block.specs.declared.block.BlockId.{BlockId}
use Rattle.cd_cell.specs.Tree.{Tree}
use Rattle.cd_cell.specs.Listings.{Fits}
use Rattle.cd_cell.specs.PreparedView.{PreparedView}
use Rattle.cd_keeper.specs.Contents.{Contents}
use Rattle.cd_event.specs.declared.entry.Entry.{Entry}
use Rattle.cd_world.specs.declared.world.World.{World}
use Rattle.cd_world.specs.declared.world.PinRow.{PinRow}
use Rattle.cd_world.specs.Image.{IsContentsOf}
use Rattle.cd_world.specs.Machine.{rows_at, blocks_of, old_info, is_over}
use Rattle.cd_world.specs.Standing.{block_at}
use Rattle.cd_world.specs.Told.{ToldWorld, shown, told_replay, AllFollowTold}
use Rattle.cd_world.specs.Unfolded.{told_in}
use Rattle.cd_world.proofs.EqualImages.{one_world}
use Rattle.cd_world.proofs.Replays.{told_replay-world}
use Rattle.cd_world.proofs.TidyWorlds.{there-found}
use Rattle.cd_core.specs.declared.start.CoreStart.{CoreStart}
use Rattle.cd_core.specs.Cores.{IsCore, IsHeld, world_after}
use Rattle.cd_core.specs.Effects.{MayStoreOver}
use Rattle.cd_core.specs.Merging.{AreFitting}
use Rattle.cd_core.proofs.Brought.{map-same}
use Rattle.cd_core.proofs.MergeDid.{over-known}

module _ {K X : Type 0} (held : K → Option Contents) (H : List ℕ → Hash256) (trail : K → Option (List Contents)) (batches faults : K → ℕ) where
  -- what is asked where the start was told
  abbrev Asks : CoreStart K → List (Entry X) → ℕ → ℕ → Option ℕ → PreparedView → ToldWorld → Type 0
  Asks start es worker pin other p t₀ = AllFollowTold H start.limit t₀ es → (rs : List PinRow)
      → let now = told_replay H t₀ es in rows_at now.world worker pin other ≡ Some rs
      → is_over p (old_info H (map (block_at now.world) (blocks_of rs))) ≡ true
      → Fits H p.root p.cells (map now.state (blocks_of rs))

  pub asked-fits : (w : World) (start : CoreStart K) (es : List (Entry X)) (k : K) (worker pin : ℕ) (other : Option ℕ) (p : PreparedView)
      → (w ≡ world_after start es) × IsCore held H trail batches faults start es k → MayStoreOver held H start es worker pin other p → AreFitting held H w k worker pin other p
  asked-fits w start es k worker pin other p is may t rows same h at over =
      let core = is.1 in by (held start.keeper.value) refl core.told may
    where
      by : (o : Option Contents) → held start.keeper.value ≡ o → IfSome (option_map (λ contents. told_in contents start.world.value) o) (λ t₀. IsHeld held H trail start.limit t₀ es start.keeper.value k)
          → IfSome (option_map (λ contents. told_in contents start.world.value) o) (Asks start es worker pin other p) → Fits H p.root p.cells (map t.state (blocks_of rows))
      by None said told asks = let core = is.1 in absurd (none-some h.contents (sym (core.silent said) ∙ h.is_held))
      by (Some contents) said told asks =
          let t₀ = told_in contents start.world.value in
          let now = told_replay H t₀ es in
          let world : now.world ≡ w = told_replay-world H t₀ es ∙ sym is.0 in
          let fits = asks told.follow rows (subst (λ (v : World). rows_at v worker pin other ≡ Some rows) (sym world) at)
          (subst (λ (v : World). is_over p (old_info H (map (block_at v) (blocks_of rows))) ≡ true) (sym world) over) in
          let holds = told.holds in
          let so = holds.are in
          let of_t = h.are in
          let one : holds.contents ≡ h.contents = same_Some holds.contents h.contents (sym holds.is_held ∙ h.is_held) in
          let blocks = one_world H so.wide now t h.contents so.sound of_t.sound (subst (λ (c : Contents). IsContentsOf H (shown now) c) one so.are) of_t.are in
          let there = (over-known H w p (blocks_of rows) over).1 in
          let states : map now.state (blocks_of rows) ≡ map t.state (blocks_of rows) = map-same now.state t.state (blocks_of rows) (λ q inside.
          let some : IsSome (block_at now.world q) = subst (λ (v : World). IsSome (block_at v q)) (sym world) (All-contains (λ (x : BlockId). IsSome (block_at w x)) (blocks_of rows) q there inside) in
          let found = there-found now.world q some in
          sym (ap now.state found.2) ∙ blocks.trees found.0 found.1 ∙ ap t.state found.2) in
          subst (λ (ts : List Tree). Fits H p.root p.cells ts) states fits

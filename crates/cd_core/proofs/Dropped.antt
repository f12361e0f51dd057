-- The block that goes with a pin is dropped from the keeper.
use Rattle.std.proofs.Common.{◌≡◌, ℕ, ◌+◌, ◌*◌, ◌≤◌, true, List, [], ◌∷◌, length, map, Option, Some, Contains, sym, ap, ◌∙◌, subst}
use Rattle.std.specs.Prelude.{slice_get}
use Rattle.std.specs.List.{filter}
use Rattle.cd_base.specs.declared.hash.Hash256.{Hash256}
use Rattle.cd_block.specs.declared.block.BlockId.{BlockId}
use Rattle.cd_block.specs.declared.description.Descr.{Descr}
use Rattle.cd_block.specs.Block.{key_of}
use Rattle.cd_cell.specs.Tree.{Tree}
use Rattle.cd_keeper.specs.Contents.{Contents, Change}
use Rattle.cd_keeper.specs.Keeping.{KeepsHeld, IsApplied}
use Rattle.cd_world.specs.declared.world.World.{World}
use Rattle.cd_world.specs.declared.world.PinRow.{PinRow}
use Rattle.cd_world.specs.World.{Block}
use Rattle.cd_world.specs.World as trees
use Rattle.cd_world.specs.Changes.{goes_with}
use Rattle.cd_world.specs.Told.{ToldWorld, block_of, shown}
use Rattle.cd_count.specs.Changes.{Rows, rep_bytes, AreTogether, AreCounted, AreDeadCells}
use Rattle.cd_core.specs.Cores.{IsWritable, Holds}
use Rattle.cd_core.specs.Steps.{Batches, IsDropOf, told_without}
use Rattle.cd_core.proofs.Apart.{goes-at, there}
use Rattle.cd_core.proofs.Keepings.{applied-later}
use Rattle.cd_core.proofs.Unpinned.{together-without, root-named, contents-left}

module _ {K : Type 0} (held : K → Option Contents) (H : List ℕ → Hash256) (trail : K → Option (List Contents)) (batches reads : K → ℕ)
    (w : World) (row : PinRow) (place : ℕ) (d : Descr) (ready : IsWritable w) (at : slice_get w.blocks place ≡ Some d) (goes : goes_with w row d ≡ true) where
  -- what a plan tells, whichever world with trees it is of
  abbrev pub PlansWithout : K → Hash256 → Rows → Type 0
  PlansWithout k root plan = (t : ToldWorld) (left : trees.World) (block : Block) → Holds held H t k
      → (let all = shown t in AreTogether H left.blocks (block ∷ []) all.blocks) → rep_bytes H block.state ≡ root.0
      → (dead : List Tree) × AreCounted H (shown t) (shown t) left [] (block ∷ []) [] dead plan

  module _ (t : ToldWorld) (same : t.world ≡ w) where
    ready-in : IsWritable t.world
    ready-in = subst IsWritable (sym same) ready

    at-in : slice_get t.world.blocks place ≡ Some d
    at-in = subst (λ (v : World). slice_get v.blocks place ≡ Some d) (sym same) at

    goes-in : goes_with t.world row d ≡ true
    goes-in = subst (λ v. goes_with v row d ≡ true) (sym same) goes

    one-in : filter (goes_with t.world row) t.world.blocks ≡ d ∷ []
    one-in = let both = goes-at t.world row place d ready-in at-in goes-in in both.0

    there-in : Contains t.world.blocks d
    there-in = there (goes_with t.world row) t.world.blocks place d at-in

  pub drop-leads : (k₀ k₁ k₂ : K) (plan : Rows) (root : Hash256) (id : BlockId) → root ≡ d.root → id ≡ d.id → KeepsHeld held trail batches k₀ k₁ → PlansWithout k₀ root plan
      → (change : Change) → IsDropOf plan id change → IsApplied held trail batches change k₁ k₂ → Batches held H trail batches w (told_without row) k₀ k₂
  drop-leads k₀ k₁ k₂ plan root id is_root is_id keeps plans change drops applied = record {
    change = change;
    applied = applied-later held trail batches change k₀ k₁ k₂ keeps applied;
    leads = λ t contents same said so.
        let sound = so.sound in
        let h : Holds held H t k₀ = record { contents = contents; is_held = said; are = so } in
        let named : rep_bytes H (t.state d.id) ≡ root.0 = root-named H t row d sound (there-in t same) ∙ ap (λ (r : Hash256). r.0) (sym is_root) in
        let plan_of = plans t (shown (told_without row t)) (block_of t d) h (together-without H t row d (one-in t same)) named in
        contents-left H t row place d sound (ready-in t same) (at-in t same) (goes-in t same) plan_of.0 plan plan_of.1 change drops.cells drops.bytes drops.puts
        (drops.drops ∙ ap (λ i. key_of i ∷ []) is_id) contents so.are so.bytes;
  }

  pub drop-reads : (k k' : K) (root : Hash256) → root ≡ d.root
      → ((t : ToldWorld) (left : trees.World) (block : Block) (dead : List Tree) → Holds held H t k
      → (let all = shown t in AreTogether H left.blocks (block ∷ []) all.blocks) → rep_bytes H block.state ≡ root.0
      → (let all = shown t in AreDeadCells H all.blocks (block ∷ []) dead) → reads k' ≤ reads k + (4 * length dead + 1))
      → (t : ToldWorld) (dead : List Tree) → t.world ≡ w → Holds held H t k
      → (let all = shown t in AreDeadCells H all.blocks (map (block_of t) (filter (goes_with t.world row) t.world.blocks)) dead)
      → reads k' ≤ reads k + (4 * length dead + 1)
  drop-reads k k' root is_root read t dead same h ended =
      let so = h.are in
      let named : rep_bytes H (t.state d.id) ≡ root.0 = root-named H t row d so.sound (there-in t same) ∙ ap (λ (r : Hash256). r.0) (sym is_root) in
      read t (shown (told_without row t)) (block_of t d) dead h (together-without H t row d (one-in t same)) named
      (subst (λ ds. let all = shown t in AreDeadCells H all.blocks (map (block_of t) ds) dead) (one-in t same) ended)

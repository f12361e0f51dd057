-- Cells are nodes, and what worlds hold and count is what these nodes' laws speak of.
use Rattle.std.proofs.Common.{◌≡◌, ◌⊎◌, inl, inr, ℕ, ◌+◌, ◌<◌, ◌≤◌, List, [], ◌∷◌, length, length-append, map, Contains, refl, sym, ap, ◌∙◌, arith, cond, count_by}
use Rattle.std.specs.Cmp.Lexicographic.{nat_list_cmp_total}
use Rattle.std.specs.FinMap as finite
use Rattle.std.proofs.lemmas.List.Folds.{flat_map-map}
use Rattle.std.proofs.lemmas.List.Sums.{sum_by-cons}
use Rattle.std.proofs.lemmas.Slice.Eq.{bytes_eq-Decides}
use Rattle.cd_base.specs.declared.hash.Hash256.{Hash256}
use Rattle.cd_cell.specs.Tree.{Tree, cell, Trees, no_trees, tree_and, children, list_of, subtrees, subtrees_of_all}
use Rattle.cd_cell.specs.Export.{AreClashFree}
use Rattle.cd_cell.proofs.Subtrees.{Contains-nil, Contains-cases, subtree-itself, child-is-subtree, subtrees-subtree, subtree-parent, same_subtrees}
use Rattle.cd_nodes.specs.Graphs.{IsGraph}
use Rattle.cd_nodes.specs.Graphs as nodes
use Rattle.cd_world.specs.World.{Block, World, cell_entry, held_of, has_hash, count_of}
use Rattle.cd_count.specs.Changes.{states, cell_graph, held_under}

-- a child has fewer cells than its parent
abbrev size : Tree → ℕ
size t = length (subtrees t)

child_small : (ts : Trees) (k : Tree) → Contains (list_of ts) k → size k ≤ length (subtrees_of_all ts)
child_small no_trees k h = absurd (Contains-nil k h)
child_small (tree_and t ts) k h =
    let l = length-append (subtrees t) (subtrees_of_all ts) in
    elim (Contains-cases t (list_of ts) k h) [
      | inl e ↦ let s : size t ≡ size k = ap size e in omega arith
      | inr g ↦ let s = child_small ts k g in omega arith
    ]

falls : (s k : Tree) → Contains (children s) k → size k < size s
falls (cell e bs ts) k h = let s = child_small ts k h in omega arith

module _ (H : List ℕ → Hash256) where
  above : (t s : Tree) → Contains (subtrees t) s → (t ≡ s) ⊎ ((p : Tree) × Contains (subtrees t) p × Contains (children p) s)
  above t s h = elim (subtree-parent t s h) [
    | inl e ↦ inl (sym e)
    | inr p ↦ inr p
  ]

  pub is_graph : IsGraph (cell_graph H)
  is_graph = record {
    total = nat_list_cmp_total;
    tells = finite.slice_cmp-IsAntisymmetric finite.nat_cmp-IsAntisymmetric;
    decides = bytes_eq-Decides;
    itself = subtree-itself;
    below = λ t s k h g. subtrees-subtree t s k h (child-is-subtree s k g);
    above = above;
    size = size;
    falls = falls;
  }

  -- free of clashes, a hash names one cell
  pub clash_free : (ts : List Tree) → AreClashFree H ts → nodes.AreClashFree (cell_graph H) ts
  clash_free ts free s t p q e = same_subtrees H ts free s t p q (λ i. record { 0 = e i })

  pub held-states : (blocks : List Block) → nodes.held (cell_graph H) (states blocks) ≡ held_of H blocks
  held-states blocks = ap (λ (ts : List Tree). finite.from_entries (map (cell_entry H) ts)) (flat_map-map subtrees (λ (b : Block). b.state) blocks)

  pub held_at-states : (world : World) (hash : List ℕ) → nodes.held_at (cell_graph H) (states world.blocks) hash ≡ held_under H world hash
  held_at-states world hash = ap (λ m. finite.get m hash) (held-states world.blocks)

  count_by-states : (blocks : List Block) (hash : List ℕ) → count_by (has_hash H hash) (states blocks) ≡ count_by (λ (b : Block). has_hash H hash b.state) blocks
  count_by-states [] hash = refl
  count_by-states (b ∷ bs) hash =
      let a = sum_by-cons (λ t. cond {A = ℕ} (has_hash H hash t) 1 0) b.state (states bs) in
      let c = sum_by-cons (λ (x : Block). cond {A = ℕ} (has_hash H hash x.state) 1 0) b bs in
      let rest = count_by-states bs hash in
      omega arith

  pub count-states : (world : World) (hash : List ℕ) → nodes.count (cell_graph H) (states world.blocks) hash ≡ count_of H world hash
  count-states world hash =
      ap (λ n. n + nodes.references (cell_graph H) (finite.values (nodes.held (cell_graph H) (states world.blocks))) hash) (count_by-states world.blocks hash)
      ∙ ap (λ m. count_by (λ (b : Block). has_hash H hash b.state) world.blocks + nodes.references (cell_graph H) (finite.values m) hash) (held-states world.blocks)

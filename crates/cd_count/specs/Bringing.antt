-- Trusted: a block that comes to a world, and the list of its cells.
use Rattle.std.specs.Prelude.{◌≡◌, ◌⊎◌, ℕ, IsSome, is_none, List, [], ◌∷◌, map, filter, Contains}
use Rattle.cd_base.specs.declared.hash.Hash256.{Hash256}
use Rattle.cd_cell.specs.declared.new_cell.NewCell.{NewCell}
use Rattle.cd_cell.specs.Tree.{Tree, subtrees, face_of}
use Rattle.cd_cell.specs.Export.{AreClashFree}
use Rattle.cd_cell.specs.Listings.{new_cell_of}
use Rattle.cd_nodes.specs.Plans as plans
use Rattle.cd_world.specs.World.{Block, World}
use Rattle.cd_count.specs.Changes.{states, Rows, row_in, rep_bytes, cell_graph, held_under, AreTogether}

module _ (H : List ℕ → Hash256) where
  -- the listed cells of a block that aren't held
  abbrev pub unheld : World → List Tree → List Tree
  unheld old listed = filter (λ c. is_none (held_under H old (rep_bytes H c))) listed

  -- old grows to grown by a block, free of clashes; these trees are the listed cells: cells of the block's state, of
  -- which each is listed or held already
  pub record IsBrought (old grown : World) (block : Block) (cells : List NewCell) (listed : List Tree) : Type 0 where
    pub came : AreTogether H old.blocks (block ∷ []) grown.blocks
    pub clear : AreClashFree H (states grown.blocks)
    pub named : map (new_cell_of H) listed ≡ cells
    pub within : (c : Tree) → Contains listed c → Contains (subtrees block.state) c
    pub every : (c : Tree) → Contains (subtrees block.state) c
        → Contains listed c ⊎ IsSome (held_under H old (rep_bytes H c))

  -- the rows have the references of a block that comes and of its new cells
  abbrev pub HaveCome : World → World → Block → List Tree → Rows → Type 0
  HaveCome old grown block news rows =
      plans.AreRows (cell_graph H) (face_of H) (states old.blocks) (states (block ∷ [])) (states grown.blocks) []
      news [] (row_in rows)

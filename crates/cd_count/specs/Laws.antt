-- Trusted: how what worlds hold changes as blocks come and go, and what a plan's batch makes of a keeper's contents.
use Rattle.std.specs.Prelude.{◌≡◌, ℕ, ◌+◌, ◌⊎◌, Bool, cond, not, is_some, is_none, IsSome, List, [], ◌∷◌, ◌++◌, map, filter, flat_map, Contains, Option, Some, None}
use Rattle.std.specs.Option.{option_or}
use Rattle.std.specs.List.{IsDistinct}
use Rattle.std.specs.Str.{bytes_eq}
use Rattle.std.specs.FinMap as finite
use Rattle.cd_base.specs.declared.hash.Hash256.{Hash256}
use Rattle.cd_cell.specs.Tree.{Tree, subtrees}
use Rattle.cd_cell.specs.Export.{AreClashFree}
use Rattle.cd_keeper.specs.Contents.{Contents, Change, changed}
use Rattle.cd_record.specs.RecordText.{record_text}
use Rattle.cd_nodes.specs.Graphs as nodes
use Rattle.cd_nodes.specs.Plans as plans
use Rattle.cd_world.specs.World.{Block, World, count_of}
use Rattle.cd_world.specs.Image.{image_of, IsContentsOf}
use Rattle.cd_count.specs.Changes.{states, rep_bytes, Rows, row_in, IsCellBatch, cell_graph, held_under, cells_with, places_in, AreTogether, AreNewCells, AreDeadCells, HasFewReferences, AreCounted, DescsLead}

module _ (H : List ℕ → Hash256) where
  -- one block comes, at any place among the others
  abbrev pub ABlockComes : Type 0
  ABlockComes = (lower higher : List Block) (block : Block)
      → AreTogether H (lower ++ higher) (block ∷ []) (lower ++ block ∷ higher)

  -- some blocks stay, and the others go
  abbrev pub SomeBlocksGo : Type 0
  SomeBlocksGo = (stays : Block → Bool) (blocks : List Block)
      → AreTogether H (filter stays blocks) (filter (λ b. not (stays b)) blocks) blocks

  -- where each cell of the blocks that come is listed or held already, the new ones are the listed that aren't held
  abbrev pub NewCellsAreListed : Type 0
  NewCellsAreListed = (before : World) (come after : List Block) (listed : List Tree)
      → AreTogether H before.blocks come after
      → IsDistinct bytes_eq (map (rep_bytes H) listed)
      → ((c : Tree) → Contains listed c → Contains (flat_map subtrees (states come)) c)
      → ((c : Tree) → Contains (flat_map subtrees (states come)) c
      → Contains listed c ⊎ IsSome (held_under H before (rep_bytes H c)))
      → AreNewCells H before.blocks after (filter (λ c. is_none (held_under H before (rep_bytes H c))) listed)

  -- as blocks come, the new cells are held besides, and counts grow by the references of states and new cells
  abbrev pub CountsGrow : Type 0
  CountsGrow = (before after : World) (come : List Block) (news : List Tree)
      → AreTogether H before.blocks come after.blocks → AreClashFree H (states after.blocks)
      → AreNewCells H before.blocks after.blocks news → (hash : List ℕ)
      → (held_under H after hash ≡ option_or (nodes.find (cell_graph H) hash news) (held_under H before hash))
      × (count_of H after hash ≡ count_of H before hash + cells_with H (states come) hash + places_in H news hash)

  -- as blocks go, the dead cells are held no more, and counts fall by the references of states and dead cells
  abbrev pub CountsFall : Type 0
  CountsFall = (before after : World) (gone : List Block) (dead : List Tree)
      → AreTogether H after.blocks gone before.blocks → AreClashFree H (states before.blocks)
      → AreDeadCells H before.blocks gone dead → (hash : List ℕ)
      → (held_under H after hash
      ≡ cond (is_some (nodes.find (cell_graph H) hash dead)) None (held_under H before hash))
      × (count_of H after hash + (cells_with H (states gone) hash + places_in H dead hash) ≡ count_of H before hash)

  -- the batch of a plan leads from contents of the old world to contents of the one that is left, whichever versions
  -- the records are of
  abbrev pub PlansLead : Type 0
  PlansLead = (old grown left : World) (come gone : List Block) (news dead : List Tree) (rows : Rows)
      → AreCounted H old grown left come gone news dead rows → (change : Change) → IsCellBatch rows change
      → DescsLead H change old left → (contents : Contents) → IsContentsOf H old contents
      → IsContentsOf H left (changed change contents)

  -- what the batch does to a record changes it: none is put that has this count already, and none is dropped that isn't
  -- there
  abbrev pub PlansAreExact : Type 0
  PlansAreExact = (old grown left : World) (come gone : List Block) (news dead : List Tree) (rows : Rows)
      → AreCounted H old grown left come gone news dead rows
      → HasFewReferences H old → HasFewReferences H left
      → (hash : List ℕ) (value : Option (List ℕ)) → plans.change_at record_text (row_in rows hash) ≡ Some value
      → let image = image_of H old in value ≡ finite.get image.cells hash → ⊥

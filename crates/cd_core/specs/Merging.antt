-- Inner: the pins that end with a merge, why it is refused, and which blocks go.
use Rattle.std.specs.Prelude.{◌≡◌, ℕ, ◌+◌, ◌*◌, ◌≤◌, ◌&&◌, not, Bool, true, List, ◌∷◌, length, map, Option, Some}
use Rattle.std.specs.List.{filter, list_any}
use Rattle.std.specs.Option.{option_to_list}
use Rattle.cd_base.specs.declared.hash.Hash256.{Hash256}
use Rattle.cd_block.specs.declared.block.BlockId.{BlockId}
use Rattle.cd_block.specs.declared.description.Descr.{Descr}
use Rattle.cd_cell.specs.Listings.{Fits}
use Rattle.cd_cell.specs.PreparedView.{PreparedView}
use Rattle.cd_cell.specs.Tree.{Tree}
use Rattle.cd_keeper.specs.Contents.{Contents}
use Rattle.cd_keeper.specs.Shown.{hash_bytes}
use Rattle.cd_event.specs.declared.faults.MergeFault.{MergeFault}
use Rattle.cd_event.specs.declared.faults.MergeFault.TheVariants as merge
use Rattle.cd_world.specs.declared.world.World.{World}
use Rattle.cd_world.specs.declared.world.PinRow.{PinRow}
use Rattle.cd_world.specs.World as trees
use Rattle.cd_world.specs.World.{Block}
use Rattle.cd_world.specs.Standing.{block_at, is_pin, names_block}
use Rattle.cd_world.specs.Machine.{rows_at, blocks_of, old_info, is_over}
use Rattle.cd_world.specs.Told.{ToldWorld, shown}
use Rattle.cd_count.specs.Changes.{Rows, states, rep_bytes, AreTogether, AreAdded, AreCounted, AreDeadCells}
use Rattle.cd_core.specs.Cores.{Holds}
use Rattle.cd_core.specs.Effects.{goes_in_turn}
use Rattle.cd_core.specs.declared.merging.Ends.{Ends}

-- what the world alone refuses of a merge whose pins are there
abbrev pub IsOfParents : MergeFault → Type 0
IsOfParents merge.WrongPin = Unit {0}
IsOfParents merge.Known = Unit {0}
IsOfParents (merge.Lineage fault) = Unit {0}
IsOfParents _ = ⊥

-- the pins that end, the first one first
abbrev pub rows_of_ends : Ends → List PinRow
rows_of_ends ends = ends.first ∷ option_to_list ends.second

-- the roots and the ids of the blocks that go
pub record AreGoing (w : World) (rows : List PinRow) (roots : List Hash256) (ids : List BlockId) (blocks : List Descr)
    : Type 0 where
  pub roots_are : roots ≡ map (λ d. d.root) (filter (goes_in_turn w rows) blocks)
  pub ids_are : ids ≡ map (λ d. d.id) (filter (goes_in_turn w rows) blocks)

-- whether a pin but these two is on a block
abbrev pub is_pinned_besides : PinRow → PinRow → BlockId → List PinRow → Bool
is_pinned_besides first second id pins =
    list_any (λ r. (not (is_pin first.worker first.pin r) && not (is_pin second.worker second.pin r)) && names_block id r)
    pins

module _ {K : Type 0} (held : K → Option Contents) (H : List ℕ → Hash256) where
  -- a plan after blocks with these roots go, of one that some blocks came by
  abbrev pub IsDropping : K → Rows → List Hash256 → Rows → Type 0
  IsDropping k plan roots after = (t : ToldWorld) (grown left : trees.World) (come gone : List Block) (news : List Tree)
      → Holds held H t k → AreAdded H (shown t) grown come news plan → AreTogether H left.blocks gone grown.blocks
      → map (rep_bytes H) (states gone) ≡ map hash_bytes roots
      → (dead : List Tree) × AreCounted H (shown t) grown left come gone news dead after

  -- and what is read as they go
  abbrev pub IsDropRead : K → Rows → List Hash256 → ℕ → ℕ → Type 0
  IsDropRead k plan roots before now =
      (t : ToldWorld) (grown left : trees.World) (come gone : List Block) (news dead : List Tree)
      → Holds held H t k → AreAdded H (shown t) grown come news plan → AreTogether H left.blocks gone grown.blocks
      → map (rep_bytes H) (states gone) ≡ map hash_bytes roots → AreDeadCells H grown.blocks gone dead
      → now ≤ before + (4 * length dead + length roots)

  -- a value that was prepared over the states of a merge's pins fits them
  abbrev pub AreFitting : World → K → ℕ → ℕ → Option ℕ → PreparedView → Type 0
  AreFitting w k worker pin other p = (t : ToldWorld) (rows : List PinRow) → t.world ≡ w → Holds held H t k
      → rows_at w worker pin other ≡ Some rows
      → is_over p (old_info H (map (block_at w) (blocks_of rows))) ≡ true
      → Fits H p.root p.cells (map t.state (blocks_of rows))

-- Trusted: the tree that a stored value stands for is the one that was prepared.
use Rattle.std.specs.Prelude.{◌≡◌, ℕ, List, ◌++◌, map, All, Contains, IsSome, None}
use Rattle.std.specs.List.{flat_map}
use Rattle.cd_base.specs.declared.hash.Hash256.{Hash256}
use Rattle.cd_block.specs.declared.block.BlockId.{BlockId}
use Rattle.cd_cell.specs.Tree.{Tree, subtrees, info_of}
use Rattle.cd_cell.specs.Export.{AreClashFree}
use Rattle.cd_cell.specs.Listings.{IsValid, Fits, IsOldOrListed}
use Rattle.cd_cell.specs.PreparedView.{PreparedView}
use Rattle.cd_world.specs.Standing.{block_at}
use Rattle.cd_world.specs.Told.{ToldWorld, states_of, first_clash, made, IsSound}
use Rattle.cd_world.specs.Soundness.{IsStorable}

module _ (H : List ℕ → Hash256) where
  -- a cell is held, or has the face of a listed one
  abbrev pub IsCellOf : ToldWorld → PreparedView → Tree → Type 0
  IsCellOf t p s = IsOldOrListed H p.cells (states_of t) s

  -- so is each cell that is one of the states of blocks that are there, or is listed: what is said of the tree of each
  -- prepared value, of a zero state, an update, or one over the joined tree of two
  abbrev pub KnownOverStates : Type 0
  KnownOverStates = (t : ToldWorld) (parents : List BlockId) (p : PreparedView) (s : Tree)
      → All (λ q. IsSome (block_at t.world q)) parents
      → IsOldOrListed H p.cells (map t.state parents) s → IsCellOf t p s

  -- where a value clashes with nothing held, trees of held and listed cells are free of clashes together with all states
  abbrev pub StaysClear : Type 0
  StaysClear = (t : ToldWorld) (p : PreparedView) (trees : List Tree) → IsSound H t → IsValid H p.root p.cells
      → first_clash H t p.cells ≡ None → ((s : Tree) → Contains (flat_map subtrees trees) s → IsCellOf t p s)
      → AreClashFree H (states_of t ++ trees)

  -- and over the states of blocks that are there, the value stands for the one tree of such cells whose root shows what
  -- the value's root does: that which was prepared
  abbrev pub StandsForPrepared : Type 0
  StandsForPrepared = (t : ToldWorld) (id : BlockId) (tops parents : List BlockId) (p : PreparedView) (tree : Tree)
      → IsSound H t → IsStorable H id tops p → block_at t.world id ≡ None
      → All (λ q. IsSome (block_at t.world q)) parents
      → Fits H p.root p.cells (map t.state parents) → first_clash H t p.cells ≡ None
      → info_of H tree ≡ p.root → ((s : Tree) → Contains (subtrees tree) s → IsCellOf t p s)
      → made H p (map t.state parents) ≡ tree

-- Trusted: a world knows what the root of a merge's old tree shows.
use Rattle.std.specs.Prelude.{◌≡◌, ℕ, List, [], ◌∷◌, map, All, Option, Some, None, IsSome}
use Rattle.std.specs.Option.{option_map}
use Rattle.cd_base.specs.declared.hash.Hash256.{Hash256}
use Rattle.cd_block.specs.declared.block.BlockId.{BlockId}
use Rattle.cd_cell.specs.Tree.{Tree, info_of}
use Rattle.cd_cell.specs.Joined.{joined_tree}
use Rattle.cd_world.specs.Standing.{block_at}
use Rattle.cd_world.specs.Machine.{old_info}
use Rattle.cd_world.specs.Told.{ToldWorld, IsSound}

-- the old tree over the states of one block or two: the state itself, or the joined tree
abbrev pub old_tree : List Tree → Option Tree
old_tree (state ∷ []) = Some state
old_tree (left ∷ right ∷ []) = Some (joined_tree left right)
old_tree _ = None

-- what the descriptions' roots and depths tell of the old tree is what its root shows
abbrev pub OldTreeIsKnown : (List ℕ → Hash256) → Type 0
OldTreeIsKnown H = (t : ToldWorld) (blocks : List BlockId) → IsSound H t → All (λ q. IsSome (block_at t.world q)) blocks
    → old_info H (map (block_at t.world) blocks) ≡ option_map (info_of H) (old_tree (map t.state blocks))

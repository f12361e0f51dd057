-- Trusted: what a keeper holds tells the blocks with their trees.
use Rattle.std.specs.Prelude.{◌≡◌, ℕ, List, Contains}
use Rattle.cd_base.specs.declared.hash.Hash256.{Hash256}
use Rattle.cd_block.specs.declared.description.Descr.{Descr}
use Rattle.cd_keeper.specs.Contents.{Contents}
use Rattle.cd_world.specs.Image.{IsContentsOf}
use Rattle.cd_world.specs.Told.{ToldWorld, shown, image, IsSound}

-- the same blocks, each with the same tree
pub record HasBlocksOf (t u : ToldWorld) : Type 0 where
  pub blocks : t.world.blocks ≡ u.world.blocks
  pub trees : (d : Descr) → Contains t.world.blocks d → t.state d.id ≡ u.state d.id

module _ (H : List ℕ → Hash256) where
  -- sound worlds with equal images have equal blocks, trees included
  abbrev pub OneImage : Type 0
  OneImage = (t u : ToldWorld) → IsSound H t → IsSound H u → image H t ≡ image H u → HasBlocksOf t u

  -- and contents are of no two
  abbrev pub OneWorld : Type 0
  OneWorld = (t u : ToldWorld) (contents : Contents) → IsSound H t → IsSound H u
      → IsContentsOf H (shown t) contents → IsContentsOf H (shown u) contents → HasBlocksOf t u

-- Trusted: what a migration means for the world whose contents are rewritten.
use Rattle.std.specs.Prelude.{◌≡◌, ℕ, List}
use Rattle.cd_base.specs.declared.hash.Hash256.{Hash256}
use Rattle.cd_keeper.specs.Contents.{Contents}
use Rattle.cd_world.specs.World.{World}
use Rattle.cd_world.specs.Image.{IsContentsOf, image_of}
use Rattle.cd_migrate.specs.Rewritten.{rewritten, after_batches, all_batches}

-- records that are rewritten are the same world's
abbrev pub KeepsTheWorld : (List ℕ → Hash256) → Type 0
KeepsTheWorld H = (world : World) (contents : Contents) (n : ℕ)
    → IsContentsOf H world contents → IsContentsOf H world (rewritten n contents)

-- and once all are, the contents are its image
abbrev pub GivesTheImage : (List ℕ → Hash256) → Type 0
GivesTheImage H = (world : World) (contents : Contents)
    → IsContentsOf H world contents → after_batches (all_batches contents) contents ≡ image_of H world

-- Trusted: what a keeper holds whose contents are those of a sound world.
use Rattle.std.specs.Prelude.{◌≡◌, ℕ, List, length}
use Rattle.cd_base.specs.declared.hash.Hash256.{Hash256}
use Rattle.cd_keeper.specs.Contents.{Contents}
use Rattle.cd_world.specs.Image.{IsContentsOf}
use Rattle.cd_world.specs.Told.{ToldWorld, shown, IsSound}
use Rattle.cd_world.specs.ToldTrees.{HasBytes}

module _ (H : List ℕ → Hash256) where
  -- the contents are those of a sound world, each record is a list of bytes, and each hash has 32
  pub record AreSoundContents (t : ToldWorld) (contents : Contents) : Type 0 where
    pub sound : IsSound H t
    pub are : IsContentsOf H (shown t) contents
    pub bytes : HasBytes contents
    pub wide : (m : List ℕ) → let hash = H m in length hash.0 ≡ 32

-- Trusted: the trees that a keeper's contents tell are those of the world whose contents they are.
use Rattle.std.specs.Prelude.{◌≡◌, ℕ, List, Contains, Some}
use Rattle.std.specs.FinMap as finite
use Rattle.cd_base.specs.declared.hash.Hash256.{Hash256}
use Rattle.cd_base.specs.Numbers.{IsBytes}
use Rattle.cd_block.specs.declared.description.Descr.{Descr}
use Rattle.cd_keeper.specs.Contents.{Contents}
use Rattle.cd_world.specs.Image.{IsContentsOf}
use Rattle.cd_world.specs.Told.{ToldWorld, shown, IsSound}
use Rattle.cd_world.specs.Unfolded.{told_in}

-- each record is a list of bytes
abbrev pub HasBytes : Contents → Type 0
HasBytes contents = (hash bytes : List ℕ) → finite.get contents.cells hash ≡ Some bytes → IsBytes bytes

abbrev pub ContentsTellTrees : (List ℕ → Hash256) → Type 0
ContentsTellTrees H = (t : ToldWorld) (contents : Contents) → IsSound H t → HasBytes contents → IsContentsOf H (shown t) contents
    → (d : Descr) → Contains t.world.blocks d → let told = told_in contents t.world in told.state d.id ≡ t.state d.id

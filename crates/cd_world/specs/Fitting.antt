-- Trusted: a prepared value that fits under live pins fits as long as they are live.
use Rattle.std.specs.Prelude.{ℕ, List, [], ◌∷◌, map}
use Rattle.cd_base.specs.declared.hash.Hash256.{Hash256}
use Rattle.cd_block.specs.declared.description.Descr.{Descr}
use Rattle.cd_cell.specs.Tree.{Tree}
use Rattle.cd_cell.specs.Listings.{Fits}
use Rattle.cd_cell.specs.PreparedView.{PreparedView}
use Rattle.cd_event.specs.declared.entry.Entry.{Entry}
use Rattle.cd_world.specs.declared.world.World.{World}
use Rattle.cd_world.specs.declared.world.PinRow.{PinRow}
use Rattle.cd_world.specs.Machine.{blocks_of}
use Rattle.cd_world.specs.Following.{AllFollow}
use Rattle.cd_world.specs.Told.{ToldWorld, told_replay}
use Rattle.cd_world.specs.Pinning.{NoneEnds, IsHeld}

-- the trees of some pins' blocks
abbrev pub trees_of_pins : ToldWorld → List PinRow → List Tree
trees_of_pins t rows = map t.state (blocks_of rows)

-- each pin is the worker's, and no entry ends it
abbrev pub AreLive : {X : Type 0} → World → ℕ → List (Entry X) → List PinRow → Type 0
AreLive w worker journal [] = Unit {0}
AreLive w worker journal (row ∷ rows) =
    ((d : Descr) × IsHeld w worker row.pin row d) × NoneEnds worker row.pin journal × AreLive w worker journal rows

abbrev pub FitsStay : (List ℕ → Hash256) → Type 0 → Type 0
FitsStay H X = (t : ToldWorld) (journal : List (Entry X)) (worker : ℕ) (rows : List PinRow) (p : PreparedView)
    → AllFollow H t.world journal → AreLive t.world worker journal rows
    → Fits H p.root p.cells (trees_of_pins t rows)
    → Fits H p.root p.cells (trees_of_pins (told_replay H t journal) rows)

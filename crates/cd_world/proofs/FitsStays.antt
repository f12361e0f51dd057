-- A value that fits under live pins fits as long as they are live.
use Rattle.std.proofs.Common.{◌≡◌, ℕ, List, [], ◌∷◌, refl, sym, ap₂, subst}
use Rattle.cd_base.specs.declared.hash.Hash256.{Hash256}
use Rattle.cd_cell.specs.Tree.{Tree}
use Rattle.cd_cell.specs.Listings.{Fits}
use Rattle.cd_event.specs.declared.entry.Entry.{Entry}
use Rattle.cd_world.specs.declared.world.PinRow.{PinRow}
use Rattle.cd_world.specs.Following.{AllFollow}
use Rattle.cd_world.specs.Told.{ToldWorld, told_replay}
use Rattle.cd_world.specs.Fitting.{trees_of_pins, AreLive, FitsStay}
use Rattle.cd_world.proofs.PinsStay.{tree_stays}

module _ (H : List ℕ → Hash256) {X : Type 0} where
  same_trees : (t : ToldWorld) (journal : List (Entry X)) (worker : ℕ) (rows : List PinRow) → AllFollow H t.world journal → AreLive t.world worker journal rows
      → trees_of_pins (told_replay H t journal) rows ≡ trees_of_pins t rows
  same_trees t journal worker [] follow live = refl
  same_trees t journal worker (row ∷ rows) follow live =
      let held = live.0 in
      ap₂ (λ (s : Tree) (ss : List Tree). s ∷ ss) (tree_stays H t journal worker row.pin row held.0 follow live.1 held.1) (same_trees t journal worker rows follow live.2)

  pub fits_stay : FitsStay H X
  fits_stay t journal worker rows p follow live fits = subst (Fits H p.root p.cells) (sym (same_trees t journal worker rows follow live)) fits

-- Trusted: a worker of the tests, whose one block has one empty cell as its state.
use Rattle.std.specs.Prelude.{ℕ, Bool, true, false, List, [], ◌∷◌, Some}
use Rattle.cd_base.specs.declared.hash.Hash256.{Hash256}
use Rattle.cd_cell.specs.Tree.{Tree, cell, no_trees, info_of}
use Rattle.cd_event.specs.Pins.{Named}

-- the cell without bits and references
abbrev pub empty_state : Tree
empty_state = cell false [] no_trees

-- the one pin, once it was given
abbrev pub pins_of : (List ℕ → Hash256) → Bool → List Named
pins_of digest false = []
pins_of digest true = (record { number = 0; root = info_of digest empty_state; tree = Some empty_state }) ∷ []

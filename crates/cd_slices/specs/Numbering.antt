-- Inner: the first so many listed cells with the numbers of their children.
use Rattle.std.specs.Prelude.{◌≡◌, ℕ, ◌<◌, ◌^◌, List, length, map, take, slice_index_or, All}
use Rattle.cd_cell.specs.Listings.{listed_at}
use Rattle.cd_cell.specs.declared.new_cell.NewCell.{NewCell}
use Rattle.cd_slices.specs.declared.export.PlannedCell.{PlannedCell}
use Rattle.cd_slices.specs.Planned.{AreRefsOf}

-- their hashes, and numbers that are written in `size` bytes
pub record AreNumbered (cells : List NewCell) (size count : ℕ) (planned : List PlannedCell) : Type 0 where
  pub counted : length planned ≡ count
  pub hashes : map (λ c. c.hash) planned ≡ map (λ c. c.hash) (take count cells)
  pub refs : (k : ℕ) (d : PlannedCell) → k < count → AreRefsOf cells (listed_at cells k) (slice_index_or planned k d)
  pub fits : All (λ c. All (λ number. number < 256 ^ size) c.refs) planned

-- Trusted: a bag of cells as contracts see it.
use Rattle.std.specs.Prelude.{ℕ, List}
use Rattle.cd_cell.specs.FaceView.{FaceView}

-- the faces of the entries, for each entry four numbers of which the first ones are its children's, and the numbers of
-- the roots
pub record BagView : Type 0 where
  pub cells : List FaceView
  pub refs : List (List ℕ)
  pub roots : List ℕ

-- Trusted: the faces of cells within the limits of a cell.
use Rattle.std.specs.Prelude.{◌≤◌, length}
use Rattle.cd_cell.specs.declared.limits.TheConstants.{MOST_BITS}
use Rattle.cd_cell.specs.FaceView.{FaceView}
use Rattle.cd_cell.specs.Fit.{IsFaceFit}

-- a face as cells have it that passes the check: at most 1023 bits, at most 4 kids, and fit
pub record IsGoodFace (f : FaceView) : Type 0 where
  pub bits : length f.bits ≤ MOST_BITS
  pub kids : length f.kids ≤ 4
  pub fit : IsFaceFit f

-- Trusted: a cell without the cells below it, as contracts see it.
use Rattle.std.specs.Prelude.{Bool, List}
use Rattle.cd_cell.specs.declared.info.ChildInfo.{ChildInfo}

-- the exotic flag, the bits, and what each child shows of itself
pub record FaceView : Type 0 where
  pub exotic : Bool
  pub bits : List Bool
  pub kids : List ChildInfo

-- Trusted: a prepared value as contracts see it.
use Rattle.std.specs.Prelude.{List, Option}
use Rattle.cd_base.specs.declared.hash.Hash256.{Hash256}
use Rattle.cd_cell.specs.declared.info.ChildInfo.{ChildInfo}
use Rattle.cd_cell.specs.declared.new_cell.NewCell.{NewCell}

-- the hash of the old tree, if there is one, what the root shows, and the new cells
pub record PreparedView : Type 0 where
  pub old : Option Hash256
  pub root : ChildInfo
  pub cells : List NewCell

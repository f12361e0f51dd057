-- Inner: what a scan remembers of one stored cell, as contracts see it.
use Rattle.std.specs.Prelude.{ℕ}
use Rattle.cd_base.specs.declared.hash.Hash256.{Hash256}
use Rattle.cd_cell.specs.declared.info.ChildInfo.{ChildInfo}
use Rattle.cd_world.specs.Machine.{plain_info}
use Rattle.cd_restart.specs.declared.row.Shown.{Shown}
use Rattle.cd_restart.specs.declared.row.Shown.TheVariants.{Plain, Masked}

-- what a cell shows of itself
abbrev pub shown_by : Shown → ChildInfo
shown_by (Plain hash depth) = plain_info hash depth
shown_by (Masked info) = info.value

-- the hash, the stored count, the references counted so far, and what the cell shows
pub record RowView : Type 0 where
  pub hash : Hash256
  pub stored : ℕ
  pub counted : ℕ
  pub shown : ChildInfo

use Rattle.std.proofs.Common.{◌≡◌, ◌-◌, ◌^◌, take, drop}
use Rattle.std.specs.Prelude.{min}
use Rattle.std.specs.List.{sum_by}
use Rattle.cd_restart.specs.Lists.{first_of}
use Rattle.cd_restart.specs.RowView.{RowView}
use Rattle.cd_restart.specs.ScanFaults.{row_fault}
use Rattle.cd_restart.proofs.checks.check_counts.Given as goal

abbrev pub invariant-loop-row : goal.invariant-loop-row
invariant-loop-row l = record {
  passed : first_of row_fault (drop l.row-index l.rows) ≡ first_of row_fault l.rows;
  sum : l.counts ≡ min (sum_by (λ (r : RowView). r.stored) (take l.row-index l.rows)) (2 ^ 64 - 1);
}

use Rattle.std.proofs.Common.{◌≡◌, ◌+◌, ◌≤◌, drop, count_by}
use Rattle.cd_run.specs.ReportText.{is_so}
use Rattle.cd_run.proofs.reporting.count_worker.Given as goal

abbrev pub invariant-loop-end : goal.invariant-loop-end
invariant-loop-end l = (l.count + count_by (is_so l.refused) (drop l.end-index l.ends) ≡ count_by (is_so l.refused) l.ends) × (l.count ≤ l.end-index)

use Rattle.std.proofs.Common.{◌≡◌, ◌+◌, ◌*◌, ◌≤◌, drop, map}
use Rattle.cd_run.specs.ReportText.{is_so, count_phase}
use Rattle.cd_run.proofs.reporting.count_phase.Given as goal

abbrev pub invariant-loop-worker : goal.invariant-loop-worker
invariant-loop-worker l = (l.count + count_phase (is_so l.refused) (map (λ w. w.items) (drop l.worker l.ends)) ≡ count_phase (is_so l.refused) (map (λ w. w.items) l.ends))
    × (l.count ≤ 4096 * l.worker)

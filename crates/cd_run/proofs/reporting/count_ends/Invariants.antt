use Rattle.std.proofs.Common.{◌≡◌, ◌+◌, ◌*◌, ◌≤◌, drop}
use Rattle.cd_run.specs.ReportText.{is_so, count_ends, ends_of}
use Rattle.cd_run.proofs.reporting.count_ends.Given as goal

abbrev pub invariant-loop-phase : goal.invariant-loop-phase
invariant-loop-phase l = (l.count + count_ends (is_so l.refused) (ends_of (drop l.phase l.ends)) ≡ count_ends (is_so l.refused) (ends_of l.ends))
    × (l.count ≤ 65536 * l.phase)

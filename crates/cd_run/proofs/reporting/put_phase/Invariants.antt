use Rattle.std.proofs.Common.{◌≡◌, ◌++◌, drop, map, string_bytes}
use Rattle.cd_run.specs.ReportText.{phase_text}
use Rattle.cd_run.proofs.reporting.put_phase.Given as goal

abbrev pub invariant-loop-worker : goal.invariant-loop-worker
invariant-loop-worker l = string_bytes l.text ++ phase_text l.phase l.worker (drop l.worker l.workers) (map (λ w. w.items) (drop l.worker l.ends))
    ≡ string_bytes l.initial.text ++ phase_text l.phase 0 l.workers (map (λ w. w.items) l.ends)

use Rattle.std.proofs.Common.{◌≡◌, ◌++◌, drop, string_bytes}
use Rattle.cd_run.specs.ReportText.{phases_text, ends_of}
use Rattle.cd_run.proofs.reporting.put_phases.Given as goal

abbrev pub invariant-loop-phase : goal.invariant-loop-phase
invariant-loop-phase l = string_bytes l.text ++ phases_text l.phase (drop l.phase l.phases) (ends_of (drop l.phase l.ends))
    ≡ string_bytes l.initial.text ++ phases_text 0 l.phases (ends_of l.ends)

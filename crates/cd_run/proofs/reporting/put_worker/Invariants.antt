use Rattle.std.proofs.Common.{◌≡◌, ◌++◌, drop, string_bytes}
use Rattle.cd_run.specs.ReportText.{worker_text}
use Rattle.cd_run.proofs.reporting.put_worker.Given as goal

abbrev pub invariant-loop-n : goal.invariant-loop-n
invariant-loop-n l = string_bytes l.text ++ worker_text l.phase l.worker l.n (drop l.n l.jobs) (drop l.n l.ends) ≡ string_bytes l.initial.text ++ worker_text l.phase l.worker 0 l.jobs l.ends

use Rattle.std.proofs.Common.{◌≡◌}
use Rattle.std.specs.Prelude.{find}
use Rattle.cd_count.specs.PlanGiving.{rises_over}
use Rattle.cd_count.proofs.adding.check_limit.Given as goal

abbrev pub invariant-loop-hash : goal.invariant-loop-hash
invariant-loop-hash l = record {
  rest : find (λ e. rises_over l.limit e.1) l.rows.entries ≡ find (λ e. rises_over l.limit e.1) l.hash-iterator;
}

-- None of the visits so far is hidden so.
use Rattle.std.proofs.Common.{◌≡◌, take, Some, None}
use Rattle.std.specs.Prelude.{if◌then◌else◌}
use Rattle.cd_update.specs.EachOnce.{first_of}
use Rattle.cd_update.specs.Visits.{visited}
use Rattle.cd_update.specs.Hides.{hides_at}
use Rattle.cd_update.proofs.hiding.hides_among.Given as goal

abbrev pub invariant-loop-visit : goal.invariant-loop-visit
invariant-loop-visit g l = first_of (λ p. if hides_at g.H.Hash32.digest_of l.known p then Some p else None) (visited l.bag (take l.visit-index l.visits)) ≡ None

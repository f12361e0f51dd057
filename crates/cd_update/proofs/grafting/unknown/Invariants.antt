-- The hidden visits so far are known.
use Rattle.std.proofs.Common.{◌≡◌, take, None}
use Rattle.cd_update.specs.EachOnce.{first_of}
use Rattle.cd_update.specs.Visits.{visited}
use Rattle.cd_update.specs.Grafts.{foreign_at}
use Rattle.cd_update.proofs.grafting.unknown.Given as goal

abbrev pub invariant-loop-visit : goal.invariant-loop-visit
invariant-loop-visit g l = first_of (foreign_at g.H.Hash32.digest_of l.known.infos) (visited l.bag (take l.visit-index l.visits)) ≡ None

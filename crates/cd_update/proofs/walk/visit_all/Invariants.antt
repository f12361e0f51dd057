-- The walk so far. Each step leaves fewer places.
use Rattle.std.proofs.Common.{◌≡◌, ◌*◌, length}
use Rattle.cd_update.proofs.Walking.{IsWalking, places_left}
use Rattle.cd_update.proofs.walk.visit_all.Given as goal

abbrev pub invariant-loop-visit : goal.invariant-loop-visit
invariant-loop-visit g l = record {
  walking : IsWalking g.H.Hash32.digest_of l.bag l.fn.start.node l.walk.visits.items l.pending.items;
  wide : length l.walk.numbers.items ≡ 4 * length l.bag.cells;
}

abbrev pub decreases-loop-visit : goal.decreases-loop-visit
decreases-loop-visit g l = places_left l.bag l.pending.items

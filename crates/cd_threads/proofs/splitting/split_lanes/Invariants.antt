use Rattle.std.proofs.Common.{◌≡◌, ◌≤◌, ◌<◌, ◌+◌, ℕ, length, get_or, vec_len, vec_capacity}
use Rattle.cd_gate.specs.Gates.{IsSeatOf, upper_part}
use Rattle.cd_threads.specs.Seats.{IsLaneFor, part_of}
use Rattle.cd_threads.proofs.splitting.split_lanes.Given as goal

abbrev pub invariant-loop-next : goal.invariant-loop-next
invariant-loop-next g l = record {
  count : vec_len l.lanes + 1 ≡ l.next;
  room : l.workers ≤ vec_capacity l.lanes;
  lanes : (k : ℕ) (d : _) → k < length l.lanes.items → IsLaneFor (λ t. t.seat) (λ t. t.db.now) l.db k (part_of l.workers k l.fn.seat) (get_or l.lanes.items k d);
  rest : l.rest ≡ upper_part (vec_len l.lanes) l.fn.seat;
  of : IsSeatOf l.db l.rest;
}

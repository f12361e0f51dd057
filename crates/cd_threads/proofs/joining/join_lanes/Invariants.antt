use Rattle.std.proofs.Common.{◌≡◌, ◌≤◌, ◌<◌, ◌+◌, ◌++◌, ℕ, false, map, take, drop, length, get_or, vec_len, vec_capacity}
use Rattle.cd_gate.specs.Gates.{IsSeatOf}
use Rattle.cd_gate.specs.Histories.{GrewByOthers}
use Rattle.cd_shared.specs.SharedTurns.{worker_of}
use Rattle.cd_threads.specs.Seats.{KnowsSame}
use Rattle.cd_threads.proofs.joining.join_lanes.Given as goal

abbrev pub invariant-loop-place : goal.invariant-loop-place
invariant-loop-place g l = record {
  rest : l.rest.items ≡ drop l._place l.fn.lanes.items;
  of : IsSeatOf l.db l.whole;
  lowest : l.whole.lowest ≡ 0;
  end : l._place < length l.fn.lanes.items → l.whole.end ≡ l._place + 1;
  first : KnowsSame g.H.Hash32.digest_of g.K.Keeper.held l.db.start 0 l.fn.first.seen l.whole.seen;
  knows : (k : ℕ) (d : _) → k < l._place → KnowsSame g.H.Hash32.digest_of g.K.Keeper.held l.db.start (k + 1) (get_or l.fn.lanes.items k d).seat.seat.seen l.whole.seen;
  alone : l._place ≡ 0 → l.whole ≡ l.fn.first;
  last : (d : _) (k : ℕ) → l._place ≡ k + 1 → (l.whole.end ≡ (get_or l.fn.lanes.items k d).seat.seat.end)
      × GrewByOthers worker_of (k + 1) (get_or l.fn.lanes.items k d).seat.seat.end (get_or l.fn.lanes.items k d).seat.seat.seen l.whole.seen;
  ends : l.ends.items ≡ l.initial.ends.items ++ map (λ l. l.outcomes) (take l._place l.fn.lanes.items);
  room : vec_len l.ends + length l.rest.items ≤ vec_capacity l.ends;
  want : l.want ≡ false → (k : ℕ) (d : _) → k < l._place → (let lane = get_or l.fn.lanes.items k d in lane.memory) ≡ false;
}

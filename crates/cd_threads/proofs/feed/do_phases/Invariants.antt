use Rattle.std.proofs.Common.{◌≡◌, take, All}
use Rattle.cd_run.specs.ReportText.{ends_of}
use Rattle.cd_lanes.specs.Lanes.{AreUnserved}
use Rattle.cd_lanes.specs.Left.{LeftByOne, PhaseServed, all_serves}
use Rattle.cd_threads.specs.Whole.{IsAllOf, PhasesDone, pins_seen}
use Rattle.cd_threads.proofs.feed.do_phases.Given as goal

abbrev pub invariant-loop-place : goal.invariant-loop-place
invariant-loop-place g l = record {
  seat : IsAllOf l.db l.seat;
  done : PhasesDone g.H.Hash32.digest_of g.K.Keeper.held l.db (take l.place l.phases) (ends_of l.ends.items) l.seat;
  clients : LeftByOne (All AreUnserved) (PhaseServed (λ b. (goal.SliceClient-dyn g (b.vtable, b.value)).got b.value) (λ b. (goal.SliceClient-dyn g (b.vtable, b.value)).steady b.value) g.H.Hash32.digest_of (pins_seen g.H.Hash32.digest_of g.K.Keeper.held l.db l.seat))
      (take l.place l.phases) (ends_of l.ends.items) l.initial.clients.items l.clients.items;
  untouched : all_serves (take l.place l.phases) ≡ 0 → l.clients.items ≡ l.initial.clients.items;
}

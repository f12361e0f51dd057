use Rattle.std.proofs.Common.{◌≡◌, take, All}
use Rattle.cd_run.specs.ReportText.{ends_of}
use Rattle.cd_lanes.specs.Lanes.{AreUnserved}
use Rattle.cd_lanes.specs.Left.{LeftByOne, PhaseServed, all_serves}
use Rattle.cd_replay.specs.Ran.{FeedDone, pins_in}
use Rattle.cd_replay.proofs.feed.do_feed.Given as goal

abbrev pub invariant-loop-place : goal.invariant-loop-place
invariant-loop-place g l = record {
  done : FeedDone g.H.Hash32.digest_of g.K.Keeper.held g.K.Keeper.faults (take l.place l.feed.phases) (ends_of l.ends.items) l.initial.core l.core;
  clients : LeftByOne (All AreUnserved) (PhaseServed (λ b. (goal.SliceClient-dyn g (b.vtable, b.value)).got b.value) (λ b. (goal.SliceClient-dyn g (b.vtable, b.value)).steady b.value) g.H.Hash32.digest_of (pins_in g.H.Hash32.digest_of g.K.Keeper.held l.core))
      (take l.place l.feed.phases) (ends_of l.ends.items) l.initial.clients.items l.clients.items;
  untouched : all_serves (take l.place l.feed.phases) ≡ 0 → l.clients.items ≡ l.initial.clients.items;
}

use Rattle.std.proofs.Common.{◌≡◌, take, map}
use Rattle.cd_lanes.specs.Lanes.{AreUnserved}
use Rattle.cd_lanes.specs.Left.{LeftByOne, WorkerServed, serves_of}
use Rattle.cd_replay.specs.Ran.{PhaseDone, pins_in}
use Rattle.cd_replay.proofs.phase.do_phase.Given as goal

abbrev pub invariant-loop-place : goal.invariant-loop-place
invariant-loop-place g l = record {
  done : PhaseDone g.H.Hash32.digest_of g.K.Keeper.held g.K.Keeper.faults l.phase (take l.place l.workers) (map (λ its. its.items) l.ends.items) l.initial.core l.core;
  clients : LeftByOne AreUnserved (WorkerServed (λ b. (goal.SliceClient-dyn g (b.vtable, b.value)).got b.value) (λ b. (goal.SliceClient-dyn g (b.vtable, b.value)).steady b.value) g.H.Hash32.digest_of (pins_in g.H.Hash32.digest_of g.K.Keeper.held l.core))
      (take l.place l.workers) (map (λ its. its.items) l.ends.items) l.initial.clients.items l.clients.items;
  untouched : serves_of (take l.place l.workers) ≡ 0 → l.clients.items ≡ l.initial.clients.items;
}

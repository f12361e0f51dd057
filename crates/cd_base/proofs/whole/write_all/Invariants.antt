use Rattle.std.proofs.Common.{◌≡◌, ◌≤◌, ◌-◌, length, take}
use Rattle.cd_base.specs.Told.{Got}
use Rattle.cd_base.proofs.whole.write_all.Given as goal

-- the front that was sent was taken
abbrev pub invariant-loop-sent : goal.invariant-loop-sent
invariant-loop-sent g l =
    let taken = g.O.Sink.taken in
    record {
      within : l.sent ≤ length l.piece;
      got : Got (taken l.fn.sink) (taken l.sink) (take l.sent l.piece);
      counted : g.O.Sink.faults l.sink ≡ g.O.Sink.faults l.fn.sink;
    }

abbrev pub decreases-loop-sent : goal.decreases-loop-sent
decreases-loop-sent g l = length l.piece - l.sent

use Rattle.std.proofs.Common.{◌≡◌, ◌-◌, ◌≤◌, false, length}
use Rattle.cd_feed.specs.FeedReading.{each_from, phase_at}
use Rattle.cd_feed.proofs.FeedLoops.{behind}
use Rattle.cd_feed.proofs.reading.phases_at.Given as goal

abbrev pub invariant-loop-phase : goal.invariant-loop-phase
invariant-loop-phase l = record {
  read : behind l.phases.items (each_from (phase_at l.total) l.phase (l.count - l.phase) (record { served = l.seen; bytes = l.rest }))
      ≡ each_from (phase_at l.total) 0 l.count (record { served = false; bytes = l.bytes });
  shorter : length l.rest ≤ length l.bytes;
}

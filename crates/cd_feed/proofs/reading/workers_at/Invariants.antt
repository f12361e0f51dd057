use Rattle.std.proofs.Common.{◌≡◌, ◌-◌, ◌≤◌, length}
use Rattle.cd_feed.specs.FeedReading.{each_from, worker_at, workers_at}
use Rattle.cd_feed.proofs.FeedLoops.{behind}
use Rattle.cd_feed.proofs.reading.workers_at.Given as goal

abbrev pub invariant-loop-worker : goal.invariant-loop-worker
invariant-loop-worker l = record {
  read : behind l.workers.items (each_from (worker_at l.total l.phase) l.worker (l.count - l.worker) (record { served = l.seen; bytes = l.rest }))
      ≡ workers_at l.total l.phase l.count (record { served = l.served; bytes = l.bytes });
  shorter : length l.rest ≤ length l.bytes;
}

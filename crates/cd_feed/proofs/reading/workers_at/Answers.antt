use Rattle.std.proofs.Common.{arith}
use Rattle.cd_feed.specs.FeedReading.{worker_at, workers_at}
use Rattle.cd_feed.proofs.FeedLoops.{from_goes_on, from_stops, from_done}
use Rattle.cd_feed.proofs.reading.workers_at.Goals as goal

pub returns-in-Err-clause-exact : goal.returns-in-Err-clause-exact
returns-in-Err-clause-exact c = λ other. from_stops (worker_at c.args.total c.args.phase) c.in-Err.fault c.loop-worker.workers.items c.args.count c.loop-worker.worker
    (record { served = c.loop-worker.seen; bytes = c.loop-worker.rest.now }) (workers_at c.args.total c.args.phase c.args.count (record { served = c.args.served; bytes = c.args.bytes.now }))
    c.loop-worker-test.true (c.in-Err.ensures.exact other) c.loop-worker.invariant.read

pub loop-worker-preserved : goal.loop-worker-preserved
loop-worker-preserved c = record {
  read = rw c.in_ok-push.ensures.items (from_goes_on (worker_at c.args.total c.args.phase) c.loop-worker.workers.items c.args.count c.loop-worker.worker
      (record { served = c.loop-worker.seen; bytes = c.loop-worker.rest.now }) (record { served = c.in-Ok.found.1; bytes = c.in-Ok.found.2.now }) c.in-Ok.found.0
      (workers_at c.args.total c.args.phase c.args.count (record { served = c.args.served; bytes = c.args.bytes.now }))
      c.loop-worker-test.true c.in-Ok.ensures.exact c.loop-worker.invariant.read);
  shorter = omega (arith, c.in-Ok.ensures.rest, c.loop-worker.invariant.shorter);
}

pub returns-clause-exact : goal.returns-clause-exact
returns-clause-exact c = from_done (worker_at c.args.total c.args.phase) c.loop-worker.workers.items c.args.count c.loop-worker.worker
    (record { served = c.loop-worker.seen; bytes = c.loop-worker.rest.now }) (workers_at c.args.total c.args.phase c.args.count (record { served = c.args.served; bytes = c.args.bytes.now }))
    c.loop-worker-test.false c.loop-worker.invariant.read

use Rattle.std.proofs.Common.{arith, false, refl}
use Rattle.cd_feed.specs.FeedReading.{each_from, phase_at}
use Rattle.cd_feed.proofs.FeedLoops.{from_goes_on, from_stops, from_done}
use Rattle.cd_feed.proofs.reading.phases_at.Goals as goal

pub returns-in-Err-clause-exact : goal.returns-in-Err-clause-exact
returns-in-Err-clause-exact c = λ other. rw (from_stops (phase_at c.args.total) c.in-Err.fault c.loop-phase.phases.items c.args.count c.loop-phase.phase
    (record { served = c.loop-phase.seen; bytes = c.loop-phase.rest.now }) (each_from (phase_at c.args.total) 0 c.args.count (record { served = false; bytes = c.args.bytes.now }))
    c.loop-phase-test.true (c.in-Err.ensures.exact other) c.loop-phase.invariant.read) refl

pub loop-phase-preserved : goal.loop-phase-preserved
loop-phase-preserved c = record {
  read = rw c.in_ok-push.ensures.items (from_goes_on (phase_at c.args.total) c.loop-phase.phases.items c.args.count c.loop-phase.phase
      (record { served = c.loop-phase.seen; bytes = c.loop-phase.rest.now }) (record { served = c.in-Ok.found.1; bytes = c.in-Ok.found.2.now }) c.in-Ok.found.0
      (each_from (phase_at c.args.total) 0 c.args.count (record { served = false; bytes = c.args.bytes.now }))
      c.loop-phase-test.true c.in-Ok.ensures.exact c.loop-phase.invariant.read);
  shorter = omega (arith, c.in-Ok.ensures.rest, c.loop-phase.invariant.shorter);
}

pub returns-clause-exact : goal.returns-clause-exact
returns-clause-exact c = rw (from_done (phase_at c.args.total) c.loop-phase.phases.items c.args.count c.loop-phase.phase
    (record { served = c.loop-phase.seen; bytes = c.loop-phase.rest.now }) (each_from (phase_at c.args.total) 0 c.args.count (record { served = false; bytes = c.args.bytes.now }))
    c.loop-phase-test.false c.loop-phase.invariant.read) refl

use Rattle.std.proofs.lemmas.Result.{err_from_is_err_and}
use Rattle.cd_base.specs.Reading.{each_at}
use Rattle.cd_base.proofs.ReadingLaws.{each_goes_on, each_stops, each_done}
use Rattle.std.proofs.Common.{arith}
use Rattle.cd_feed.specs.declared.feed_fault.FeedFault.TheVariants.{Cut}
use Rattle.cd_feed.specs.FeedReading.{within_at}
use Rattle.cd_feed.proofs.fields.steps_at.Goals as goal

pub returns-in_err-step-clause-exact : goal.returns-in_err-step-clause-exact
returns-in_err-step-clause-exact c =
    let p = err_from_is_err_and c.from_residual-in_err-step.result c.from_residual-in_err-step.ensures.1 in
    rw (p.1, p.2) (λ _. each_stops (within_at (Cut c.args.total) c.args.fault 1 0 3) c.in_err-step.field-0.0 c.loop.steps.items c.args.count c.loop.counter c.loop.rest.now (each_at (within_at (Cut c.args.total) c.args.fault 1 0 3) c.args.count c.args.bytes.now) c.loop-test.true (rw c.cut.ensures at c.in_err-step.ensures.exact) c.loop.invariant.read)

pub loop-preserved : goal.loop-preserved
loop-preserved c = record {
  read = rw c.in_ok-push.ensures.items (each_goes_on (within_at (Cut c.args.total) c.args.fault 1 0 3) c.loop.steps.items c.args.count c.loop.counter c.loop.rest.now c.in_ok-step.after.now c.in_ok-step.step (each_at (within_at (Cut c.args.total) c.args.fault 1 0 3) c.args.count c.args.bytes.now) c.loop-test.true (rw c.cut.ensures at c.in_ok-step.ensures.exact) c.loop.invariant.read);
  shorter = omega (arith, c.in_ok-step.ensures.rest, c.loop.invariant.shorter);
}

pub returns-clause-exact : goal.returns-clause-exact
returns-clause-exact c = each_done (within_at (Cut c.args.total) c.args.fault 1 0 3) c.loop.steps.items c.args.count c.loop.counter c.loop.rest.now (each_at (within_at (Cut c.args.total) c.args.fault 1 0 3) c.args.count c.args.bytes.now) c.loop-test.false c.loop.invariant.read

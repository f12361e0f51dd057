use Rattle.std.proofs.lemmas.Result.{err_from_is_err_and}
use Rattle.cd_base.specs.Reading.{each_at}
use Rattle.cd_base.proofs.ReadingLaws.{each_goes_on, each_stops, each_done}
use Rattle.std.proofs.Common.{arith}
use Rattle.cd_feed.specs.FeedReading.{id_at}
use Rattle.cd_feed.proofs.fields.ids_at.Goals as goal

pub returns-in_err-id-clause-exact : goal.returns-in_err-id-clause-exact
returns-in_err-id-clause-exact c =
    let p = err_from_is_err_and c.from_residual-in_err-id.result c.from_residual-in_err-id.ensures.1 in
    rw (p.1, p.2) (λ _. each_stops (id_at c.args.total) c.in_err-id.field-0.0 c.loop.ids.items c.args.count c.loop.counter c.loop.rest.now (each_at (id_at c.args.total) c.args.count c.args.bytes.now) c.loop-test.true c.in_err-id.ensures.exact c.loop.invariant.read)

pub loop-preserved : goal.loop-preserved
loop-preserved c = record {
  read = rw c.in_ok-push.ensures.items (each_goes_on (id_at c.args.total) c.loop.ids.items c.args.count c.loop.counter c.loop.rest.now c.in_ok-id.after.now c.in_ok-id.id (each_at (id_at c.args.total) c.args.count c.args.bytes.now) c.loop-test.true c.in_ok-id.ensures.exact c.loop.invariant.read);
  shorter = omega (arith, c.in_ok-id.ensures.rest, c.loop.invariant.shorter);
}

pub returns-clause-exact : goal.returns-clause-exact
returns-clause-exact c = each_done (id_at c.args.total) c.loop.ids.items c.args.count c.loop.counter c.loop.rest.now (each_at (id_at c.args.total) c.args.count c.args.bytes.now) c.loop-test.false c.loop.invariant.read

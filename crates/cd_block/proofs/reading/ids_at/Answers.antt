use Rattle.std.proofs.lemmas.Result.{err_from_is_err_and}
use Rattle.cd_base.specs.Reading.{each_at}
use Rattle.cd_base.proofs.ReadingLaws.{each_goes_on, each_stops, each_done}
use Rattle.cd_block.specs.Reading.{id_at}
use Rattle.cd_block.proofs.reading.ids_at.Goals as goal

pub returns-in_err-id : goal.returns-in_err-id
returns-in_err-id c =
    let p = err_from_is_err_and c.from_residual-in_err-id.result c.from_residual-in_err-id.ensures.1 in
    rw (p.1, p.2) (λ _. each_stops id_at c.in_err-id.field-0.0 c.loop.ids.items c.args.count c.loop.counter c.loop.rest.now (each_at id_at c.args.count c.args.bytes.now) c.loop-test.true c.in_err-id.ensures c.loop.invariant)

pub loop-preserved : goal.loop-preserved
loop-preserved c =
    rw c.in_ok-push.ensures.items (each_goes_on id_at c.loop.ids.items c.args.count c.loop.counter c.loop.rest.now c.in_ok-id.after.now c.in_ok-id.id (each_at id_at c.args.count c.args.bytes.now) c.loop-test.true c.in_ok-id.ensures c.loop.invariant)

pub returns : goal.returns
returns c = each_done id_at c.loop.ids.items c.args.count c.loop.counter c.loop.rest.now (each_at id_at c.args.count c.args.bytes.now) c.loop-test.false c.loop.invariant

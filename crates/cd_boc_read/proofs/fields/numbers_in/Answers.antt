use Rattle.cd_boc_read.specs.Reading.{numbers_in}
use Rattle.cd_boc_read.proofs.Loops.{numbers_more, numbers_done}
use Rattle.cd_boc_read.proofs.fields.numbers_in.Goals as goal

pub loop-preserved : goal.loop-preserved
loop-preserved c =
    rw (c.in_ok-push.ensures.items, c.small.ensures, c.parted.ensures.front, c.parted.ensures.rest, c.from.ensures)
    (numbers_more c.loop.numbers.items c.args.len c.args.count c.loop.counter c.loop.rest.now (numbers_in c.args.len c.args.count c.args.bytes.now) c.loop-test.true c.loop.invariant)

pub returns : goal.returns
returns c = numbers_done c.loop.numbers.items c.args.len c.args.count c.loop.counter c.loop.rest.now (numbers_in c.args.len c.args.count c.args.bytes.now) c.loop-test.false c.loop.invariant

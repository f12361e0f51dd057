-- The children so far, and those that are still read.
use Rattle.std.proofs.Common.{◌≡◌, take, Ok, arith, ap, ◌∙◌}
use Rattle.std.proofs.lemmas.List.{length-set, take_more_set}
use Rattle.cd_base.specs.Reading.{each_at}
use Rattle.cd_base.proofs.ReadingLaws.{each_goes_on, each_stops, each_done}
use Rattle.cd_record.specs.RecordReading.{kid_at}
use Rattle.cd_record.proofs.reading.kids_at.Goals as goal

pub returns-in-Err : goal.returns-in-Err
returns-in-Err c =
    each_stops kid_at c.in-Err.fault (take c.loop-place.place c.loop-place.kids) c.args.count c.loop-place.place c.loop-place.rest.now (each_at kid_at c.args.count c.args.bytes.now) c.loop-place-test.true c.in-Err.ensures c.loop-place.invariant.read

pub loop-place-preserved : goal.loop-place-preserved
loop-place-preserved c =
    let kids = c.loop-place.kids in
    let place = c.loop-place.place in
    let kid = c.in-Ok.found.0 in
    rw c.from.ensures
    (record {
      read = rw (take_more_set kids place kid (omega (arith, c.loop-place.invariant.long, c.requires)))
          (each_goes_on kid_at (take place kids) c.args.count place c.loop-place.rest.now c.in-Ok.found.1.now kid (each_at kid_at c.args.count c.args.bytes.now) c.loop-place-test.true c.in-Ok.ensures c.loop-place.invariant.read);
      long = simp length-set c.loop-place.invariant.long;
    })

pub returns : goal.returns
returns c =
    let end : c.args.count ≡ c.loop-place.place = omega arith in
    each_done kid_at (take c.loop-place.place c.loop-place.kids) c.args.count c.loop-place.place c.loop-place.rest.now (each_at kid_at c.args.count c.args.bytes.now) c.loop-place-test.false c.loop-place.invariant.read
    ∙ ap (λ n. Ok (take n c.loop-place.kids, c.loop-place.rest.now)) (omega arith)

use Rattle.std.proofs.Common.{◌≡◌, ◌∷◌, length, Some, refl, sym, ap, ◌∙◌, subst, arith}
use Rattle.std.specs.Option.{option_map}
use Rattle.std.specs.FinMap as finite
use Rattle.std.proofs.lemmas.Option.{IfSome_then}
use Rattle.std.proofs.lemmas.Result.{err_from_is_err_and}
use Rattle.cd_cell.proofs.Subtrees.{Contains-nil}
use Rattle.cd_keeper.specs.Contents.{Contents}
use Rattle.cd_keeper.specs.Shown.{hash_bytes}
use Rattle.cd_world.specs.Walks.{above}
use Rattle.cd_migrate.specs.declared.migrated.Migrated.{Migrated}
use Rattle.cd_migrate.specs.Rewritten.{migrated_of}
use Rattle.cd_migrate.specs.Walking.{upto, bound_of, IsApart, IsUnderWay}
use Rattle.cd_migrate.proofs.Way.{if_some-is, if_ok-told, way-begins, way-kept, next-met, none-left, met-within, met-count, part-refused, part-again}
use Rattle.cd_migrate.proofs.migrating.migrate.Goals as goal

pub reading-init : goal.reading-init
reading-init g c = let k = g.K.Keeper in record {
  way = if_some-is _ (k.held c.args.keeper.now)
      (λ contents is. (subst (IsUnderWay k.held k.trail k.batches contents c.args.keeper.now c.args.keeper.now) (sym c.new-migration.ensures) (way-begins k.held k.trail k.batches contents c.args.keeper.now is), omega arith));
  apart = subst IsApart (sym c.new-migration.ensures) record { only = refl; met = λ e h. absurd (Contains-nil e h) };
  steady = refl;
}

pub returns-in_err-hash-clause-part : goal.returns-in_err-hash-clause-part
returns-in_err-hash-clause-part g c =
    let k = g.K.Keeper in
    let gives = err_from_is_err_and c.from_residual.result c.from_residual.ensures.1 in
    IfSome_then (k.held c.args.keeper.now) c.reading.invariant.way
    (λ contents w. part-refused k.held k.trail k.batches contents c.args.keeper.now c.reading.keeper c.reading.migration w.0 c.next_cell.new.self c.in_err-hash.ensures.keeps c.from_residual.result gives.0 gives.1)

pub returns-in_err-hash-clause-reads : goal.returns-in_err-hash-clause-reads
returns-in_err-hash-clause-reads g c =
    let k = g.K.Keeper in
    IfSome_then (k.held c.args.keeper.now) c.reading.invariant.way
    (λ contents w. (let reads = c.in_err-hash.ensures.reads in let so = w.1 in let within = met-within k.held k.trail k.batches contents c.args.keeper.now c.reading.keeper c.reading.migration w.0 in omega (arith, reads, so, within)))

pub returns-in_default-clause-part : goal.returns-in_default-clause-part
returns-in_default-clause-part g c =
    let k = g.K.Keeper in
    IfSome_then (k.held c.args.keeper.now) c.reading.invariant.way
    (λ contents w.
    let way = way-kept k.held k.trail k.batches contents c.args.keeper.now c.reading.keeper c.reading.migration w.0 c.next_cell.new.self c.in_ok-hash.ensures.keeps in
    let none = none-left k.held k.trail k.batches contents c.args.keeper.now c.reading.keeper c.reading.migration w.0 (rw c.in_default.is at c.in_ok-hash.ensures.value) in
    c.finish.ensures.part contents c.args.keeper.now way none)

pub returns-in_default-clause-numbers : goal.returns-in_default-clause-numbers
returns-in_default-clause-numbers g c =
    let k = g.K.Keeper in
    if_ok-told (λ (contents : Contents) (done : Migrated). done ≡ migrated_of contents) (k.held c.args.keeper.now) c.finish.result
    (IfSome_then (k.held c.args.keeper.now) c.reading.invariant.way
    (λ contents w.
    let way = way-kept k.held k.trail k.batches contents c.args.keeper.now c.reading.keeper c.reading.migration w.0 c.next_cell.new.self c.in_ok-hash.ensures.keeps in
    let none = none-left k.held k.trail k.batches contents c.args.keeper.now c.reading.keeper c.reading.migration w.0 (rw c.in_default.is at c.in_ok-hash.ensures.value) in
    c.finish.ensures.numbers contents c.args.keeper.now way none))

pub returns-in_default-clause-reads : goal.returns-in_default-clause-reads
returns-in_default-clause-reads g c =
    let k = g.K.Keeper in
    IfSome_then (k.held c.args.keeper.now) c.reading.invariant.way
    (λ contents w. (let reads = c.in_ok-hash.ensures.reads in let last = c.finish.ensures.reads in let so = w.1 in let within = met-within k.held k.trail k.batches contents c.args.keeper.now c.reading.keeper c.reading.migration w.0 in omega (arith, reads, last, so, within)))

pub returns-in_err-take_in-clause-part : goal.returns-in_err-take_in-clause-part
returns-in_err-take_in-clause-part g c =
    let k = g.K.Keeper in
    let gives = err_from_is_err_and c.from_residual-in_err-take_in.result c.from_residual-in_err-take_in.ensures.1 in
    IfSome_then (k.held c.args.keeper.now) c.reading.invariant.way
    (λ contents w.
    let way = way-kept k.held k.trail k.batches contents c.args.keeper.now c.reading.keeper c.reading.migration w.0 c.next_cell.new.self c.in_ok-hash.ensures.keeps in
    part-again k.held k.trail k.batches contents c.args.keeper.now c.take_in.new.keeper _ (rw c.in_err-take_in.was at c.take_in.ensures.part contents c.args.keeper.now way) c.from_residual-in_err-take_in.result gives.0 gives.1)

pub returns-in_err-take_in-clause-reads : goal.returns-in_err-take_in-clause-reads
returns-in_err-take_in-clause-reads g c =
    let k = g.K.Keeper in
    IfSome_then (k.held c.args.keeper.now) c.reading.invariant.way
    (λ contents w. (let reads = c.in_ok-hash.ensures.reads in let last = c.take_in.ensures.reads in let so = w.1 in let within = met-within k.held k.trail k.batches contents c.args.keeper.now c.reading.keeper c.reading.migration w.0 in omega (arith, reads, last, so, within)))

pub reading-preserved : goal.reading-preserved
reading-preserved g c =
    let k = g.K.Keeper in
    let so = c.reading.invariant in
    let hash = c.in-Some.hash in
    let bytes = c.in-Some.bytes.items in
    let step = c.in_ok-take_in.ensures in
    record {
      way = IfSome_then (k.held c.args.keeper.now) so.way
          (λ contents w.
          let way = way-kept k.held k.trail k.batches contents c.args.keeper.now c.reading.keeper c.reading.migration w.0 c.next_cell.new.self c.in_ok-hash.ensures.keeps in
          let high = rw c.in-Some.is at c.in_ok-hash.ensures.above in
          let next = next-met k.held k.trail k.batches contents c.args.keeper.now c.reading.keeper c.reading.migration w.0 hash bytes high (rw c.in-Some.is at c.in_ok-hash.ensures.value) in
          let count = met-count k.held k.trail k.batches contents c.args.keeper.now c.reading.keeper c.reading.migration w.0 hash bytes next in
          let bound : length (upto (bound_of c.take_in.new.self) (finite.entries contents.cells)) ≡ length (upto (Some hash.0) (finite.entries contents.cells)) = ap (λ o. length (upto (option_map hash_bytes o) (finite.entries contents.cells))) step.met in
          (step.way contents c.args.keeper.now way (next ∙ ap (λ bs. (hash.0, bs) ∷ above (Some hash.0) (finite.entries contents.cells)) (sym c.as_slice.ensures.value)), (let reads = c.in_ok-hash.ensures.reads in let last = c.take_in.ensures.reads in let reads_so = w.1 in omega (arith, reads, last, reads_so, count, bound))));
      apart = step.apart;
      steady = step.cause.steady ∙ c.in_ok-hash.ensures.cause.steady ∙ so.steady;
    }

pub returns-clause-part : goal.returns-clause-part
returns-clause-part g c =
    let k = g.K.Keeper in
    IfSome_then (k.held c.args.keeper.now) c.reading.invariant.way
    (λ contents w. part-refused k.held k.trail k.batches contents c.args.keeper.now c.reading.keeper c.reading.migration w.0 c.reading.keeper record { same_held = refl; same_trail = refl; same_batches = refl } _ _ refl)

pub returns-clause-reads : goal.returns-clause-reads
returns-clause-reads g c =
    let k = g.K.Keeper in
    IfSome_then (k.held c.args.keeper.now) c.reading.invariant.way
    (λ contents w. (let so = w.1 in let within = met-within k.held k.trail k.batches contents c.args.keeper.now c.reading.keeper c.reading.migration w.0 in omega (arith, so, within)))

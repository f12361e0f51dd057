use Rattle.std.proofs.Common.{◌≡◌, length, true, false, nat_eq, ap, arith}
use Rattle.std.proofs.lemmas.Bool.Decides.{nat_tests}
use Rattle.std.proofs.lemmas.List.{length-map}
use Rattle.std.proofs.lemmas.Result.{err_from_is_err_and}
use Rattle.cd_keeper.specs.Shown.{entry_of, hash_bytes}
use Rattle.cd_migrate.proofs.Way.{part-refused, part-ended, part-last, numbers-are}
use Rattle.cd_migrate.proofs.migrating.Migration.finish.Goals as goal

pub returns-then-is_empty-clause-part : goal.returns-then-is_empty-clause-part
returns-then-is_empty-clause-part g c contents start way none =
    let k = g.K.Keeper in
    let long = ap length c.put_cells.ensures.value in
    let counted = length-map c.put_cells.result.now (entry_of hash_bytes) in
    let empty : true ≡ nat_eq (length c.put_cells.result.now) 0 = c.if-is_empty.ensures in
    part-ended k.held k.trail k.batches contents start c.args.keeper.now c.args.self way none (grind (arith, nat_tests, long, counted, empty))

pub returns-then-is_empty-clause-numbers : goal.returns-then-is_empty-clause-numbers
returns-then-is_empty-clause-numbers g c contents start way none =
    let k = g.K.Keeper in
    numbers-are k.held k.trail k.batches contents start c.args.keeper.now c.args.self way none

pub returns-in_err-apply-clause-part : goal.returns-in_err-apply-clause-part
returns-in_err-apply-clause-part g c contents start way none =
    let k = g.K.Keeper in
    let gives = err_from_is_err_and c.from_residual.result c.from_residual.ensures.1 in
    part-refused k.held k.trail k.batches contents start c.args.keeper.now c.args.self way c.apply.new.self c.in_err-apply.ensures.undone c.from_residual.result gives.0 gives.1

pub returns-clause-part : goal.returns-clause-part
returns-clause-part g c contents start way none =
    let k = g.K.Keeper in
    let long = ap length c.put_cells.ensures.value in
    let counted = length-map c.put_cells.result.now (entry_of hash_bytes) in
    let some : false ≡ nat_eq (length c.put_cells.result.now) 0 = c.if-is_empty.ensures in
    part-last k.held k.trail k.batches contents start c.args.keeper.now c.args.self way none c.apply.new.self c.requires.apart (grind (arith, nat_tests, long, counted, some)) c.in_ok-apply.ensures.done

pub returns-clause-numbers : goal.returns-clause-numbers
returns-clause-numbers g c contents start way none =
    let k = g.K.Keeper in
    numbers-are k.held k.trail k.batches contents start c.args.keeper.now c.args.self way none

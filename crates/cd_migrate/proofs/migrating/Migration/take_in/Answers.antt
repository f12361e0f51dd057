use Rattle.std.proofs.Common.{length, refl, sym, ap, subst, arith}
use Rattle.std.proofs.lemmas.List.{length-map}
use Rattle.cd_keeper.specs.Shown.{entry_of, hash_bytes}
use Rattle.cd_world.specs.Image.{plain_record}
use Rattle.cd_migrate.specs.Rewritten.{is_old_text}
use Rattle.cd_migrate.specs.Walking.{IsUnderWay}
use Rattle.cd_migrate.proofs.Way.{on-ok, no-text, a-text, is-new, apart-kept, apart-more, part-left, part-after, way-passed, way-taken, way-written}
use Rattle.cd_migrate.proofs.migrating.Migration.take_in.Goals as goal

pub returns-in_err-text-clause-part : goal.returns-in_err-text-clause-part
returns-in_err-text-clause-part g c contents start way =
    let k = g.K.Keeper in
    part-left k.held k.trail k.batches contents start c.args.keeper.now c.args.self.now way c.args.keeper.now record { same_held = refl; same_trail = refl; same_batches = refl } c.from_residual.result

pub returns-in_default-clause-apart : goal.returns-in_default-clause-apart
returns-in_default-clause-apart g c = apart-kept c.args.self.now c.requires.apart c.args.hash c.requires.above _

pub returns-in_default-clause-way : goal.returns-in_default-clause-way
returns-in_default-clause-way g c contents start way next =
    let k = g.K.Keeper in
    let bytes = c.args.bytes.now in
    let other = no-text (is_old_text bytes) (plain_record bytes) (rw c.in_default.is at c.in_ok-text.ensures) in
    way-passed k.held k.trail k.batches contents start c.args.keeper.now c.args.self.now way c.args.hash bytes next _ c.saturating_add-self.ensures other refl

pub put_cell-requires : goal.put_cell-requires
put_cell-requires g c = is-new c.args.self.now c.requires.apart c.args.hash c.requires.above

pub returns-in_err-put_cell-clause-part : goal.returns-in_err-put_cell-clause-part
returns-in_err-put_cell-clause-part g c contents start way =
    let k = g.K.Keeper in
    part-left k.held k.trail k.batches contents start c.args.keeper.now c.args.self.now way c.args.keeper.now record { same_held = refl; same_trail = refl; same_batches = refl } c.from_residual-in_err-put_cell.result

pub returns-then-put_cells-lt-BATCH_RECORDS-clause-apart :
    goal.returns-then-put_cells-lt-BATCH_RECORDS-clause-apart
returns-then-put_cells-lt-BATCH_RECORDS-clause-apart g c =
    apart-more c.args.self.now c.requires.apart c.args.hash c.requires.above c.in-Some.text.items c.put_cell.new.self _ c.in_ok-put_cell.ensures.ok

pub returns-then-put_cells-lt-BATCH_RECORDS-clause-way :
    goal.returns-then-put_cells-lt-BATCH_RECORDS-clause-way
returns-then-put_cells-lt-BATCH_RECORDS-clause-way g c contents start way next =
    let k = g.K.Keeper in
    let bytes = c.args.bytes.now in
    let found = a-text (is_old_text bytes) (plain_record bytes) c.in-Some.text.items (rw c.in-Some.is at c.in_ok-text.ensures) in
    let long = ap length c.put_cells.ensures.value in
    let counted = length-map c.put_cells.result.now (entry_of hash_bytes) in
    let few = c.if-put_cells-lt-BATCH_RECORDS.true in
    way-taken k.held k.trail k.batches contents start c.args.keeper.now c.args.self.now way c.args.hash bytes next _ c.saturating_add-self.ensures found.0 c.put_cell.new.self c.requires.apart
    (rw found.1 at c.in_ok-put_cell.ensures.ok) c.saturating_add-self-2.ensures (omega (arith, long, counted, few))

pub returns-clause-way : goal.returns-clause-way
returns-clause-way g c contents start way next =
    let k = g.K.Keeper in
    let bytes = c.args.bytes.now in
    let found = a-text (is_old_text bytes) (plain_record bytes) c.in-Some.text.items (rw c.in-Some.is at c.in_ok-text.ensures) in
    let long = ap length c.put_cells.ensures.value in
    let counted = length-map c.put_cells.result.now (entry_of hash_bytes) in
    let many = c.if-put_cells-lt-BATCH_RECORDS.false in
    let step = way-written k.held k.trail k.batches contents start c.args.keeper.now c.args.self.now way c.args.hash bytes next _ c.saturating_add-self.ensures found.0 c.put_cell.new.self c.requires.apart
    (rw found.1 at c.in_ok-put_cell.ensures.ok) c.saturating_add-self-2.ensures c.write.new.keeper (omega (arith, long, counted, many)) in
    on-ok c.write.result c.write.ensures.done c.write.ensures.begun
    (λ done begun. subst (IsUnderWay k.held k.trail k.batches contents start c.write.new.keeper) (sym begun) (step done))

pub returns-clause-part : goal.returns-clause-part
returns-clause-part g c contents start way =
    let k = g.K.Keeper in
    part-after k.held k.trail k.batches contents start c.args.keeper.now c.args.self.now way c.write.new.keeper c.write.result c.write.ensures.undone

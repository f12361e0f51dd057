use Rattle.std.proofs.Common.{◌≡◌, List, Option, Some, None, IsSome, IfSome, refl, sym, ap, ◌∙◌, cond, subst}
use Rattle.std.specs.Option.{option_map}
use Rattle.std.specs.Ordering.{is_eq}
use Rattle.std.specs.BTreeMap as tree
use Rattle.cd_base.specs.declared.hash.Hash256.{Hash256}
use Rattle.cd_cell.specs.Export.{hash_cmp}
use Rattle.cd_keeper.specs.Contents.{Contents}
use Rattle.cd_count.specs.declared.rows.Row.{Row}
use Rattle.cd_count.specs.Reading.{stored_in}
use Rattle.cd_count.specs.PlanSteps.{RowMap, first_row, IsTaken}
use Rattle.cd_count.proofs.Steps.{taken-there, taken-read, taken-nothing, if_some, if_some-map}
use Rattle.cd_count.specs.PlanRows.{rows_of, row_of, IsRowFit, AreRowsFit}
use Rattle.cd_count.proofs.FitRows.{fit-lower, fit-found, fit-set, fit-insert}
use Rattle.cd_count.proofs.rows.take_reference.Goals as goal

pub returns-in-Some-clause-taken : goal.returns-in-Some-clause-taken
returns-in-Some-clause-taken g c =
    let rows' = c.get_mut.follows.lender c.lower.new.row in
    let there : tree.get hash_cmp c.args.rows.now c.args.hash.now ≡ Some c.in-Some.row.now = sym c.in-Some.ensures.value in
    let updates = (c.get_mut.follows.holds c.lower.new.row).3 (subst IsSome (sym there) refl) in
    if_some (λ (contents : Contents). IsTaken (stored_in contents) c.args.rows.now c.args.dead.now.items c.args.hash.now.0 rows' c.lower.new.dead.items)
    (g.K.Keeper.held c.args.keeper.now)
    (λ contents. taken-there c.args.rows.now rows' c.args.hash.now c.args.dead.now.items c.lower.new.dead.items (stored_in contents) c.in-Some.row.now c.lower.new.row there updates.0 c.in_ok-lower.ensures.row c.in_ok-lower.ensures.dead)

pub returns-in_default-2-clause-taken : goal.returns-in_default-2-clause-taken
returns-in_default-2-clause-taken g c =
    let none : tree.get hash_cmp c.args.rows.now c.args.hash.now ≡ None = sym c.in_default.ensures.value in
    if_some-map (λ (contents : Contents). c.in_ok-row.field-0 ≡ option_map first_row (stored_in contents c.args.hash.now.0))
    (λ (contents : Contents). IsTaken (stored_in contents) c.args.rows.now c.args.dead.now.items c.args.hash.now.0 c.get_mut.follows.lender-at-none c.args.dead.now.items)
    (g.K.Keeper.held c.args.keeper.now) c.in_ok-row.ensures.value
    (λ contents is. taken-nothing c.args.rows.now c.get_mut.follows.lender-at-none c.args.hash.now c.args.dead.now.items c.args.dead.now.items (stored_in contents) none (sym c.in_default-2.is ∙ is) c.get_mut.follows.holds-at-none)

pub returns-clause-taken : goal.returns-clause-taken
returns-clause-taken g c =
    let none : tree.get hash_cmp c.args.rows.now c.args.hash.now ≡ None = sym c.in_default.ensures.value in
    if_some-map (λ (contents : Contents). c.in_ok-row.field-0 ≡ option_map first_row (stored_in contents c.args.hash.now.0))
    (λ (contents : Contents). IsTaken (stored_in contents) c.args.rows.now c.args.dead.now.items c.args.hash.now.0 c.insert.new.self c.lower-2.new.dead.items)
    (g.K.Keeper.held c.args.keeper.now) c.in_ok-row.ensures.value
    (λ contents is. taken-read c.args.rows.now c.insert.new.self c.args.hash.now c.args.dead.now.items c.lower-2.new.dead.items (stored_in contents) c.in-Some-2.row c.lower-2.new.row none (sym c.in-Some-2.is ∙ is)
    (λ q. c.in_ok-insert.ensures.updates.0 q ∙ ap (λ (m : RowMap). cond (is_eq (hash_cmp c.args.hash.now q)) (Some c.lower-2.new.row) (tree.get hash_cmp m q)) c.get_mut.follows.holds-at-none)
    c.in_ok-lower-2.ensures.row c.in_ok-lower-2.ensures.dead)

pub returns-in-Some-clause-fit : goal.returns-in-Some-clause-fit
returns-in-Some-clause-fit g c = λ fit.
    subst (λ (es : List (Hash256 × Row)). AreRowsFit (rows_of es)) (sym (c.get_mut.follows.holds c.lower.new.row).0)
    (fit-set (tree.is_at (hash_cmp c.args.hash.now)) c.args.rows.now.entries c.lower.new.row
    (fit-lower c.in-Some.row.now c.lower.new.row c.in_ok-lower.ensures.row (fit-found (tree.is_at (hash_cmp c.args.hash.now)) c.args.rows.now.entries c.in-Some.row.now (sym c.in-Some.ensures.value) fit)) fit)

pub returns-in_default-2-clause-fit : goal.returns-in_default-2-clause-fit
returns-in_default-2-clause-fit g c = λ fit. subst (λ (m : RowMap). AreRowsFit (rows_of m.entries)) (sym c.get_mut.follows.holds-at-none) fit

pub returns-clause-fit : goal.returns-clause-fit
returns-clause-fit g c = λ fit.
    let read : IsRowFit (row_of c.in-Some-2.row) = subst (λ (o : Option Row). IfSome o (λ r. IsRowFit (row_of r))) c.in-Some-2.is c.in_ok-row.ensures.fit in
    subst (λ (es : List (Hash256 × Row)). AreRowsFit (rows_of es)) (sym c.in_ok-insert.ensures.entries)
    (fit-insert c.get_mut.follows.lender-at-none.entries c.args.hash.now c.lower-2.new.row
    (fit-lower c.in-Some-2.row c.lower-2.new.row c.in_ok-lower-2.ensures.row read)
    (subst (λ (m : RowMap). AreRowsFit (rows_of m.entries)) (sym c.get_mut.follows.holds-at-none) fit))

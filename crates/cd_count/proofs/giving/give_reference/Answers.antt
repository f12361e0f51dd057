use Rattle.std.proofs.Common.{◌≡◌, List, [], ◌∷◌, Option, Some, None, IsSome, IfSome, refl, sym, ap, ◌∙◌, cond, subst}
use Rattle.std.specs.Option.{option_map}
use Rattle.std.specs.Ordering.{is_eq}
use Rattle.std.specs.BTreeMap as tree
use Rattle.cd_base.specs.declared.hash.Hash256.{Hash256}
use Rattle.cd_cell.specs.Export.{hash_cmp}
use Rattle.cd_keeper.specs.Contents.{Contents}
use Rattle.cd_count.specs.declared.rows.Row.{Row}
use Rattle.cd_count.specs.Reading.{stored_in}
use Rattle.cd_count.specs.PlanSteps.{RowMap, first_row}
use Rattle.cd_count.specs.PlanRows.{rows_of, row_of}
use Rattle.cd_count.specs.PlanGiving.{AreGiven, IsRowGood, AreRowsGood}
use Rattle.cd_count.proofs.Steps.{if_some, if_some-map}
use Rattle.cd_count.proofs.Gives.{given-there, given-read, given-lost}
use Rattle.cd_count.proofs.GoodRows.{good-found, good-set, good-insert, good-raise}
use Rattle.cd_count.proofs.giving.give_reference.Goals as goal

pub returns-in-Some-clause-given : goal.returns-in-Some-clause-given
returns-in-Some-clause-given g c =
    let rows' = c.get_mut.follows.lender c.raise.new.row in
    let there : tree.get hash_cmp c.args.rows.now c.args.hash.now ≡ Some c.in-Some.row.now = sym c.in-Some.ensures.value in
    let updates = (c.get_mut.follows.holds c.raise.new.row).3 (subst IsSome (sym there) refl) in
    if_some (λ (contents : Contents). AreGiven (stored_in contents) c.args.rows.now (c.args.hash.now.0 ∷ []) rows')
    (g.K.Keeper.held c.args.keeper.now)
    (λ contents. given-there (stored_in contents) c.args.rows.now rows' c.args.hash.now c.in-Some.row.now c.raise.new.row there c.in_ok-raise.ensures updates.0)

pub returns-in_default-2-clause-given : goal.returns-in_default-2-clause-given
returns-in_default-2-clause-given g c =
    let none : tree.get hash_cmp c.args.rows.now c.args.hash.now ≡ None = sym c.in_default.ensures.value in
    if_some-map (λ (contents : Contents). c.in_ok-row.field-0 ≡ option_map first_row (stored_in contents c.args.hash.now.0))
    (λ (contents : Contents). AreGiven (stored_in contents) c.args.rows.now (c.args.hash.now.0 ∷ []) c.get_mut.follows.lender-at-none)
    (g.K.Keeper.held c.args.keeper.now) c.in_ok-row.ensures.value
    (λ contents is. given-lost (stored_in contents) c.args.rows.now c.get_mut.follows.lender-at-none c.args.hash.now none (sym c.in_default-2.is ∙ is) c.get_mut.follows.holds-at-none)

pub returns-clause-given : goal.returns-clause-given
returns-clause-given g c =
    let none : tree.get hash_cmp c.args.rows.now c.args.hash.now ≡ None = sym c.in_default.ensures.value in
    if_some-map (λ (contents : Contents). c.in_ok-row.field-0 ≡ option_map first_row (stored_in contents c.args.hash.now.0))
    (λ (contents : Contents). AreGiven (stored_in contents) c.args.rows.now (c.args.hash.now.0 ∷ []) c.insert.new.self)
    (g.K.Keeper.held c.args.keeper.now) c.in_ok-row.ensures.value
    (λ contents is. given-read (stored_in contents) c.args.rows.now c.insert.new.self c.args.hash.now c.in-Some-2.row c.raise-2.new.row none (sym c.in-Some-2.is ∙ is)
    c.in_ok-raise-2.ensures
    (λ q. c.in_ok-insert.ensures.updates.0 q ∙ ap (λ (m : RowMap). cond (is_eq (hash_cmp c.args.hash.now q)) (Some c.raise-2.new.row) (tree.get hash_cmp m q)) c.get_mut.follows.holds-at-none))

pub returns-in-Some-clause-good : goal.returns-in-Some-clause-good
returns-in-Some-clause-good g c = λ good.
    subst (λ (es : List (Hash256 × Row)). AreRowsGood (rows_of es)) (sym (c.get_mut.follows.holds c.raise.new.row).0)
    (good-set (tree.is_at (hash_cmp c.args.hash.now)) c.args.rows.now.entries c.raise.new.row
    (good-raise c.in-Some.row.now c.raise.new.row c.in_ok-raise.ensures (good-found (tree.is_at (hash_cmp c.args.hash.now)) c.args.rows.now.entries c.in-Some.row.now (sym c.in-Some.ensures.value) good)) good)

pub returns-in_default-2-clause-good : goal.returns-in_default-2-clause-good
returns-in_default-2-clause-good g c = λ good. subst (λ (m : RowMap). AreRowsGood (rows_of m.entries)) (sym c.get_mut.follows.holds-at-none) good

pub returns-clause-good : goal.returns-clause-good
returns-clause-good g c = λ good.
    let first : IsRowGood (row_of c.in-Some-2.row) = subst (λ (o : Option Row). IfSome o (λ r. IsRowGood (row_of r))) c.in-Some-2.is c.in_ok-row.ensures.good in
    subst (λ (es : List (Hash256 × Row)). AreRowsGood (rows_of es)) (sym c.in_ok-insert.ensures.entries)
    (good-insert c.get_mut.follows.lender-at-none.entries c.args.hash.now c.raise-2.new.row
    (good-raise c.in-Some-2.row c.raise-2.new.row c.in_ok-raise-2.ensures first)
    (subst (λ (m : RowMap). AreRowsGood (rows_of m.entries)) (sym c.get_mut.follows.holds-at-none) good))

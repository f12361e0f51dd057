use Rattle.std.proofs.Common.{◌≡◌, ◌≤◌, ℕ, length, false, true≢false, is_some, nat_lt, ap, sym, ◌∙◌, arith}
use Rattle.std.proofs.lemmas.Bool.Decides.{nat_tests}
use Rattle.cd_cell.specs.Equality.{same_hash-Decides}
use Rattle.cd_boc_write.proofs.KeyLaws.{place_among-found, place_among-next, place_among-absent, place_among-past}
use Rattle.cd_boc_write.proofs.places.place_among.Goals as goal

not_below : (i n : ℕ) → false ≡ nat_lt i n → n ≤ i
not_below i n e = grind (arith, nat_tests)

pub returns-in-Ok : goal.returns-in-Ok
returns-in-Ok c = λ cells are.
    place_among-found cells c.args.keys.now are c.args.hash.now c.in-Ok.field-0 c.in-Ok.ensures.bound c.in-Ok.ensures.ok

pub returns-in-Some : goal.returns-in-Some
returns-in-Some c = λ cells are.
    let found = c.in-Some.ensures.lookup.3 in
    place_among-next cells c.args.keys.now are c.args.hash.now c.in-Err.at c.in-Err.ensures.bound c.in-Err.ensures.position c.in-Some.key.now found.0 (λ d. sym (found.1 d))
    ((same_hash-Decides c.in-Some.key.now.hash c.args.hash.now).0 (sym c.if-eq.ensures))

pub returns-in_default : goal.returns-in_default
returns-in_default c = λ cells are.
    let found = c.in-Some.ensures.lookup.3 in
    place_among-absent cells c.args.keys.now are c.args.hash.now c.in-Err.at c.in-Err.ensures.bound c.in-Err.ensures.position c.in-Some.key.now found.0 (λ d. sym (found.1 d))
    (λ same. true≢false (sym ((same_hash-Decides c.in-Some.key.now.hash c.args.hash.now).1 same) ∙ sym c.if-eq.ensures))

pub returns-in_default-2 : goal.returns-in_default-2
returns-in_default-2 c = λ cells are.
    place_among-past cells c.args.keys.now are c.args.hash.now c.in-Err.at c.in-Err.ensures.bound c.in-Err.ensures.position
    (not_below c.in-Err.at (length c.args.keys.now) (ap is_some (sym c.in_default.is) ∙ c.get.ensures.lookup.0))

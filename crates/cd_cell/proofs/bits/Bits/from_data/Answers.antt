use Rattle.std.proofs.Common.{◌≡◌, ◌∙◌, ◌-◌, ◌*◌, ◌%◌, ◌≤◌, ℕ, Bool, List, length, Option, Some, None, IsSome, IfSome, ap, sym, arith, eq-eqb}
use Rattle.std.proofs.lemmas.Bool.{ne_eqb, eqb-true, eqb-false, false≢true}
use Rattle.std.specs.Int.{w8, trailing_zeros}
use Rattle.std.proofs.lemmas.Option.{IfSome_then}
use Rattle.cd_cell.specs.BitText.{data_of, first_bits}
use Rattle.cd_cell.proofs.BitLemmas.{data_of-whole, data_of-completed, kept-few, length-first_bits, length-data_of, bits_of_whole_data, bits_of_cut_data}
use Rattle.cd_cell.proofs.bits.Bits.from_data.Goals as goal

pub returns-then-whole-clause-value : goal.returns-then-whole-clause-value
returns-then-whole-clause-value c =
    IfSome_then c.from_slice.result c.from_slice.ensures.value
    (λ bits is. ap data_of is ∙ data_of-whole c.args.bytes.now (λ i. omega (arith, c.type_inv.bytes i)))

pub returns-then-whole-clause-whole : goal.returns-then-whole-clause-whole
returns-then-whole-clause-whole c =
    let counted = length-first_bits (8 * length c.args.bytes.now) c.args.bytes.now (omega arith) in
    IfSome_then c.from_slice.result c.from_slice.ensures.value
    (λ bits is. eq-eqb _ _ (omega (arith, ap length is, counted)) ∙ sym c.if-whole.true)

pub returns-clause-value : goal.returns-clause-value
returns-clause-value c =
    let bytes = c.args.bytes.now in
    let last = c.in_ok-last.field-0.now in
    let found = c.in_ok-last.ensures.item in
    IfSome_then c.from_slice-2.result c.from_slice-2.ensures.value
    (λ bits is. ap data_of is ∙ data_of-completed bytes last (λ i. omega (arith, c.type_inv.bytes i)) found.3.0 (found.3.1 0) c.if-last-eq0.false)

pub returns-clause-whole : goal.returns-clause-whole
returns-clause-whole c =
    let bytes = c.args.bytes.now in
    let last = c.in_ok-last.field-0.now in
    let found = c.in_ok-last.ensures.item in
    let few = kept-few bytes last (λ i. omega (arith, c.type_inv.bytes i)) found.3.0 (found.3.1 0) c.if-last-eq0.false in
    let count : ℕ = 8 * length bytes - 1 - trailing_zeros w8 last in
    let counted : length (first_bits count bytes) ≡ count = length-first_bits count bytes (omega arith) in
    IfSome_then c.from_slice-2.result c.from_slice-2.ensures.value
    (λ bits is. ne_eqb (length bits % 8) 0 (λ h. omega (arith, few, found.3.0, ap length is, counted)) ∙ sym c.if-whole.false)

some_is : (r : Option (List Bool)) (bs : List Bool) → IsSome r → IfSome r (λ x. x ≡ bs) → r ≡ Some bs
some_is (Some x) bs there is = ap Some is
some_is None bs there is = absurd (false≢true there)

pub returns-then-bytes-gt127-clause-only : goal.returns-then-bytes-gt127-clause-only
returns-then-bytes-gt127-clause-only c = λ bs few is whole.
    let found = bits_of_whole_data bs c.args.bytes.now few is (eqb-true _ _ (whole ∙ c.if-whole.true)) in
    absurd (omega (arith, found.0))

pub returns-then-whole-clause-only : goal.returns-then-whole-clause-only
returns-then-whole-clause-only c = λ bs few is whole.
    let found = bits_of_whole_data bs c.args.bytes.now few is (eqb-true _ _ (whole ∙ c.if-whole.true)) in
    some_is c.from_slice.result bs (c.from_slice.ensures.found.1 (omega (arith, found.0), omega arith))
    (IfSome_then c.from_slice.result c.from_slice.ensures.value (λ bits e. e ∙ found.1))

pub returns-in_err-last-clause-only : goal.returns-in_err-last-clause-only
returns-in_err-last-clause-only c = λ bs few is whole.
    let cut = eqb-false _ _ (whole ∙ c.if-whole.false) in
    absurd (cut (omega (arith, c.in_err-last.ensures.item.3, ap length is, length-data_of bs)))

pub returns-then-bytes-gt128-clause-only : goal.returns-then-bytes-gt128-clause-only
returns-then-bytes-gt128-clause-only c = λ bs few is whole.
    let at_end = c.in_ok-last.ensures.item.3.1 0 in
    let found = bits_of_cut_data bs c.args.bytes.now _ few is (eqb-false _ _ (whole ∙ c.if-whole.false)) at_end in
    absurd (omega (arith, found.short))

pub returns-then-last-eq0-clause-only : goal.returns-then-last-eq0-clause-only
returns-then-last-eq0-clause-only c = λ bs few is whole.
    let at_end = c.in_ok-last.ensures.item.3.1 0 in
    let found = bits_of_cut_data bs c.args.bytes.now _ few is (eqb-false _ _ (whole ∙ c.if-whole.false)) at_end in
    absurd (found.tagged c.if-last-eq0.true)

pub returns-clause-only : goal.returns-clause-only
returns-clause-only c = λ bs few is whole.
    let bytes = c.args.bytes.now in
    let last = c.in_ok-last.field-0.now in
    let at_end = c.in_ok-last.ensures.item.3.1 0 in
    let found = bits_of_cut_data bs bytes last few is (eqb-false _ _ (whole ∙ c.if-whole.false)) at_end in
    let counted : 8 * length bytes - 1 - trailing_zeros w8 last ≤ 1023 = omega (arith, found.short) in
    some_is c.from_slice-2.result bs (c.from_slice-2.ensures.found.1 (counted, omega arith))
    (IfSome_then c.from_slice-2.result c.from_slice-2.ensures.value (λ bits e. e ∙ found.same))

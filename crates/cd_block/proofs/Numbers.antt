-- Numbers in decimal.
use Rattle.std.proofs.Common.{◌≡◌, ◌≢◌, ℕ, zero, suc, ◌^◌, ◌<◌, ◌≤◌, ◌&&◌, not, ltb, true, false, eqb, ℤ, pos, negsuc, List, [], ◌∷◌, length, get_or, Option, Some, None, Result, Ok, Err, refl, sym, ap, ◌∙◌, arith, rules, inl, inr}
use Rattle.std.specs.Prelude.{◌⊎◌, FitsSigned}
use Rattle.std.specs.Int.{w32}
use Rattle.std.specs.Char.{is_ascii_digit}
use Rattle.std.specs.List.{list_all}
use Rattle.std.specs.Result.{OkIff, result_ok}
use Rattle.std.specs.Fmt.{decimal, signed_decimal}
use Rattle.std.specs.Str.Parse.{ParsesUnsigned, digits_value}
use Rattle.std.proofs.lemmas.Bool.{cases_lt, and_parts, lt-ltb, le-ltb, ltb-true}
use Rattle.std.proofs.lemmas.Fmt.{decimal_digit, first_decimal, decimal_nonempty, digits_decimal, digits_value-decimal, decimal-digits_value}
use Rattle.std.proofs.lemmas.Str.Parse.{IsNumeralModel, numerals_by_value, parse_digits, not_in_digits}
use Rattle.cd_block.specs.Parsing.{is_plain, number_of, signed_of, from_zero, below_zero, behind}
use Rattle.cd_block.proofs.Options.{guarded, bind_some}
use Rattle.cd_block.proofs.Signs.{Lacks, behind-cons, behind_other, behind_some}

abbrev AreDigits : List ℕ → Type 0
AreDigits ds = list_all is_ascii_digit ds ≡ true

own : IsNumeralModel AreDigits (digits_value 10)
own = numerals_by_value AreDigits (search rules)

-- digits that don't begin with a needless 0
record IsPlain (ds : List ℕ) : Type 0 where
  digits : AreDigits ds
  some : 0 < length ds
  no_zero : get_or ds 0 0 ≡ 48 → length ds ≡ 1

IsPlain-from_test : (ds : List ℕ) → is_plain ds ≡ true → IsPlain ds
unfolding is_plain
IsPlain-from_test [] h = absurd cc
IsPlain-from_test (c ∷ []) h = record { digits = rw h refl; some = omega arith; no_zero = λ _. refl }
IsPlain-from_test (c ∷ d ∷ rest) h =
    let parts = and_parts (not (eqb c 48)) (list_all is_ascii_digit (c ∷ d ∷ rest)) h in
    record { digits = parts.1; some = omega arith; no_zero = λ e. absurd (refutes c parts.0 e) }
  where
    refutes : (n : ℕ) → not (eqb n 48) ≡ true → n ≡ 48 → ⊥
    refutes n t e = let f : not (eqb 48 48) ≡ true = rw e at t in cc

is_plain-true : (ds : List ℕ) → IsPlain ds → is_plain ds ≡ true
unfolding is_plain
is_plain-true [] h = absurd (omega (arith, h.some))
is_plain-true (c ∷ []) h = (and_parts (is_ascii_digit c) true h.digits).0
is_plain-true (c ∷ d ∷ rest) h =
    let ne : c ≢ 48 = λ e. absurd (omega (arith, h.no_zero e)) in
    let t : eqb c 48 ≡ false = grind arith in
    rw (t, h.digits) refl

-- what parse reads of a plain text
read_plain : {E : Type 0} (k : ℕ) (text : List ℕ) (r : Result ℕ E) → is_plain text ≡ true → OkIff r ((0 < length text) × (digits_value 10 text < 2 ^ k)) (digits_value 10 text) → result_ok r ≡ number_of (2 ^ k) text
unfolding number_of
read_plain k text (Ok n) plain h = rw (plain, lt-ltb (digits_value 10 text) (2 ^ k) h.0.1, h.1) refl
read_plain k text (Err e) plain h =
    let p = IsPlain-from_test text plain in
    elim (cases_lt (digits_value 10 text) (2 ^ k)) [
      | inl lt ↦ absurd (h (p.some, lt))
      | inr le ↦ rw (plain, le-ltb (digits_value 10 text) (2 ^ k) le) refl
    ]

pub parsed_is : {E : Type 0} (k : ℕ) (text : List ℕ) (r : Result ℕ E) → ParsesUnsigned k 10 text r → is_plain text ≡ true → result_ok r ≡ number_of (2 ^ k) text
parsed_is k text r h plain = read_plain k text r plain (parse_digits own k text r h (IsPlain-from_test text plain).digits)

-- what a number's decimal digits are read as
IsPlain-decimal : (n : ℕ) → n < 2 ^ 64 → IsPlain (decimal n)
IsPlain-decimal n small = record {
  digits = digits_decimal own n small;
  some = decimal_nonempty n small;
  no_zero = λ e.
      elim (cases_lt 0 n) [
        | inl pos-n ↦ absurd (omega (arith, first_decimal n pos-n small, e))
        | inr zero-n ↦
            let n-is : n ≡ 0 = omega arith in
            ap length (ap decimal n-is ∙ decimal_digit 0 (omega arith))
      ];
}

pub number_of-decimal : (limit n : ℕ) → n < limit → n < 2 ^ 64 → number_of limit (decimal n) ≡ Some n
unfolding number_of
number_of-decimal limit n lt small =
    let value : digits_value 10 (decimal n) ≡ n = digits_value-decimal own n small in
    rw (is_plain-true (decimal n) (IsPlain-decimal n small), value, lt-ltb n limit lt) refl

pub number_of_some : (limit : ℕ) (text : List ℕ) (n : ℕ) → limit ≤ 2 ^ 64 → number_of limit text ≡ Some n → (text ≡ decimal n) × (n < limit)
unfolding number_of
number_of_some limit text n small e =
    let g = guarded (is_plain text && ltb (digits_value 10 text) limit) (digits_value 10 text) n e in
    let tests = and_parts (is_plain text) (ltb (digits_value 10 text) limit) g.0 in
    let p = IsPlain-from_test text tests.0 in
    let lt : digits_value 10 text < limit = ltb-true _ _ tests.1 in
    let whole : decimal (digits_value 10 text) ≡ text = decimal-digits_value own text p.digits p.some p.no_zero (omega arith) in
    (sym whole ∙ ap decimal g.1, rw (← g.1) lt)

-- ---- signs

pub lacks_in_decimal : (sign n : ℕ) → sign < 48 ⊎ 57 < sign → n < 2 ^ 64 → Lacks sign (decimal n)
lacks_in_decimal sign n out small = not_in_digits own (decimal n) sign (digits_decimal own n small) (λ h. elim out [ inl below ↦ absurd (omega (arith, h)) | inr above ↦ absurd (omega (arith, h)) ])

pub lacks_in_signed : (sign : ℕ) (z : ℤ) → sign < 48 ⊎ 57 < sign → sign ≢ 45 → FitsSigned w32 z → Lacks sign (signed_decimal z)
lacks_in_signed sign (pos n) out ne fits i lt = lacks_in_decimal sign n out (omega (arith, fits.sfits)) i lt
lacks_in_signed sign (negsuc n) out ne fits zero lt = λ e. ne (sym e)
lacks_in_signed sign (negsuc n) out ne fits (suc i) lt = lacks_in_decimal sign (suc n) out (omega (arith, fits.sfits)) i (omega arith)

-- ---- signed numbers

no_sign : (n : ℕ) → n < 2 ^ 64 → behind 45 (decimal n) ≡ None
no_sign n small = behind_other 45 (decimal n) (λ rest e. lacks_in_decimal 45 n (inl (omega arith)) small 0 (decimal_nonempty n small) (ap (λ ds. get_or ds 0 0) e))

pub signed_of-signed_decimal : (z : ℤ) → FitsSigned w32 z → signed_of (behind 45 (signed_decimal z)) (signed_decimal z) ≡ Some z
unfolding signed_of from_zero below_zero
signed_of-signed_decimal (pos n) fits =
    let small : n < 2 ^ 31 = fits.sfits in
    rw (no_sign n (omega arith), number_of-decimal (2 ^ 32) n (omega arith) (omega arith), lt-ltb n (2 ^ 31) small) refl
signed_of-signed_decimal (negsuc n) fits =
    let small : n < 2 ^ 31 = fits.sfits in
    rw (behind-cons 45 (decimal (suc n)), number_of-decimal (2 ^ 32) (suc n) (omega arith) (omega arith), lt-ltb n (2 ^ 31) small) refl

from_zero_some : (n : ℕ) (z : ℤ) → from_zero n ≡ Some z → (z ≡ pos n) × (n < 2 ^ 31)
unfolding from_zero
from_zero_some n z e =
    let g = guarded (ltb n (2 ^ 31)) (pos n) z e in
    (sym g.1, ltb-true n (2 ^ 31) g.0)

below_zero_some : (n : ℕ) (z : ℤ) → below_zero n ≡ Some z → (m : ℕ) × (n ≡ suc m) × (z ≡ negsuc m) × (m < 2 ^ 31)
unfolding below_zero
below_zero_some zero z e = absurd cc
below_zero_some (suc m) z e =
    let g = guarded (ltb m (2 ^ 31)) (negsuc m) z e in
    (m, refl, sym g.1, ltb-true m (2 ^ 31) g.0)

signed_by : (sign : Option (List ℕ)) (text : List ℕ) (z : ℤ) → behind 45 text ≡ sign → signed_of sign text ≡ Some z → (text ≡ signed_decimal z) × FitsSigned w32 z
unfolding signed_of
signed_by None text z s e =
    let n = bind_some (number_of (2 ^ 32) text) from_zero z e in
    let spelt = number_of_some (2 ^ 32) text n.0 (omega arith) n.1 in
    let f = from_zero_some n.0 z n.2 in
    rw f.0 (spelt.0, record { sfits = f.1 })
signed_by (Some digits) text z s e =
    let n = bind_some (number_of (2 ^ 32) digits) below_zero z e in
    let spelt = number_of_some (2 ^ 32) digits n.0 (omega arith) n.1 in
    let b = below_zero_some n.0 z n.2 in
    rw b.2 (behind_some 45 text digits s ∙ ap (λ ds. 45 ∷ ds) (spelt.0 ∙ ap decimal b.1), record { sfits = b.3 })

pub signed_of_some : (text : List ℕ) (z : ℤ) → signed_of (behind 45 text) text ≡ Some z → (text ≡ signed_decimal z) × FitsSigned w32 z
signed_of_some text z e = signed_by (behind 45 text) text z refl e

-- Bytes in lower-case hex.
use Rattle.std.proofs.Common.{◌≡◌, ℕ, zero, suc, ◌+◌, ◌*◌, ◌/◌, ◌%◌, ◌<◌, ◌&&◌, ◌||◌, not, ltb, Bool, true, false, cond, eqb, List, [], ◌∷◌, length, get_or, Option, Some, None, Result, Ok, Err, refl, sym, ap, ◌∙◌, arith, inl, inr}
use Rattle.std.specs.List.{list_any, slice_index}
use Rattle.std.specs.Result.{result_ok}
use Rattle.std.proofs.lemmas.Bool.{cases_lt, and_parts, eqb-true}
use Rattle.std.proofs.lemmas.Bool.Decides.{nat_tests}
use Rattle.std.proofs.lemmas.List.{get_or_past}
use Rattle.hex.specs.Hex.{encode_lower, encode_with, lower_digits, hex_digit_value, digit_or_error, value_at, pair_value, decode_pairs, decode_sized, ◌>>=◌ as ◌>=>◌}
use Rattle.hex.specs.declared.error.FromHexError.{FromHexError}
use Rattle.hex.specs.declared.error.FromHexError.TheVariants.{OddLength, InvalidStringLength}
use Rattle.hex.proofs.HexLemmas.{decode_sized-encode_lower, decode_pairs-ok}
use Rattle.cd_block.specs.Parsing.{is_upper_case, hex_of}
use Rattle.cd_base.specs.Numbers.{IsBytes}
use Rattle.cd_block.proofs.Options.{refused, some_is}
use Rattle.cd_block.proofs.Signs.{Lacks, same}

-- a test that computes of each number below a bound
abbrev all_below : (ℕ → Bool) → ℕ → Bool
all_below test zero = true
all_below test (suc n) = test n && all_below test n

all_below-at : (test : ℕ → Bool) (n k : ℕ) → all_below test n ≡ true → k < n → test k ≡ true
all_below-at test zero k h lt = absurd (omega arith)
all_below-at test (suc n) k h lt =
    let parts = and_parts (test n) (all_below test n) h in
    elim (cases_lt k n) [
      | inl below ↦ all_below-at test n k parts.1 below
      | inr top ↦
          let e : k ≡ n = omega arith in
          rw e parts.0
    ]

-- the character of a digit
pub digit : ℕ → ℕ
digit v = cond (ltb v 10) (48 + v) (87 + v)

digit_is : (v : ℕ) → v < 16 → slice_index lower_digits v ≡ digit v
unfolding digit
digit_is v lt = eqb-true _ _ (all_below-at (λ n. eqb (slice_index lower_digits n) (cond (ltb n 10) (48 + n) (87 + n))) 16 v refl lt)

-- a digit that isn't in upper case
pub read_digit : (c v : ℕ) → hex_digit_value c ≡ Some v → is_upper_case c ≡ false → (v < 16) × (c ≡ digit v)
unfolding digit
read_digit c v e low = grind (arith, nat_tests)

-- ---- from digits to bytes

bind_ok : {A B : Type 0} (r : Result A FromHexError) (f : A → Result B FromHexError) (y : B) → (r >=> f) ≡ Ok y → (x : A) × (r ≡ Ok x) × (f x ≡ Ok y)
bind_ok (Ok x) f y e = (x, refl, e)
bind_ok (Err d) f y e = absurd cc

abbrev done : {A : Type 0} → A → Result A FromHexError
done x = Ok x

ok_is : {A : Type 0} (x y : A) → done x ≡ done y → x ≡ y
ok_is x y e = cc

value_read : (c i : ℕ) (o : Option ℕ) (v : ℕ) → digit_or_error c i o ≡ Ok v → o ≡ Some v
value_read c i (Some w) v e = ap Some (ok_is w v e)
value_read c i None v e = absurd cc

neither : (x y : Bool) → (x || y) ≡ false → (x ≡ false) × (y ≡ false)
neither true y e = absurd cc
neither false y e = (refl, e)

same_pair : (h l b : ℕ) → h < 16 → l < 16 → b ≡ h * 16 + l → (b / 16 ≡ h) × (b % 16 ≡ l)
same_pair h l b lh ll e = (omega arith, omega arith)

pairs_spelt : (i : ℕ) (text bytes : List ℕ) → decode_pairs i text ≡ Ok bytes → list_any is_upper_case text ≡ false → text ≡ encode_lower bytes
unfolding decode_pairs encode_with
pairs_spelt i [] bytes e low = ap encode_lower (ok_is [] bytes e)
pairs_spelt i (a ∷ []) bytes e low = absurd cc
pairs_spelt i (a ∷ b ∷ rest) bytes e low =
    let byte = bind_ok (pair_value a b i) _ bytes e in
    let high = bind_ok (value_at a i) _ byte.0 byte.1 in
    let low_digit = bind_ok (value_at b (i + 1)) _ byte.0 high.2 in
    let others = bind_ok (decode_pairs (i + 2) rest) _ bytes byte.2 in
    let first = neither (is_upper_case a) (list_any is_upper_case (b ∷ rest)) low in
    let second = neither (is_upper_case b) (list_any is_upper_case rest) first.1 in
    let da = read_digit a high.0 (value_read a i (hex_digit_value a) high.0 high.1) first.0 in
    let db = read_digit b low_digit.0 (value_read b (i + 1) (hex_digit_value b) low_digit.0 low_digit.1) second.0 in
    let parts = same_pair high.0 low_digit.0 byte.0 da.0 db.0 (sym (ok_is (high.0 * 16 + low_digit.0) byte.0 low_digit.2)) in
    let ea : a ≡ slice_index lower_digits (byte.0 / 16) = da.1 ∙ sym (digit_is high.0 da.0) ∙ sym (ap (slice_index lower_digits) parts.0) in
    let eb : b ≡ slice_index lower_digits (byte.0 % 16) = db.1 ∙ sym (digit_is low_digit.0 db.0) ∙ sym (ap (slice_index lower_digits) parts.1) in
    let tail = pairs_spelt (i + 2) rest others.0 others.1 second.1 in
    same_text a b rest _ _ (encode_lower others.0) ea eb tail ∙ ap encode_lower (ok_is (byte.0 ∷ others.0) bytes others.2)
  where
    same_text : (a b : ℕ) (rest : List ℕ) (x y : ℕ) (zs : List ℕ) → a ≡ x → b ≡ y → rest ≡ zs → ◌≡◌ {A = List ℕ} (a ∷ b ∷ rest) (x ∷ y ∷ zs)
    same_text a b rest x y zs ex ey ez = rw (ex, ey, ez) refl

passed : {A : Type 0} (b : Bool) (d : FromHexError) (r : Result A FromHexError) (y : A) → cond b (Err d) r ≡ Ok y → (b ≡ false) × (r ≡ Ok y)
passed true d r y e = absurd cc
passed false d r y e = (refl, e)

met : {A : Type 0} (b : Bool) (d : FromHexError) (r : Result A FromHexError) (y : A) → cond b r (Err d) ≡ Ok y → (b ≡ true) × (r ≡ Ok y)
met true d r y e = (refl, e)
met false d r y e = absurd cc

ok_from : {A : Type 0} (r : Result A FromHexError) (y : A) → result_ok r ≡ Some y → r ≡ Ok y
ok_from (Ok x) y e = ap done (some_is x y e)
ok_from (Err d) y e = absurd cc

-- what a text of hex was read as
pub record IsHexOf (n : ℕ) (text bytes : List ℕ) : Type 0 where
  pub text_is : text ≡ encode_lower bytes
  pub len : length bytes ≡ n
  pub fits : IsBytes bytes

pub hex_of_some : (n : ℕ) (text bytes : List ℕ) → hex_of n text ≡ Some bytes → IsHexOf n text bytes
unfolding hex_of
hex_of_some n text bytes e =
    let g = refused (list_any is_upper_case text) (result_ok (decode_sized text n)) bytes e in
    let even = passed (eqb (length text % 2) 1) OddLength _ bytes (ok_from (decode_sized text n) bytes g.1) in
    let half = met (eqb (length text / 2) n) InvalidStringLength (decode_pairs 0 text) bytes even.1 in
    let pairs = decode_pairs-ok 0 text bytes half.1 in
    record {
      text_is = pairs_spelt 0 text bytes half.1 g.0;
      len = omega (arith, pairs.1, eqb-true (length text / 2) n half.0);
      fits = pairs.2;
    }

-- ---- from bytes to digits

-- each character of the table passes a test, and so does what stands past its end
in_table : (test : ℕ → Bool) → test 0 ≡ true → all_below (λ n. test (slice_index lower_digits n)) 16 ≡ true → (n : ℕ) → test (slice_index lower_digits n) ≡ true
in_table test past h n =
    elim (cases_lt n 16) [
      | inl lt ↦ all_below-at (λ n. test (slice_index lower_digits n)) 16 n h lt
      | inr le ↦
          let e : slice_index lower_digits n ≡ 0 = get_or_past lower_digits n 0 le in
          rw e past
    ]

-- and so each character of a text
in_text : (test : ℕ → Bool) → test 0 ≡ true → all_below (λ n. test (slice_index lower_digits n)) 16 ≡ true → (bytes : List ℕ) (i : ℕ) → test (get_or (encode_lower bytes) i 0) ≡ true
unfolding encode_with
in_text test past h [] i = past
in_text test past h (b ∷ rest) zero = in_table test past h (b / 16)
in_text test past h (b ∷ rest) (suc zero) = in_table test past h (b % 16)
in_text test past h (b ∷ rest) (suc (suc i)) = in_text test past h rest i

not_same : (n : ℕ) → not (eqb n n) ≡ true → ⊥
not_same n t = let f : not true ≡ true = rw same at t in cc

pub lacks_in_hex : (sign : ℕ) → not (eqb 0 sign) ≡ true → all_below (λ n. not (eqb (slice_index lower_digits n) sign)) 16 ≡ true → (bytes : List ℕ) → Lacks sign (encode_lower bytes)
lacks_in_hex sign past h bytes i lt e = not_same sign (rw e at (in_text (λ c. not (eqb c sign)) past h bytes i))

false_from_not : (b : Bool) → not b ≡ true → b ≡ false
false_from_not true e = absurd cc
false_from_not false e = refl

no_upper_case : (bytes : List ℕ) → list_any is_upper_case (encode_lower bytes) ≡ false
unfolding encode_with
no_upper_case [] = refl
no_upper_case (b ∷ rest) =
    let low : (n : ℕ) → is_upper_case (slice_index lower_digits n) ≡ false = λ n. false_from_not _ (in_table (λ c. not (is_upper_case c)) refl refl n) in
    rw (low (b / 16), low (b % 16)) (no_upper_case rest)

pub hex_of-encode_lower : (n : ℕ) (bytes : List ℕ) → length bytes ≡ n → IsBytes bytes → hex_of n (encode_lower bytes) ≡ Some bytes
unfolding hex_of
hex_of-encode_lower n bytes len fits = rw (no_upper_case bytes, decode_sized-encode_lower bytes n len fits) refl

-- The prefixes of shard numbers, by division.
use Rattle.std.proofs.Common.{max, ◌⊎◌, ◌≡◌, ◌≢◌, ℕ, zero, suc, ◌+◌, ◌-◌, ◌*◌, ◌/◌, ◌%◌, ◌^◌, ◌<◌, ◌≤◌, ◌&&◌, ◌||◌, Bool, true, false, eqb, List, length, take, Option, Some, None, refl, sym, ap, subst, ◌∙◌, arith, inl, inr}
use Rattle.std.specs.Prelude.{nat_eq}
use Rattle.std.specs.Int.{bit_at}
use Rattle.std.specs.Int.Count.{count_trailing_zeros, under}
use Rattle.std.specs.List.{starts_with}
use lib.Pointwise.{pointwise, pointwise_long}
use Rattle.std.proofs.lemmas.List.{length-take}
use Rattle.std.proofs.lemmas.Bool.{cases_lt, cases_eq, eqb-true}
use Rattle.std.proofs.lemmas.Bool.Decides.{nat_tests}
use Rattle.std.proofs.lemmas.Nat.{mod_below, same_from_place, pow_pos, mod-pow-add, pow-add, shr_below}
use Rattle.std.proofs.Math.Nat.{mod-eq_of_lt, mul_comm, pow-suc, pow-succ', div-div-eq-div-mul}
use Rattle.cd_block.specs.Shard.{low_bits, prefix_within, prefix_of, is_either_prefix}

pub length-low_bits : (n number : ℕ) → length (low_bits n number) ≡ n
unfolding low_bits
length-low_bits zero number = refl
length-low_bits (suc n) number = ap suc (length-low_bits n number)

-- the bits above the tag
abbrev pub bits_above : ℕ → ℕ → ℕ
bits_above number tag = number / 2 ^ tag / 2

-- ---- the prefix is the bits above the lowest 1

-- a number of k bits has its tag at place t, and n bits above it
pub record IsTagged (k number t n : ℕ) : Type 0 where
  pub sum : n + t + 1 ≡ k
  pub prefix : prefix_within k number ≡ Some (low_bits n (bits_above number t))
  pub whole : number ≡ (bits_above number t * 2 + 1) * 2 ^ t
  pub small : bits_above number t < 2 ^ n

half-pow : (number t : ℕ) → number / 2 ^ suc t ≡ number / 2 / 2 ^ t
half-pow number t = ap (λ (x : ℕ). number / x) (pow-succ' 2 t) ∙ sym (div-div-eq-div-mul number 2 (2 ^ t))

pub IsTagged-odd : (k number : ℕ) → number % 2 ≡ 1 → number < 2 ^ suc k → IsTagged (suc k) number 0 k
unfolding prefix_within
IsTagged-odd k number odd small =
    let one : number / 1 ≡ number = omega arith in
    record {
      sum = omega arith;
      prefix = rw (odd, one) refl;
      whole = omega arith;
      small = rw one (omega (arith, pow-suc 2 k));
    }

pub IsTagged-even : (k number t n : ℕ) → number % 2 ≡ 0 → IsTagged k (number / 2) t n → IsTagged (suc k) number (suc t) n
unfolding prefix_within
IsTagged-even k number t n even half =
    let above : bits_above number (suc t) ≡ bits_above (number / 2) t = ap (λ (x : ℕ). x / 2) (half-pow number t) in
    let twice : number ≡ number / 2 * 2 = omega arith in
    record {
      sum = omega (arith, half.sum);
      prefix = rw (even, above) half.prefix;
      whole = twice ∙ ap (λ (x : ℕ). x * 2) half.whole ∙ rw (above, pow-suc) (omega arith);
      small = rw above half.small;
    }

tagged_by : (k number d t : ℕ) → number % 2 ≡ d → number < 2 ^ suc k → (number % 2 ≡ 0 → (n : ℕ) × IsTagged k (number / 2) t n) → (n : ℕ) × IsTagged (suc k) number (under d t) n
tagged_by k number zero t is small half = let h = half is in (h.0, IsTagged-even k number t h.0 is h.1)
tagged_by k number (suc d) t is small half = (k, IsTagged-odd k number (omega arith) small)

pub IsTagged-at : (k number : ℕ) → 0 < number → number < 2 ^ k → (n : ℕ) × IsTagged k number (count_trailing_zeros k number) n
unfolding count_trailing_zeros
IsTagged-at zero number some small = absurd (omega arith)
IsTagged-at (suc k) number some small =
    tagged_by k number (number % 2) (count_trailing_zeros k (number / 2)) refl small (λ even. IsTagged-at k (number / 2) (omega arith) (omega (arith, pow-suc 2 k)))

-- ---- fronts of bits

pub same_eqb : (x y : ℕ) → x ≡ y → eqb x y ≡ true
same_eqb x y e = grind arith

pub other_eqb : (x y : ℕ) → x ≢ y → eqb x y ≡ false
other_eqb x y ne = grind arith

-- two places in rows of w are one where row and column are
eqb-places : (a b c d w : ℕ) → b < w → d < w → eqb (a * w + b) (c * w + d) ≡ (eqb a c && eqb b d)
eqb-places a b c d w lb ld =
    elim (cases_eq (a * w + b) (c * w + d)) [
      | inl one ↦
          let parts = same_from_place a b c d w lb ld one in
          rw (same_eqb _ _ one, same_eqb a c parts.0, same_eqb b d parts.1) refl
      | inr two ↦
          elim (cases_eq a c) [
            | inl row ↦
                let ne : b ≢ d = λ e. two (rw (row, e) refl) in
                rw (other_eqb _ _ two, same_eqb a c row, other_eqb b d ne) refl
            | inr rows ↦ rw (other_eqb _ _ two, other_eqb a c rows) refl
          ]
    ]

mod-pow-suc : (n m : ℕ) → n % 2 ^ suc m ≡ n / 2 ^ m % 2 * 2 ^ m + n % 2 ^ m
mod-pow-suc n m = ap (λ (x : ℕ). n % 2 ^ x) (omega arith) ∙ mod-pow-add n 1 m

-- the highest m of the m + d bits of q are those of p
fronts : (m n d p q : ℕ) → n ≡ m + d → pointwise nat_eq (low_bits m p) (take m (low_bits n q)) ≡ eqb (p % 2 ^ m) (q / 2 ^ d % 2 ^ m)
unfolding low_bits
fronts zero n d p q e = sym (same_eqb _ _ (omega arith))
fronts (suc m) zero d p q e = absurd (omega arith)
fronts (suc m) (suc n) d p q e =
    let high = q / 2 ^ d in
    let power : 2 ^ n ≡ 2 ^ d * 2 ^ m = ap (λ (x : ℕ). 2 ^ x) (omega arith) ∙ pow-add 2 d m in
    let bit : bit_at q n ≡ high / 2 ^ m % 2 = ap (λ (x : ℕ). q / x % 2) power ∙ ap (λ (x : ℕ). x % 2) (sym (div-div-eq-div-mul q (2 ^ d) (2 ^ m))) in
    let below : (x : ℕ) → x % 2 ^ m < 2 ^ m = λ x. mod_below x (2 ^ m) (pow_pos m) in
    let split : eqb (p % 2 ^ suc m) (high % 2 ^ suc m) ≡ (eqb (p / 2 ^ m % 2) (high / 2 ^ m % 2) && eqb (p % 2 ^ m) (high % 2 ^ m)) =
    rw (mod-pow-suc p m, mod-pow-suc high m) (eqb-places (p / 2 ^ m % 2) (p % 2 ^ m) (high / 2 ^ m % 2) (high % 2 ^ m) (2 ^ m) (below p) (below high)) in
    rw (fronts m n d p q (omega arith), bit) (sym split)

-- whether the bits of p begin the longer ones of q
pub starts-longer : (m n d p q : ℕ) → n ≡ m + d → p < 2 ^ m → q < 2 ^ n → starts_with nat_eq (low_bits n q) (low_bits m p) ≡ eqb p (q / 2 ^ d)
starts-longer m n d p q e lp lq =
    let lq' : q < 2 ^ (m + d) = subst (λ (x : ℕ). q < 2 ^ x) e lq in
    let below : q / 2 ^ d < 2 ^ m = shr_below q m d lq' in
    rw (length-low_bits m p, fronts m n d p q e, mod-eq_of_lt lp, mod-eq_of_lt below) refl

-- longer bits begin no shorter ones
starts-shorter : (m n p q : ℕ) → starts_with nat_eq (low_bits m p) (low_bits n q) ≡ true → n ≤ m
starts-shorter m n p q h =
    let same : length (low_bits n q) ≡ length (take (length (low_bits n q)) (low_bits m p)) = pointwise_long nat_eq (low_bits n q) (take (length (low_bits n q)) (low_bits m p)) h in
    omega (arith, same, length-take (length (low_bits n q)) (low_bits m p), length-low_bits n q, length-low_bits m p)

-- ---- shared prefixes

or_absorbs : (x y : Bool) → (y ≡ true → x ≡ true) → (x || y) ≡ x
or_absorbs true y h = refl
or_absorbs false true h = sym (h refl)
or_absorbs false false h = refl

eqb_comm : (x y : ℕ) → eqb x y ≡ eqb y x
eqb_comm x y = grind (arith, nat_tests)

above-further : (number t d : ℕ) → bits_above number (t + d) ≡ bits_above number t / 2 ^ d
above-further number t d =
    let split : number / 2 ^ (t + d) ≡ number / 2 ^ t / 2 ^ d = ap (λ (x : ℕ). number / x) (pow-add 2 t d) ∙ sym (div-div-eq-div-mul number (2 ^ t) (2 ^ d)) in
    ap (λ (x : ℕ). x / 2) split ∙ div-div-eq-div-mul (number / 2 ^ t) (2 ^ d) 2 ∙ ap (λ (x : ℕ). number / 2 ^ t / x) (mul_comm (2 ^ d) 2)
    ∙ sym (div-div-eq-div-mul (number / 2 ^ t) 2 (2 ^ d))

-- of two fronts of one length, each begins the other
starts-back : (m n d p q : ℕ) → n ≡ m + d → p < 2 ^ m → q < 2 ^ n → starts_with nat_eq (low_bits m p) (low_bits n q) ≡ true → p ≡ q / 2 ^ d
starts-back m n d p q e lp lq h =
    let none : d ≡ 0 = omega (arith, starts-shorter m n p q h) in
    let back : starts_with nat_eq (low_bits m p) (low_bits n q) ≡ eqb q (p / 2 ^ 0) = starts-longer n m 0 q p (omega arith) lq lp in
    let one : q ≡ p / 1 = eqb-true q (p / 1) (sym back ∙ h) in
    rw none (omega arith)

either_by : (a b ta d na nb : ℕ) → IsTagged 64 a ta na → IsTagged 64 b (ta + d) nb
    → is_either_prefix (prefix_of a) (prefix_of b) ≡ eqb (bits_above a (ta + d)) (bits_above b (ta + d))
unfolding prefix_of is_either_prefix
either_by a b ta d na nb ha hb =
    let longer : na ≡ nb + d = omega (arith, ha.sum, hb.sum) in
    let qa = bits_above a ta in
    let qb = bits_above b (ta + d) in
    let first : starts_with nat_eq (low_bits na qa) (low_bits nb qb) ≡ eqb qb (qa / 2 ^ d) = starts-longer nb na d qb qa longer hb.small ha.small in
    let second : starts_with nat_eq (low_bits nb qb) (low_bits na qa) ≡ true → starts_with nat_eq (low_bits na qa) (low_bits nb qb) ≡ true =
    λ h. first ∙ same_eqb qb (qa / 2 ^ d) (starts-back nb na d qb qa longer hb.small ha.small h) in
    rw (ha.prefix, hb.prefix) (or_absorbs _ _ second ∙ first ∙ eqb_comm qb (qa / 2 ^ d) ∙ ap (λ (x : ℕ). eqb x qb) (sym (above-further a ta d)))

or_comm : (x y : Bool) → (x || y) ≡ (y || x)
or_comm true true = refl
or_comm true false = refl
or_comm false true = refl
or_comm false false = refl

is_either_prefix-comm : (p q : Option (List ℕ)) → is_either_prefix p q ≡ is_either_prefix q p
unfolding is_either_prefix
is_either_prefix-comm None None = refl
is_either_prefix-comm None (Some q) = refl
is_either_prefix-comm (Some p) None = refl
is_either_prefix-comm (Some p) (Some q) = or_comm (starts_with nat_eq p q) (starts_with nat_eq q p)

-- whether one prefix begins the other is told by the bits above the higher tag
pub is_either_prefix-shifted : (a b t : ℕ) → 0 < a → a < 2 ^ 64 → 0 < b → b < 2 ^ 64 → t ≡ max (count_trailing_zeros 64 a) (count_trailing_zeros 64 b)
    → eqb (bits_above a t) (bits_above b t) ≡ is_either_prefix (prefix_of a) (prefix_of b)
is_either_prefix-shifted a b t pa la pb lb e =
    let ta = count_trailing_zeros 64 a in
    let tb = count_trailing_zeros 64 b in
    let ha = IsTagged-at 64 a pa la in
    let hb = IsTagged-at 64 b pb lb in
    elim (cases_lt tb ta) [
      | inl lt ↦
          let far : ta ≡ tb + (ta - tb) = omega arith in
          let is : t ≡ tb + (ta - tb) = omega (arith, e) in
          rw is (eqb_comm (bits_above a (tb + (ta - tb))) (bits_above b (tb + (ta - tb)))
          ∙ sym (either_by b a tb (ta - tb) hb.0 ha.0 hb.1 (subst (λ (x : ℕ). IsTagged 64 a x ha.0) far ha.1)) ∙ is_either_prefix-comm (prefix_of b) (prefix_of a))
      | inr le ↦
          let far : tb ≡ ta + (tb - ta) = omega arith in
          let is : t ≡ ta + (tb - ta) = omega (arith, e) in
          rw is (sym (either_by a b ta (tb - ta) ha.0 hb.0 ha.1 (subst (λ (x : ℕ). IsTagged 64 b x hb.0) far hb.1)))
    ]

-- 0 has no prefix
pub without_tag : (k : ℕ) → prefix_within k 0 ≡ None
unfolding prefix_within
without_tag zero = refl
without_tag (suc k) = without_tag k

pub is_either_prefix-zero : (a b : ℕ) → (a ≡ 0) ⊎ (b ≡ 0) → is_either_prefix (prefix_of a) (prefix_of b) ≡ false
unfolding prefix_of is_either_prefix
is_either_prefix-zero a b (inl e) = rw (e, without_tag 64) refl
is_either_prefix-zero a b (inr e) = rw (e, without_tag 64) (is_either_prefix-comm (prefix_within 64 a) None)

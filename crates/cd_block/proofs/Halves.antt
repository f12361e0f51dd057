-- The two halves of a shard, and the shard that they are halves of.
use Rattle.std.proofs.Common.{◌⊎◌, ◌≡◌, ◌≢◌, ℕ, zero, suc, ◌+◌, ◌*◌, ◌/◌, ◌%◌, ◌^◌, ◌<◌, ◌&&◌, Bool, true, false, eqb, List, [], length, Option, Some, None, refl, sym, ap, subst, ◌∙◌, arith, inl, inr}
use Rattle.std.specs.Prelude.{nat_eq, IsTrue, IfSome, bit_or, ℤ}
use Rattle.std.specs.Option.{option_eq}
use Rattle.std.specs.Ordering.{int_eq}
use Rattle.std.proofs.lemmas.Bool.Decides.{Decides-int_eq}
use Rattle.cd_block.specs.declared.shard.ShardId.{ShardId}
use Rattle.cd_block.proofs.Options.{some_is}
use Rattle.std.specs.Int.Count.{count_trailing_zeros}
use Rattle.std.specs.List.{starts_with}
use Rattle.std.proofs.lemmas.Bool.{cases_lt, and_parts, eqb-true}
use Rattle.std.proofs.lemmas.Nat.{pow_pos, shl_below, or_block}
use Rattle.std.specs.Int.Bits.{or_zero_r}
use Rattle.std.proofs.Math.Nat.{mod-eq_of_lt, mul-div_cancel, pow-suc}
use Rattle.cd_block.specs.Shard.{low_bits, prefix_of, is_longer_by_one, is_child_of}
use Rattle.cd_block.proofs.Prefixes.{bits_above, IsTagged, IsTagged-odd, IsTagged-even, IsTagged-at, length-low_bits, starts-longer, same_eqb, other_eqb, without_tag}

-- the number of some bits, the tag, and zeros
IsTagged-made : (k t n bits : ℕ) → n + t + 1 ≡ k → bits < 2 ^ n → IsTagged k ((bits * 2 + 1) * 2 ^ t) t n
IsTagged-made zero t n bits e small = absurd (omega arith)
IsTagged-made (suc k) zero n bits e small =
    let is : n ≡ k = omega arith in
    let fits : (bits * 2 + 1) * 1 < 2 ^ suc k = rw (← is, pow-suc) (omega arith) in
    subst (λ (x : ℕ). IsTagged (suc k) ((bits * 2 + 1) * 1) 0 x) (sym is) (IsTagged-odd k ((bits * 2 + 1) * 1) (omega arith) fits)
IsTagged-made (suc k) (suc t) n bits e small =
    let whole = (bits * 2 + 1) * 2 ^ suc t in
    let twice : whole ≡ (bits * 2 + 1) * 2 ^ t * 2 = rw pow-suc (omega arith) in
    let half : whole / 2 ≡ (bits * 2 + 1) * 2 ^ t = omega arith in
    IsTagged-even k whole t n (omega arith) (subst (λ (x : ℕ). IsTagged k x t n) (sym half) (IsTagged-made k t n bits (omega arith) small))

-- below a whole workchain there is a bit above the tag
bits-above_tag : (shard n : ℕ) → shard ≢ 2 ^ 63 → IsTagged 64 shard (count_trailing_zeros 64 shard) n → 0 < n
bits-above_tag shard zero ne h =
    let t : count_trailing_zeros 64 shard ≡ 63 = omega (arith, h.sum) in
    let none : bits_above shard (count_trailing_zeros 64 shard) ≡ 0 = omega (arith, h.small) in
    absurd (ne (h.whole ∙ rw (none, t) refl))
bits-above_tag shard (suc n) ne h = omega arith

-- the shard number, and what its parent is to be
pub record IsHalf (shard parent t m : ℕ) : Type 0 where
  pub half : IsTagged 64 shard t (suc m)
  pub parent_is : parent ≡ (bits_above shard t / 2 * 2 + 1) * 2 ^ suc t

parent-tagged : (shard parent t m : ℕ) → IsHalf shard parent t m → IsTagged 64 parent (suc t) m
parent-tagged shard parent t m h =
    let small : bits_above shard t / 2 < 2 ^ m = omega (arith, h.half.small, pow-suc 2 m) in
    subst (λ (x : ℕ). IsTagged 64 x (suc t) m) (sym h.parent_is) (IsTagged-made 64 (suc t) m (bits_above shard t / 2) (omega (arith, h.half.sum)) small)

parent-bits : (shard parent t m : ℕ) → IsHalf shard parent t m → bits_above parent (suc t) ≡ bits_above shard t / 2
parent-bits shard parent t m h =
    let bits = bits_above shard t / 2 in
    ap (λ (x : ℕ). x / 2 ^ suc t / 2) h.parent_is ∙ ap (λ (x : ℕ). x / 2) (mul-div_cancel (bits * 2 + 1) (pow_pos (suc t))) ∙ omega arith

longer_by : (shard parent t n tp m : ℕ) → IsTagged 64 shard t n → IsTagged 64 parent tp m
    → is_longer_by_one (prefix_of parent) (prefix_of shard) ≡ (eqb n (m + 1) && starts_with nat_eq (low_bits n (bits_above shard t)) (low_bits m (bits_above parent tp)))
unfolding prefix_of is_longer_by_one
longer_by shard parent t n tp m hs hp =
    rw (hs.prefix, hp.prefix, length-low_bits n (bits_above shard t), length-low_bits m (bits_above parent tp)) refl

-- a half is a child
pub IsHalf-child : (shard parent t m : ℕ) → IsHalf shard parent t m → IsTrue (is_longer_by_one (prefix_of parent) (prefix_of shard))
IsHalf-child shard parent t m h =
    let p = parent-tagged shard parent t m h in
    let starts : starts_with nat_eq (low_bits (suc m) (bits_above shard t)) (low_bits m (bits_above parent (suc t))) ≡ eqb (bits_above parent (suc t)) (bits_above shard t / 2 ^ 1) =
    starts-longer m (suc m) 1 (bits_above parent (suc t)) (bits_above shard t) (omega arith) p.small h.half.small in
    longer_by shard parent t (suc m) (suc t) m h.half p
    ∙ rw (same_eqb (suc m) (m + 1) (omega arith), starts, same_eqb (bits_above parent (suc t)) (bits_above shard t / 2) (parent-bits shard parent t m h)) refl

only_by : (shard parent t m other tp np : ℕ) → IsHalf shard parent t m → IsTagged 64 other tp np → IsTrue (is_longer_by_one (prefix_of other) (prefix_of shard)) → other ≡ parent
only_by shard parent t m other tp np h o child =
    let tests = and_parts (eqb (suc m) (np + 1)) _ (sym (longer_by shard other t (suc m) tp np h.half o) ∙ child) in
    let len : suc m ≡ np + 1 = eqb-true (suc m) (np + 1) tests.0 in
    let starts : starts_with nat_eq (low_bits (suc m) (bits_above shard t)) (low_bits np (bits_above other tp)) ≡ eqb (bits_above other tp) (bits_above shard t / 2 ^ 1) =
    starts-longer np (suc m) 1 (bits_above other tp) (bits_above shard t) len o.small h.half.small in
    let bits : bits_above other tp ≡ bits_above shard t / 2 = eqb-true (bits_above other tp) (bits_above shard t / 2 ^ 1) (sym starts ∙ tests.1) in
    let place : tp ≡ suc t = omega (arith, o.sum, h.half.sum) in
    o.whole ∙ ap (λ (x : ℕ). (x * 2 + 1) * 2 ^ tp) bits ∙ ap (λ (x : ℕ). (bits_above shard t / 2 * 2 + 1) * 2 ^ x) place ∙ sym h.parent_is

-- 0 has no halves, and is none
no_child_of_zero : (shard : ℕ) → IsTrue (is_longer_by_one (prefix_of 0) (prefix_of shard)) → ⊥
unfolding prefix_of is_longer_by_one
no_child_of_zero shard child = let none : false ≡ true = rw without_tag at child in cc

-- and of no other
pub IsHalf-only : (shard parent t m other : ℕ) → IsHalf shard parent t m → other < 2 ^ 64 → IsTrue (is_longer_by_one (prefix_of other) (prefix_of shard)) → other ≡ parent
IsHalf-only shard parent t m other h small child =
    elim (cases_lt 0 other) [
      | inl some ↦ let o = IsTagged-at 64 other some small in only_by shard parent t m other (count_trailing_zeros 64 other) o.0 h o.1 child
      | inr le ↦
          let none : other ≡ 0 = omega arith in
          absurd (no_child_of_zero shard (subst (λ (x : ℕ). IsTrue (is_longer_by_one (prefix_of x) (prefix_of shard))) none child))
    ]

-- ---- the code's number

or_bit : (bit : ℕ) → bit < 2 → bit_or bit 1 ≡ 1
or_bit zero lt = refl
or_bit (suc zero) lt = refl
or_bit (suc (suc n)) lt = absurd (omega arith)

or_one : (bits : ℕ) → bit_or bits 1 ≡ bits / 2 * 2 + 1
or_one bits =
    let last : bits % 2 < 2 = omega arith in
    let split : bits ≡ bits / 2 * 2 + bits % 2 = omega arith in
    ap (λ (x : ℕ). bit_or x 1) split ∙ or_block 1 (bits / 2) 0 (bits % 2) 1 last (omega arith) ∙ rw (or_zero_r, or_bit (bits % 2) last) refl

code_by : (shard t n : ℕ) → 0 < n → IsTagged 64 shard t n → (m : ℕ) × IsHalf shard (bit_or (bits_above shard t) 1 * 2 ^ (t + 1) % 2 ^ 64) t m
code_by shard t zero some h = absurd (omega arith)
code_by shard t (suc m) some h =
    let bits = bits_above shard t in
    let place : t + 1 ≡ suc t = omega arith in
    let narrow : bits / 2 * 2 + 1 < 2 ^ suc m = rw pow-suc (omega (arith, h.small, pow-suc 2 m)) in
    let width : suc m + suc t ≡ 64 = omega (arith, h.sum) in
    let fits : (bits / 2 * 2 + 1) * 2 ^ suc t < 2 ^ 64 = subst (λ (x : ℕ). (bits / 2 * 2 + 1) * 2 ^ suc t < 2 ^ x) width (shl_below (bits / 2 * 2 + 1) (suc m) (suc t) narrow) in
    (m, record { half = h; parent_is = ap (λ (x : ℕ). x * 2 ^ (t + 1) % 2 ^ 64) (or_one bits) ∙ ap (λ (x : ℕ). (bits / 2 * 2 + 1) * 2 ^ x % 2 ^ 64) place ∙ mod-eq_of_lt fits })

pub IsHalf-code : (shard : ℕ) → 0 < shard → shard < 2 ^ 64 → shard ≢ 2 ^ 63
    → (m : ℕ) × IsHalf shard (bit_or (bits_above shard (count_trailing_zeros 64 shard)) 1 * 2 ^ (count_trailing_zeros 64 shard + 1) % 2 ^ 64) (count_trailing_zeros 64 shard) m
IsHalf-code shard some small ne =
    let h = IsTagged-at 64 shard some small in
    code_by shard (count_trailing_zeros 64 shard) h.0 (bits-above_tag shard h.0 ne h.1) h.1

-- a half's tag isn't the highest bit
pub tag-below_top : (shard parent t m : ℕ) → IsHalf shard parent t m → t + 1 < 64
tag-below_top shard parent t m h = omega (arith, h.half.sum)

-- a whole workchain and the number 0 are halves of none
not_longer : (p q : Option (List ℕ)) → (q ≡ None) ⊎ (q ≡ Some []) → is_longer_by_one p q ≡ false
unfolding is_longer_by_one
not_longer None q h = refl
not_longer (Some p) q (inl e) = rw e refl
not_longer (Some p) q (inr e) = rw (e, other_eqb 0 (length p + 1) (omega arith)) refl

whole_prefix : prefix_of (2 ^ 63) ≡ Some []
unfolding prefix_of low_bits
whole_prefix = (IsTagged-made 64 63 0 0 (omega arith) (omega arith)).prefix

zero_prefix : prefix_of 0 ≡ None
unfolding prefix_of
zero_prefix = without_tag 64

pub no_parent : (shard other : ℕ) → (shard ≡ 0) ⊎ (shard ≡ 2 ^ 63) → IsTrue (is_longer_by_one (prefix_of other) (prefix_of shard)) → ⊥
no_parent shard other (inl e) child = let f = not_longer (prefix_of other) (prefix_of shard) (inl (ap prefix_of e ∙ zero_prefix)) in cc
no_parent shard other (inr e) child = let f = not_longer (prefix_of other) (prefix_of shard) (inr (ap prefix_of e ∙ whole_prefix)) in cc

-- ---- halves by the parent's number

from_both : (x y : Bool) → (x ≡ true → y ≡ true) → (y ≡ true → x ≡ true) → x ≡ y
from_both true y f g = sym (f refl)
from_both false true f g = g refl
from_both false false f g = refl

-- whether a number is that of the parent, which is found or isn't there
pub is_parent : (shard other : ℕ) (found : Option ℕ) → IfSome found (λ p. IsTrue (is_longer_by_one (prefix_of p) (prefix_of shard)))
    → ((p : ℕ) → p < 2 ^ 64 → IsTrue (is_longer_by_one (prefix_of p) (prefix_of shard)) → found ≡ Some p) → other < 2 ^ 64
    → option_eq nat_eq found (Some other) ≡ is_longer_by_one (prefix_of other) (prefix_of shard)
is_parent shard other None child only small =
    from_both false (is_longer_by_one (prefix_of other) (prefix_of shard)) (λ e. absurd cc) (λ longer. absurd (nothing (only other small longer)))
  where
    nothing : None ≡ Some other → ⊥
    nothing e = cc
is_parent shard other (Some p) child only small =
    from_both (eqb p other) (is_longer_by_one (prefix_of other) (prefix_of shard))
    (λ e. subst (λ (x : ℕ). IsTrue (is_longer_by_one (prefix_of x) (prefix_of shard))) (eqb-true p other e) child)
    (λ longer. same_eqb p other (some_is p other (only other small longer)))

-- ---- shards

int_eq-refl : (z : ℤ) → int_eq z z ≡ true
int_eq-refl z = (Decides-int_eq z z).1 refl

pub is_child_of-made : (workchain : ℤ) (shard parent : ℕ) → IsTrue (is_longer_by_one (prefix_of parent) (prefix_of shard))
    → IsTrue (is_child_of (record { workchain = workchain; shard = shard }) (record { workchain = workchain; shard = parent }))
unfolding is_child_of
is_child_of-made workchain shard parent h = rw (int_eq-refl workchain, h) refl

pub is_child_of-parts : (child parent : ShardId) → IsTrue (is_child_of child parent) → (child.workchain ≡ parent.workchain) × IsTrue (is_longer_by_one (prefix_of parent.shard) (prefix_of child.shard))
unfolding is_child_of
is_child_of-parts child parent h =
    let parts = and_parts (int_eq child.workchain parent.workchain) _ h in
    ((Decides-int_eq child.workchain parent.workchain).0 parts.0, parts.1)

-- the one shard of which another is a half
pub same_parent : (child parent : ShardId) (shard : ℕ) → (child.workchain ≡ parent.workchain) → Some shard ≡ Some parent.shard → Some (record { workchain = child.workchain; shard = shard }) ≡ Some parent
same_parent child parent shard ew es = rw (ew, some_is shard parent.shard es) refl

-- How many cells a part meets, cell by cell.
use Rattle.std.proofs.Common.{◌≡◌, ℕ, zero, suc, ◌+◌, ◌-◌, ◌≤◌, Bool, true, false, List, [], ◌∷◌, map, refl, sym, ap, ◌∙◌, subst, arith, add-zero}
use Rattle.std.specs.Prelude.{count_by, sum_by, cond}
use Rattle.std.specs.List.{range_with_len}
use Rattle.std.proofs.lemmas.List.FromFn.{sum_by-map-range_with_len_more}

same_map : (xs : List ℕ) → xs ≡ map (λ (x : ℕ). x) xs
same_map [] = refl
same_map (x ∷ xs) = ap (λ (l : List ℕ). x ∷ l) (same_map xs)

module _ (p : ℕ → Bool) where
  abbrev met_below : ℕ → ℕ
  met_below n = count_by p (range_with_len 0 n)

  abbrev bit : ℕ → ℕ
  bit k = cond (p k) 1 0

  met_next : (n : ℕ) → met_below (n + 1) ≡ met_below n + bit n
  met_next n =
      ap (sum_by bit) (same_map (range_with_len 0 (n + 1)))
      ∙ (sum_by-map-range_with_len_more bit (λ (k : ℕ). k) 0 n n (omega arith) ∙ ap (λ (l : List ℕ). sum_by bit l + bit n) (sym (same_map (range_with_len 0 n))))

  -- one more is met
  pub met_more : (n : ℕ) → p n ≡ true → met_below (n + 1) ≡ met_below n + 1
  met_more n met = met_next n ∙ ap (λ (b : Bool). met_below n + cond b 1 0) met

  met_upto : (n k : ℕ) → met_below n ≤ met_below (n + k)
  met_upto n zero = subst (λ (m : ℕ). met_below n ≤ met_below m) (sym (add-zero n)) (omega arith)
  met_upto n (suc k) =
      let first = met_upto n k in
      let next = met_next (n + k) in
      let e : (n + k) + 1 ≡ n + suc k = omega arith in
      let here : met_below n ≤ met_below ((n + k) + 1) = omega (arith, first, next) in
      subst (λ (m : ℕ). met_below n ≤ met_below m) e here

  pub met_within : (n m : ℕ) → n ≤ m → met_below n ≤ met_below m
  met_within n m within = let e : n + (m - n) ≡ m = omega arith in subst (λ (m : ℕ). met_below n ≤ met_below m) e (met_upto n (m - n))

-- what meets one test meets another
pub met_of_more : (p q : ℕ → Bool) → ((k : ℕ) → p k ≡ true → q k ≡ true) → (n : ℕ) → met_below p n ≤ met_below q n
met_of_more p q more zero = omega arith
met_of_more p q more (suc n) =
    let rest = met_of_more p q more n in
    let e : n + 1 ≡ suc n = omega arith in
    let bits : cond (p n) 1 0 ≤ cond (q n) 1 0 = bit_of_more (p n) (q n) (more n) in
    let here : met_below p (n + 1) ≤ met_below q (n + 1) = omega (arith, rest, bits, met_next p n, met_next q n) in
    subst (λ (m : ℕ). met_below p m ≤ met_below q m) e here
  where
    bit_of_more : (a b : Bool) → (a ≡ true → b ≡ true) → cond a 1 0 ≤ cond b 1 0
    bit_of_more false b more = omega arith
    bit_of_more true true more = omega arith
    bit_of_more true false more = absurd (let f = more refl in cc)

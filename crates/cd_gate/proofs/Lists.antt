-- Lists read by `get_elem?`: totals, facts of each element, and facts of at most one.
use Rattle.std.proofs.Common.{◌≡◌, ◌≢◌, ◌⊎◌, ℕ, zero, suc, ◌+◌, ◌<◌, ◌≤◌, List, [], ◌∷◌, ◌++◌, length, set, sym, refl, ap, ◌∙◌, subst, ⊎_elim, inl, inr, arith}
use mathlib.Core.Option.{some, some-injective, some-ne-none}
use lib.ListN.{get_elem?}
use Rattle.atomic_table.proofs.Lists.{at_set, at_snoc}
use Rattle.cd_gate.specs.TurnRule.{Each, total, Once}

module _ {A : Type 0} where
  pub total_set : (f : A → ℕ) (l : List A) (i : ℕ) (a b : A) → get_elem? l i ≡ some a → total f (set l i b) + f a ≡ total f l + f b
  total_set f [] i a b e = absurd (some-ne-none a (sym e))
  total_set f (x ∷ xs) zero a b e = let h : f x ≡ f a = ap f (some-injective x a e) in omega arith
  total_set f (x ∷ xs) (suc i) a b e = let h = total_set f xs i a b e in omega arith

  pub total_push : (f : A → ℕ) (l : List A) (a : A) → total f (l ++ a ∷ []) ≡ total f l + f a
  total_push f [] a = omega arith
  total_push f (x ∷ xs) a = let h = total_push f xs a in omega arith

  pub total_le : (f g : A → ℕ) (l : List A) → ((i : ℕ) (a : A) → get_elem? l i ≡ some a → f a ≤ g a) → total f l ≤ total g l
  total_le f g [] h = omega arith
  total_le f g (x ∷ xs) h = let a = h zero x refl in let b = total_le f g xs (λ i y e. h (suc i) y e) in omega arith

  pub each_set : (P : A → Type 0) (l : List A) (i : ℕ) (a : A) → P a → ((j : ℕ) (b : A) → j ≢ i → get_elem? l j ≡ some b → P b) → Each P (set l i a)
  each_set P l i a here else j b e = ⊎_elim (λ (t : (j ≡ i) × (a ≡ b)). subst P t.1 here) (λ (t : (j ≢ i) × (get_elem? l j ≡ some b)). else j b t.0 t.1) (at_set l i j a b e)

  pub each_push : (P : A → Type 0) (l : List A) (a : A) → P a → Each P l → Each P (l ++ a ∷ [])
  each_push P l a last before j b e = ⊎_elim (before j b) (λ (t : a ≡ b). subst P t last) (at_snoc l a b j e)

  pub each_none : (P : A → Type 0) → Each P []
  each_none P j b e = absurd (some-ne-none b (sym e))

  pub at_push : (l : List A) (a b : A) (j : ℕ) → get_elem? (l ++ a ∷ []) j ≡ some b → (get_elem? l j ≡ some b) ⊎ ((j ≡ length l) × (a ≡ b))
  at_push [] a b zero e = inr (refl, some-injective a b e)
  at_push [] a b (suc j) e = absurd (some-ne-none b (sym e))
  at_push (x ∷ xs) a b zero e = inl e
  at_push (x ∷ xs) a b (suc j) e = ⊎_elim (λ t. inl t) (λ t. inr (ap suc t.0, t.1)) (at_push xs a b j e)

  pub at_inside : (l : List A) (j : ℕ) (b : A) → get_elem? l j ≡ some b → j < length l
  at_inside [] j b e = absurd (some-ne-none b (sym e))
  at_inside (x ∷ xs) zero b e = omega arith
  at_inside (x ∷ xs) (suc j) b e = let h = at_inside xs j b e in omega arith

  pub set_swap : (l : List A) (i j : ℕ) (a b : A) → j ≢ i → set (set l i a) j b ≡ set (set l j b) i a
  set_swap [] i j a b n = refl
  set_swap (x ∷ xs) zero zero a b n = absurd (n refl)
  set_swap (x ∷ xs) zero (suc j) a b n = refl
  set_swap (x ∷ xs) (suc i) zero a b n = refl
  set_swap (x ∷ xs) (suc i) (suc j) a b n = ap (λ l. x ∷ l) (set_swap xs i j a b (λ e. n (ap suc e)))

  pub once_set : (P : A → Type 0) (l : List A) (i : ℕ) (a : A) → (P a → (j : ℕ) (b : A) → j ≢ i → get_elem? l j ≡ some b → P b → ⊥) → Once P l → Once P (set l i a)
  once_set P l i a alone once j k b c ej ek pb pc =
      ⊎_elim
      (λ (s : (j ≡ i) × (a ≡ b)).
      ⊎_elim (λ (t : (k ≡ i) × (a ≡ c)). s.0 ∙ sym t.0) (λ (t : (k ≢ i) × (get_elem? l k ≡ some c)). absurd (alone (subst P (sym s.1) pb) k c t.0 t.1 pc)) (at_set l i k a c ek))
      (λ (s : (j ≢ i) × (get_elem? l j ≡ some b)).
      ⊎_elim (λ (t : (k ≡ i) × (a ≡ c)). absurd (alone (subst P (sym t.1) pc) j b s.0 s.1 pb)) (λ (t : (k ≢ i) × (get_elem? l k ≡ some c)). once j k b c s.1 t.1 pb pc) (at_set l i k a c ek))
      (at_set l i j a b ej)

  -- the new element is so only if the old one was
  pub once_less : (P : A → Type 0) (l : List A) (i : ℕ) (o a : A) → get_elem? l i ≡ some o → (P a → P o) → Once P l → Once P (set l i a)
  once_less P l i o a at back once = once_set P l i a (λ pa j b other ej pb. other (once j i b o ej at pb (back pa))) once

  pub once_push : (P : A → Type 0) (l : List A) (a : A) → (P a → Each (λ b. P b → ⊥) l) → Once P l → Once P (l ++ a ∷ [])
  once_push P l a alone once j k b c ej ek pb pc =
      ⊎_elim
      (λ (s : get_elem? l j ≡ some b). ⊎_elim (λ (t : get_elem? l k ≡ some c). once j k b c s t pb pc) (λ (t : (k ≡ length l) × (a ≡ c)). absurd (alone (subst P (sym t.1) pc) j b s pb)) (at_push l a c k ek))
      (λ (s : (j ≡ length l) × (a ≡ b)). ⊎_elim (λ (t : get_elem? l k ≡ some c). absurd (alone (subst P (sym s.1) pb) k c t pc)) (λ (t : (k ≡ length l) × (a ≡ c)). s.0 ∙ sym t.0) (at_push l a c k ek))
      (at_push l a b j ej)

  pub at_longer : (l m : List A) (i : ℕ) (a : A) → get_elem? l i ≡ some a → get_elem? (l ++ m) i ≡ some a
  at_longer [] m i a e = absurd (some-ne-none a (sym e))
  at_longer (x ∷ xs) m zero a e = e
  at_longer (x ∷ xs) m (suc i) a e = at_longer xs m i a e

-- Sums over the values of finite maps, by look-ups alone: no law here speaks of the order of the values.
use Rattle.std.proofs.Common.{◌≡◌, ℕ, ◌+◌, List, [], ◌∷◌, map, Bool, true, false, cond, ◌&&◌, ◌≤◌, refl, sym, ap, ◌∙◌, T, Option, Some, None, arith, sum_by}
use Rattle.std.specs.Option.{option_or}
use Rattle.std.specs.Cmp.{IsTotalOrder, eq_by_cmp_equiv, tied_itself}
use Rattle.std.specs.Ordering.{eq_by_cmp, is_eq, is_lt}
use Rattle.std.specs.declared.cmp.Ordering.{Ordering}
use Rattle.std.specs.declared.cmp.Ordering.TheVariants.{Less, Equal, Greater}
use Rattle.std.specs.FinMap as finite
use Rattle.std.specs.FinMap.Entries.{put, by_order, below_all, is_sorted}
use Rattle.std.proofs.lemmas.List.Sums.{sum_by-cons}

module _ {K X : Type 0} where
  abbrev pub second_of : List (K × X) → List X
  second_of es = map (λ e. e.1) es

module _ {K X : Type 0} (R : K → K → Ordering) (f : X → ℕ) where
  pub sum_by-put : (k : K) (v : X) (es : List (K × X)) → finite.find R k es ≡ None → sum_by f (second_of (put R k v es)) ≡ f v + sum_by f (second_of es)
  sum_by-put k v [] none = sum_by-cons f v []
  sum_by-put k v (e ∷ es) none =
      elim (R k e.0) as (λ o. cond (is_eq o) (Some e.1) (finite.find R k es) ≡ None → sum_by f (second_of (by_order o ((k, v) ∷ e ∷ es) ((e.0, v) ∷ es) (e ∷ put R k v es))) ≡ f v + sum_by f (second_of (e ∷ es))) [
        | Less ↦ λ _. sum_by-cons f v (second_of (e ∷ es))
        | Equal ↦ λ n. cc
        | Greater ↦ λ n. let h = sum_by-put k v es n in let a = sum_by-cons f e.1 (second_of (put R k v es)) in let b = sum_by-cons f e.1 (second_of es) in omega arith
      ] none

  pub sum_by-insert : IsTotalOrder R → (m : finite.FinMap R X) (k : K) (v : X) → finite.get m k ≡ None → sum_by f (finite.values (finite.insert m k v)) ≡ f v + sum_by f (finite.values m)
  sum_by-insert o m k v none =
      ap (λ es. sum_by f (second_of es)) (finite.entries-insert o m k v)
      ∙ sum_by-put k v (finite.entries m) (sym (finite.get-entries m k) ∙ none)

-- entries whose keys are apart from one another and not in the map
abbrev pub AreFresh : {K X : Type 0} {R : K → K → Ordering} → finite.FinMap R X → List (K × X) → Type 0
AreFresh m [] = Unit {0}
AreFresh {R = R} m (e ∷ es) = (finite.find R e.0 es ≡ None) × (finite.get m e.0 ≡ None) × AreFresh m es

module _ {K X : Type 0} {R : K → K → Ordering} (o : IsTotalOrder R) where
  fresh_head : (b : Bool) (x : X) (r : Option X) → cond b (Some x) r ≡ None → (b ≡ false) × (r ≡ None)
  fresh_head true x r h = cc
  fresh_head false x r h = (refl, h)

  pub AreFresh-insert : (m : finite.FinMap R X) (k : K) (v : X) (es : List (K × X)) → finite.find R k es ≡ None → AreFresh m es → AreFresh (finite.insert m k v) es
  AreFresh-insert m k v [] none fresh = tt
  AreFresh-insert m k v (e ∷ es) none fresh =
      let h = fresh_head (eq_by_cmp R k e.0) e.1 (finite.find R k es) none in
      let n : eq_by_cmp R e.0 k ≡ false = (eq_by_cmp_equiv o).symm e.0 k ∙ h.0 in
      (fresh.0, finite.get-insert o m k v e.0 ∙ ap (λ b. cond b (Some v) (finite.get m e.0)) n ∙ fresh.1, AreFresh-insert m k v es h.1 fresh.2)

  moved : (b : Bool) (x : X) (r g : Option X) → (b ≡ true → r ≡ None) → option_or (cond b (Some x) r) g ≡ option_or r (cond b (Some x) g)
  moved true x r g none = ap (λ t. option_or t (Some x)) (sym (none refl))
  moved false x r g none = refl

  pub tied : (q k : K) (es : List (K × X)) → finite.find R k es ≡ None → eq_by_cmp R q k ≡ true → finite.find R q es ≡ None
  tied q k [] none e = refl
  tied q k (x ∷ xs) none e =
      let h = fresh_head (eq_by_cmp R k x.0) x.1 (finite.find R k xs) none in
      let n : eq_by_cmp R q x.0 ≡ false = (eq_by_cmp_equiv o).congr q k x.0 e ∙ h.0 in
      ap (λ b. cond b (Some x.1) (finite.find R q xs)) n ∙ tied q k xs h.1 e

  -- a map that has fresh entries beside those of another has the sums of both
  pub sum_by-fresh : finite.IsAntisymmetric R → (f : X → ℕ) (es : List (K × X)) (some all : finite.FinMap R X) → AreFresh some es
      → ((q : K) → finite.get all q ≡ option_or (finite.find R q es) (finite.get some q))
      → sum_by f (finite.values all) ≡ sum_by f (second_of es) + sum_by f (finite.values some)
  sum_by-fresh tells f [] some all fresh is = let h : sum_by f (finite.values all) ≡ sum_by f (finite.values some) = ap (λ m. sum_by f (finite.values m)) (finite.same_map o tells all some is) in omega arith
  sum_by-fresh tells f (e ∷ es) some all fresh is =
      let h = sum_by-fresh tells f es (finite.insert some e.0 e.1) all (AreFresh-insert some e.0 e.1 es fresh.0 fresh.2)
      (λ q. is q ∙ moved (eq_by_cmp R q e.0) e.1 (finite.find R q es) (finite.get some q) (tied q e.0 es fresh.0) ∙ ap (option_or (finite.find R q es)) (sym (finite.get-insert o some e.0 e.1 q))) in
      let a = sum_by-insert R f o some e.0 e.1 fresh.1 in
      let b = sum_by-cons f e.1 (second_of es) in
      omega arith

less : (a b : Bool) → T (a && b) → T a × T b
less true b h = (tt, h)
less false b h = absurd h

below_less : (r : Ordering) → T (is_lt r) → is_eq r ≡ false
below_less Less h = refl
below_less Equal h = absurd h
below_less Greater h = absurd h

module _ {K X : Type 0} {R : K → K → Ordering} (o : IsTotalOrder R) where
  missed_below : (q k : K) (es : List (K × X)) → T (below_all R k es) → R q k ≡ Equal → finite.find R q es ≡ None
  missed_below q k [] h e = refl
  missed_below q k (x ∷ xs) h e =
      let p = less _ _ h in
      ap (λ r. cond (is_eq r) (Some x.1) (finite.find R q xs)) (o.congr q k x.0 e)
      ∙ ap (λ b. cond b (Some x.1) (finite.find R q xs)) (below_less (R k x.0) p.0)
      ∙ missed_below q k xs p.1 e

  found_first : (e : K × X) (es : List (K × X)) → finite.find R e.0 (e ∷ es) ≡ Some e.1
  found_first e es = ap (λ r. cond (is_eq r) (Some e.1) (finite.find R e.0 es)) (tied_itself o e.0)

  found_later : (e : K × X) (es : List (K × X)) (q : K) (v : X) → T (below_all R e.0 es) → finite.find R q es ≡ Some v → finite.find R q (e ∷ es) ≡ Some v
  found_later e es q v h is =
      elim (R q e.0) as (λ r. R q e.0 ≡ r → cond (is_eq r) (Some e.1) (finite.find R q es) ≡ Some v) [
        | Less ↦ λ _. is
        | Equal ↦ λ t. let n = missed_below q e.0 es h t in cc
        | Greater ↦ λ _. is
      ] refl

  entries_zero : (f : X → ℕ) (es : List (K × X)) → T (is_sorted R es) → ((q : K) (v : X) → finite.find R q es ≡ Some v → f v ≡ 0) → sum_by f (second_of es) ≡ 0
  entries_zero f [] h z = refl
  entries_zero f (e ∷ es) h z =
      let p = less _ _ h in
      let a = entries_zero f es p.1 (λ q v is. z q v (found_later e es q v p.0 is)) in
      let b = z e.0 e.1 (found_first e es) in
      let c = sum_by-cons f e.1 (second_of es) in
      omega arith

  -- a sum is 0 where each term is
  pub sum_by_zero : (f : X → ℕ) (m : finite.FinMap R X) → ((q : K) (v : X) → finite.get m q ≡ Some v → f v ≡ 0) → sum_by f (finite.values m) ≡ 0
  sum_by_zero f m z = entries_zero f (finite.entries m) (finite.entries_sorted m) (λ q v is. z q v (finite.get-entries m q ∙ is))

  entry_below : (f : X → ℕ) (es : List (K × X)) (q : K) (v : X) → finite.find R q es ≡ Some v → f v ≤ sum_by f (second_of es)
  entry_below f [] q v is = cc
  entry_below f (e ∷ es) q v is =
      let c = sum_by-cons f e.1 (second_of es) in
      elim (eq_by_cmp R q e.0) as (λ b. cond b (Some e.1) (finite.find R q es) ≡ Some v → f v ≤ sum_by f (second_of (e ∷ es))) [
        | true ↦ λ t. let u : e.1 ≡ v = cc in let w : f e.1 ≡ f v = ap f u in omega arith
        | false ↦ λ t. let w = entry_below f es q v t in omega arith
      ] is

  -- each term is at most the sum
  pub term-le-sum_by : (f : X → ℕ) (m : finite.FinMap R X) (q : K) (v : X) → finite.get m q ≡ Some v → f v ≤ sum_by f (finite.values m)
  term-le-sum_by f m q v is = entry_below f (finite.entries m) q v (sym (finite.get-entries m q) ∙ is)

-- Entries of tables, in the order of their keys.
use Rattle.std.proofs.Common.{◌≡◌, ℕ, Bool, true, false, cond, List, [], ◌∷◌, map, Some, Contains, Less, Equal, Greater, Ordering, refl, sym, ap, ◌∙◌, subst, inl, inr, ⊎_elim, ◌⊎◌}
use Rattle.std.specs.Ordering.{nat_cmp, eq_by_cmp, is_lt, on}
use Rattle.std.specs.Cmp.{IsTotalOrder, tied_itself, on_total}
use Rattle.std.specs.Cmp.Lexicographic.{slice_cmp, nat_list_cmp_total}
use Rattle.std.specs.FinMap as finite
use Rattle.std.specs.FinMap.{FinMap, find, get, entries, is_sorted}
use Rattle.std.specs.FinMap.Entries.{below_all}
use Rattle.std.proofs.lemmas.Bool.{and_parts, true≢false}
use Rattle.std.proofs.lemmas.Option.{none-some, same_Some}
use Rattle.cd_cell.proofs.Distinct.{Rises}
use Rattle.cd_cell.proofs.Subtrees.{Contains-first, Contains-later, Contains-cases, Contains-nil, Contains-map, Contains-mapped}
use Rattle.cd_world.proofs.Held.{same_bytes, bytes_tie}
use Rattle.cd_world.proofs.Puts.{true_of}

abbrev pub byte_cmp : List ℕ → List ℕ → Ordering
byte_cmp = slice_cmp nat_cmp

pub less_of : (o : Ordering) → is_lt o ≡ true → o ≡ Less
less_of Less e = refl
less_of Equal e = absurd cc
less_of Greater e = absurd cc

pub is_less : (o : Ordering) → o ≡ Less → is_lt o ≡ true
is_less o e = ap is_lt e

pub not_before_itself : (key : List ℕ) → byte_cmp key key ≡ Less → ⊥
not_before_itself key e = cc (tied_itself nat_list_cmp_total key, e)

pub one_way : (a b : List ℕ) → byte_cmp a b ≡ Less → byte_cmp b a ≡ Less → ⊥
one_way a b e f = (let turned = nat_list_cmp_total.antisymm a b in absurd (cc (turned, e, f)))

module _ {X : Type 0} where
  abbrev pub by_key : List ℕ × X → List ℕ × X → Ordering
  by_key = on (λ e. e.0) byte_cmp

  pub by_key-total : IsTotalOrder by_key
  by_key-total = on_total (λ (e : List ℕ × X). e.0) nat_list_cmp_total

  -- each entry is before those after it
  abbrev pub AreInOrder : List (List ℕ × X) → Type 0
  AreInOrder = Rises by_key

  below-entry : (key : List ℕ) (es : List (List ℕ × X)) (e : List ℕ × X) → below_all byte_cmp key es ≡ true → Contains es e → byte_cmp key e.0 ≡ Less
  below-entry key [] e below h = absurd (Contains-nil e h)
  below-entry key (x ∷ es) e below h =
      let parts = and_parts (is_lt (byte_cmp key x.0)) (below_all byte_cmp key es) below in
      ⊎_elim (λ same. subst (λ (y : List ℕ × X). byte_cmp key y.0 ≡ Less) same (less_of _ parts.0)) (λ later. below-entry key es e parts.1 later) (Contains-cases x es e h)

  order-sorted : (es : List (List ℕ × X)) → is_sorted byte_cmp es ≡ true → AreInOrder es
  order-sorted [] sorted = tt
  order-sorted (e ∷ es) sorted =
      let parts = and_parts (below_all byte_cmp e.0 es) (is_sorted byte_cmp es) sorted in
      (λ y h. below-entry e.0 es y parts.0 h, order-sorted es parts.1)

  pub table-in_order : (m : FinMap byte_cmp X) → AreInOrder (entries m)
  table-in_order m = order-sorted (entries m) (true_of _ (finite.entries_sorted m))

  -- in order, each entry is found under its key
  pub found-entry : (es : List (List ℕ × X)) → AreInOrder es → (e : List ℕ × X) → Contains es e → find byte_cmp e.0 es ≡ Some e.1
  found-entry [] up e h = absurd (Contains-nil e h)
  found-entry (x ∷ es) up e h = by (found-entry es up.1 e) (Contains-cases x es e h) (eq_by_cmp byte_cmp e.0 x.0) refl
    where
      by : (Contains es e → find byte_cmp e.0 es ≡ Some e.1) → (x ≡ e) ⊎ Contains es e → (b : Bool) → eq_by_cmp byte_cmp e.0 x.0 ≡ b → cond b (Some x.1) (find byte_cmp e.0 es) ≡ Some e.1
      by rest (inl same) true tied = ap (λ (y : List ℕ × X). Some y.1) same
      by rest (inl same) false tied = absurd (true≢false (sym (bytes_tie e.0 x.0 (ap (λ (y : List ℕ × X). y.0) (sym same))) ∙ tied))
      by rest (inr later) true tied = absurd (not_before_itself x.0 (subst (λ (k : List ℕ). byte_cmp x.0 k ≡ Less) (same_bytes e.0 x.0 tied) (up.0 e later)))
      by rest (inr later) false tied = rest later

  -- what is found under a key is an entry with that key
  pub entry-found : (q : List ℕ) (es : List (List ℕ × X)) (v : X) → find byte_cmp q es ≡ Some v → (e : List ℕ × X) × Contains es e × (q ≡ e.0) × (e.1 ≡ v)
  entry-found q [] v e = absurd (none-some v e)
  entry-found q (x ∷ es) v e = by (entry-found q es v) (eq_by_cmp byte_cmp q x.0) refl e
    where
      by : (find byte_cmp q es ≡ Some v → (e : List ℕ × X) × Contains es e × (q ≡ e.0) × (e.1 ≡ v)) → (b : Bool) → eq_by_cmp byte_cmp q x.0 ≡ b
          → cond b (Some x.1) (find byte_cmp q es) ≡ Some v → (e : List ℕ × X) × Contains (x ∷ es) e × (q ≡ e.0) × (e.1 ≡ v)
      by rest true tied is = (x, Contains-first x es, same_bytes q x.0 tied, same_Some x.1 v is)
      by rest false tied is = let found = rest is in (found.0, Contains-later x es found.0 found.1, found.2, found.3)

  pub table-get : (m : FinMap byte_cmp X) (e : List ℕ × X) → Contains (entries m) e → get m e.0 ≡ Some e.1
  table-get m e h = finite.get-entries m e.0 ∙ found-entry (entries m) (table-in_order m) e h

  pub table-got : (m : FinMap byte_cmp X) (q : List ℕ) (v : X) → get m q ≡ Some v → (e : List ℕ × X) × Contains (entries m) e × (q ≡ e.0) × (e.1 ≡ v)
  table-got m q v e = entry-found q (entries m) v (sym (finite.get-entries m q) ∙ e)

-- ---- lists that rise

module _ {A B : Type 0} (R : A → A → Ordering) (S : B → B → Ordering) where
  pub rises-map : (f : A → B) (xs : List A) → ((x y : A) → Contains xs x → Contains xs y → R x y ≡ Less → S (f x) (f y) ≡ Less) → Rises R xs → Rises S (map f xs)
  rises-map f [] keeps up = tt
  rises-map f (x ∷ xs) keeps up = (
    λ y h.
        let from = Contains-map f xs y h in
        subst (λ z. S (f x) z ≡ Less) from.2 (keeps x from.0 (Contains-first x xs) (Contains-later x xs from.0 from.1) (up.0 from.0 from.1)),
    rises-map f xs (λ y z in-y in-z. keeps y z (Contains-later x xs y in-y) (Contains-later x xs z in-z)) up.1,
  )

  -- what keeps the order leads back to it
  pub rises-unmap : (f : A → B) (xs : List A) → ((x y : A) → Contains xs x → Contains xs y → S (f x) (f y) ≡ Less → R x y ≡ Less) → Rises S (map f xs) → Rises R xs
  rises-unmap f [] keeps up = tt
  rises-unmap f (x ∷ xs) keeps up = (
    λ y h. keeps x y (Contains-first x xs) (Contains-later x xs y h) (up.0 (f y) (Contains-mapped f xs y h)),
    rises-unmap f xs (λ y z in-y in-z. keeps y z (Contains-later x xs y in-y) (Contains-later x xs z in-z)) up.1,
  )

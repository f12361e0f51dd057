-- Lists of all nodes that further roots reach, those apart that are held already.
use Rattle.std.proofs.Common.{◌≡◌, ◌⊎◌, inl, inr, Bool, true, false, cond, List, [], ◌∷◌, map, filter, Contains, refl, ap, Option, Some, None, IsSome, is_none}
use Rattle.std.specs.List.{IsDistinct, AllByRecursion}
use Rattle.cd_cell.proofs.ListTests.{Contains-filter, filter-Contains}
use Rattle.cd_nodes.specs.Graphs.{Graph, IsGraph, reached, held_at, AreTogether, AreNew}
use Rattle.cd_nodes.proofs.Lists.{not_both, Contains-flat_map, Contains-flat_map_cases}
use Rattle.cd_nodes.proofs.Held.{held_by}

module _ {X K : Type 0} (same : K → K → Bool) (key : X → K) (p : X → Bool) where
  none-filter : (k : K) (xs : List X) → AllByRecursion (λ y. same k y ≡ false) (map key xs) → AllByRecursion (λ y. same k y ≡ false) (map key (filter p xs))
  none-filter k [] h = tt
  none-filter k (x ∷ xs) h =
      elim (p x) as (λ b. AllByRecursion (λ y. same k y ≡ false) (map key (cond b (x ∷ filter p xs) (filter p xs)))) [
        | true ↦ (h.0, none-filter k xs h.1)
        | false ↦ none-filter k xs h.1
      ]

  IsDistinct-filter : (xs : List X) → IsDistinct same (map key xs) → IsDistinct same (map key (filter p xs))
  unfolding IsDistinct
  IsDistinct-filter [] h = tt
  IsDistinct-filter (x ∷ xs) h =
      elim (p x) as (λ b. IsDistinct same (map key (cond b (x ∷ filter p xs) (filter p xs)))) [
        | true ↦ (none-filter (key x) xs h.0, IsDistinct-filter xs h.1)
        | false ↦ IsDistinct-filter xs h.1
      ]

none_is : {X : Type 0} (o : Option X) → is_none o ≡ true → o ≡ None
none_is None e = refl
none_is (Some x) e = cc

not_none : {X : Type 0} (o : Option X) → o ≡ None → IsSome o → ⊥
not_none None e s = cc
not_none (Some x) e s = cc

module _ {N K : Type 0} (G : Graph N K) (laws : IsGraph G) where
  pub new-listed : (few more many listed : List N) → AreTogether G few more many
      → IsDistinct G.same (map G.key listed)
      → ((c : N) → Contains listed c → Contains (reached G more) c)
      → ((c : N) → Contains (reached G more) c → Contains listed c ⊎ IsSome (held_at G few (G.key c)))
      → AreNew G few many (filter (λ c. is_none (held_at G few (G.key c))) listed)
  new-listed few more many listed sum distinct within every = record {
    distinct = IsDistinct-filter G.same G.key is_new listed distinct;
    held_now = λ c h.
        let r = Contains-flat_map_cases G.reach more c (within c (filter-Contains is_new listed c h).0) in
        Contains-flat_map G.reach many r.0 c (sum.second r.0 r.1) r.2;
    held_not = λ c h. none_is (held_at G few (G.key c)) (filter-Contains is_new listed c h).1;
    every = λ c h none.
        let r = Contains-flat_map_cases G.reach many c h in
        elim (sum.has r.0 r.1) [
          | inl old ↦
              let f = held_by G laws few c (Contains-flat_map G.reach few r.0 c old r.2) in
              absurd (not_both f.0 (held_at G few (G.key c)) none f.1)
          | inr new ↦ elim (every c (Contains-flat_map G.reach more r.0 c new r.2)) [
            | inl here ↦ Contains-filter is_new listed c here (ap (λ (o : Option N). is_none o) none)
            | inr some ↦ absurd (not_none (held_at G few (G.key c)) none some)
          ]
        ];
  }
    where
      is_new : N → Bool
      is_new c = is_none (held_at G few (G.key c))

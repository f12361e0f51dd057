-- Elements of lists that are made of lists, and elements that are counted.
use Rattle.std.proofs.Common.{◌≡◌, ◌⊎◌, inl, inr, ℕ, zero, suc, ◌+◌, ◌≤◌, List, [], ◌∷◌, ◌++◌, length, take, drop, map, Bool, true, false, true≢false, cond, Contains, flat_map, sum_by, refl, ap, ◌∙◌, sym, subst, arith, count_by, Option, Some, None}
use Rattle.std.specs.List.{IsDistinct, AllByRecursion}
use Rattle.std.proofs.lemmas.List.{take-append-drop}
use Rattle.std.proofs.lemmas.List.Elements.{Contains-append_left, Contains-append_right, Contains-append_cases}
use Rattle.std.proofs.lemmas.List.Sums.{sum_by-cons}
use Rattle.cd_cell.proofs.Subtrees.{Contains-first, Contains-later, Contains-cases, Contains-nil}

pub option_cases : {X : Type 0} (o : Option X) → (o ≡ None) ⊎ ((x : X) × (o ≡ Some x))
option_cases None = inl refl
option_cases (Some x) = inr (x, refl)

pub not_both : {X : Type 0} (x : X) (o : Option X) → o ≡ None → o ≡ Some x → ⊥
not_both x o n s = cc

pub zero_unless : (n : ℕ) → (1 ≤ n → ⊥) → n ≡ 0
zero_unless zero f = refl
zero_unless (suc n) f = absurd (f (omega arith))

pub take_all_of : {X : Type 0} (n : ℕ) (xs : List X) → length xs ≤ n → take n xs ≡ xs
take_all_of zero [] l = refl
take_all_of zero (x ∷ xs) l = absurd (omega arith)
take_all_of (suc n) [] l = refl
take_all_of (suc n) (x ∷ xs) l = ap (λ zs. x ∷ zs) (take_all_of n xs (omega arith))

pub take-prefix : {X : Type 0} (n : ℕ) (xs ys : List X) → n ≤ length xs → take n (xs ++ ys) ≡ take n xs
take-prefix zero xs ys l = refl
take-prefix (suc n) [] ys l = absurd (omega arith)
take-prefix (suc n) (x ∷ xs) ys l = ap (λ zs. x ∷ zs) (take-prefix n xs ys (omega arith))

module _ {X Y : Type 0} (f : X → List Y) where
  pub Contains-flat_map : (xs : List X) (x : X) (y : Y) → Contains xs x → Contains (f x) y → Contains (flat_map f xs) y
  Contains-flat_map [] x y h g = absurd (Contains-nil x h)
  Contains-flat_map (z ∷ zs) x y h g = elim (Contains-cases z zs x h) [
    | inl e ↦ Contains-append_left (f z) (flat_map f zs) y (subst (λ v. Contains (f v) y) (sym e) g)
    | inr q ↦ Contains-append_right (f z) (flat_map f zs) y (Contains-flat_map zs x y q g)
  ]

  pub Contains-flat_map_cases : (xs : List X) (y : Y) → Contains (flat_map f xs) y → (x : X) × Contains xs x × Contains (f x) y
  Contains-flat_map_cases [] y h = absurd (Contains-nil y h)
  Contains-flat_map_cases (z ∷ zs) y h = elim (Contains-append_cases (f z) (flat_map f zs) y h) [
    | inl q ↦ (z, Contains-first z zs, q)
    | inr q ↦ let r = Contains-flat_map_cases zs y q in (r.0, Contains-later z zs r.0 r.1, r.2)
  ]

module _ {X : Type 0} (p : X → Bool) where
  -- what passes is counted
  pub count_by_some : (xs : List X) (x : X) → Contains xs x → p x ≡ true → 1 ≤ count_by p xs
  count_by_some [] x h e = absurd (Contains-nil x h)
  count_by_some (y ∷ ys) x h e =
      let s = sum_by-cons (λ z. cond (p z) 1 0) y ys in
      elim (Contains-cases y ys x h) [
        | inl q ↦ let t : cond {A = ℕ} (p y) 1 0 ≡ 1 = ap (λ z. cond {A = ℕ} (p z) 1 0) q ∙ ap (λ b. cond {A = ℕ} b 1 0) e in omega arith
        | inr q ↦ let t = count_by_some ys x q e in omega arith
      ]

  -- and what is counted is there
  pub count_by_has : (xs : List X) → (1 ≤ count_by p xs) → (x : X) × Contains xs x × (p x ≡ true)
  count_by_has [] h = absurd (omega arith)
  count_by_has (y ∷ ys) h =
      let s = sum_by-cons (λ z. cond (p z) 1 0) y ys in
      elim (p y) as (λ b. p y ≡ b → (x : X) × Contains (y ∷ ys) x × (p x ≡ true)) [
        | true ↦ λ e. (y, Contains-first y ys, e)
        | false ↦ λ e.
            let t : cond {A = ℕ} (p y) 1 0 ≡ 0 = ap (λ b. cond {A = ℕ} b 1 0) e in
            let r = count_by_has ys (omega arith) in
            (r.0, Contains-later y ys r.0 r.1, r.2)
      ] refl

-- ---- elements that are all among others

module _ {X : Type 0} where
  -- a list without one of its elements
  record Without (ys : List X) (x : X) : Type 0 where
    rest : List X
    shorter : length ys ≡ length rest + 1
    sums : (f : X → ℕ) → sum_by f ys ≡ f x + sum_by f rest
    cover : (y : X) → Contains ys y → (x ≡ y) ⊎ Contains rest y

  without : (ys : List X) (x : X) → Contains ys x → Without ys x
  without [] x h = absurd (Contains-nil x h)
  without (y ∷ ys) x h = elim (Contains-cases y ys x h) [
    | inl e ↦ record {
      rest = ys;
      shorter = omega arith;
      sums = λ f. sum_by-cons f y ys ∙ ap (λ v. f v + sum_by f ys) e;
      cover = λ z g. elim (Contains-cases y ys z g) [ inl same ↦ inl (sym e ∙ same) | inr later ↦ inr later ];
    }
    | inr l ↦
        let w = without ys x l in
        record {
          rest = y ∷ w.rest;
          shorter = let n = w.shorter in omega arith;
          sums = λ f. let a = sum_by-cons f y ys in let b = sum_by-cons f y w.rest in let c = w.sums f in omega arith;
          cover = λ z g. elim (Contains-cases y ys z g) [
            | inl same ↦ inr (subst (Contains (y ∷ w.rest)) same (Contains-first y w.rest))
            | inr later ↦ elim (w.cover z later) [ inl same ↦ inl same | inr there ↦ inr (Contains-later y w.rest z there) ]
          ];
        }
  ]

  -- the first of some elements are among them
  pub Contains-taken : (n : ℕ) (xs : List X) (x : X) → Contains (take n xs) x → Contains xs x
  Contains-taken n xs x h = subst (λ zs. Contains zs x) (take-append-drop n xs) (Contains-append_left (take n xs) (drop n xs) x h)

  module _ {K : Type 0} (same : K → K → Bool) (itself : (k : K) → same k k ≡ true) (key : X → K) where
    unlike : (k : K) (xs : List X) (x : X) → AllByRecursion (λ q. same k q ≡ false) (map key xs) → Contains xs x → same k (key x) ≡ false
    unlike k [] x apart h = absurd (Contains-nil x h)
    unlike k (y ∷ ys) x apart h = elim (Contains-cases y ys x h) [
      | inl e ↦ subst (λ z. same k (key z) ≡ false) e apart.0
      | inr later ↦ unlike k ys x apart.1 later
    ]

    -- where no two of some elements have one key and the first of them are among others, these are as many at least, and
    -- no sum over them is less
    pub taken-within : (n : ℕ) (xs ys : List X) → IsDistinct same (map key xs) → ((x : X) → Contains (take n xs) x → Contains ys x)
        → (length (take n xs) ≤ length ys) × ((f : X → ℕ) → sum_by f (take n xs) ≤ sum_by f ys)
    unfolding IsDistinct
    taken-within zero xs ys distinct inside = (omega arith, λ f. omega arith)
    taken-within (suc n) [] ys distinct inside = (omega arith, λ f. omega arith)
    taken-within (suc n) (x ∷ xs) ys distinct inside =
        let w = without ys x (inside x (Contains-first x (take n xs))) in
        let rest = taken-within n xs w.rest distinct.1 (λ y h. elim (w.cover y (inside y (Contains-later x (take n xs) y h))) [
          | inl e ↦ absurd (true≢false (sym (itself (key x)) ∙ ap (λ z. same (key x) (key z)) e ∙ unlike (key x) xs y distinct.0 (Contains-taken n xs y h)))
          | inr there ↦ there
        ]) in (
          let a = rest.0 in let b = w.shorter in omega arith,
          λ f. let a = rest.1 f in let b = w.sums f in let c = sum_by-cons f x (take n xs) in omega arith,
        )

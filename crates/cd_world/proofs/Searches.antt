-- What a search finds in a list that changed.
use Rattle.std.proofs.Common.{◌≡◌, Bool, true, false, cond, List, [], ◌∷◌, Some, map, refl, sym, ap, ◌∙◌, subst, ⊎_elim, Contains}
use Rattle.std.specs.Prelude.{find, filter, ◌||◌, IsSome}
use Rattle.std.specs.List.{list_any}
use Rattle.std.specs.Option.{option_map}
use Rattle.std.proofs.lemmas.Option.{none-some, same_Some}
use Rattle.cd_cell.proofs.Subtrees.{Contains-first, Contains-later, Contains-cases, Contains-nil}

module _ {A : Type 0} (p : A → Bool) where
  pub find-passes : (xs : List A) (x : A) → find p xs ≡ Some x → p x ≡ true
  find-passes [] x e = absurd (none-some x e)
  find-passes (y ∷ ys) x e = elim (p y) as (λ b. p y ≡ b → cond b (Some y) (find p ys) ≡ Some x → p x ≡ true) [
    | true ↦ λ t s. ap p (sym (same_Some y x s)) ∙ t
    | false ↦ λ t s. find-passes ys x s
  ] refl e

  pub find-filter : (keep : A → Bool) (xs : List A) (x : A) → find p xs ≡ Some x → keep x ≡ true → find p (filter keep xs) ≡ Some x
  find-filter keep [] x e k = e
  find-filter keep (y ∷ ys) x e k = elim (p y) as (λ b. p y ≡ b → cond b (Some y) (find p ys) ≡ Some x → find p (cond (keep y) (y ∷ filter keep ys) (filter keep ys)) ≡ Some x) [
    | true ↦ λ t s.
        let same : y ≡ x = same_Some y x s in
        let kept : keep y ≡ true = ap keep same ∙ k in
        ap (λ b. find p (cond b (y ∷ filter keep ys) (filter keep ys))) kept ∙ ap (λ b. cond b (Some y) (find p (filter keep ys))) t ∙ s
    | false ↦ λ t s. elim (keep y) as (λ b. find p (cond b (y ∷ filter keep ys) (filter keep ys)) ≡ Some x) [
      | true ↦ ap (λ b. cond b (Some y) (find p (filter keep ys))) t ∙ find-filter keep ys x s k
      | false ↦ find-filter keep ys x s k
    ]
  ] refl e

  pub any-found : (test : A → Bool) (xs : List A) (x : A) → find p xs ≡ Some x → test x ≡ true → list_any test xs ≡ true
  any-found test [] x e t = absurd (none-some x e)
  any-found test (y ∷ ys) x e t = elim (p y) as (λ b. cond b (Some y) (find p ys) ≡ Some x → (test y || list_any test ys) ≡ true) [
    | true ↦ λ s. ap (λ b. b || list_any test ys) (ap test (same_Some y x s) ∙ t)
    | false ↦ λ s. elim (test y) as (λ b. (b || list_any test ys) ≡ true) [ true ↦ refl | false ↦ any-found test ys x s t ]
  ] e

  pub find-map : (f : A → A) → ((a : A) → p (f a) ≡ p a) → (xs : List A) → find p (map f xs) ≡ option_map f (find p xs)
  find-map f same [] = refl
  find-map f same (y ∷ ys) = rw (same y) (elim (p y) as (λ b. cond b (Some (f y)) (find p (map f ys)) ≡ option_map f (cond b (Some y) (find p ys))) [
    | true ↦ refl
    | false ↦ find-map f same ys
  ])

  pub find-contains : (xs : List A) (x : A) → find p xs ≡ Some x → Contains xs x
  find-contains [] x e = absurd (none-some x e)
  find-contains (y ∷ ys) x e = by (find-contains ys x) (p y) e
    where
      by : (find p ys ≡ Some x → Contains ys x) → (b : Bool) → cond b (Some y) (find p ys) ≡ Some x → Contains (y ∷ ys) x
      by rest true s = subst (Contains (y ∷ ys)) (same_Some y x s) (Contains-first y ys)
      by rest false s = Contains-later y ys x (rest s)

  pub find-some : (xs : List A) (x : A) → Contains xs x → p x ≡ true → IsSome (find p xs)
  find-some [] x h pass = absurd (Contains-nil x h)
  find-some (y ∷ ys) x h pass = by (λ later. find-some ys x later pass) (p y) refl
    where
      by : (Contains ys x → IsSome (find p ys)) → (b : Bool) → p y ≡ b → IsSome (cond b (Some y) (find p ys))
      by rest true e = refl
      by rest false e =
          ⊎_elim (λ same. absurd (let no : false ≡ true = sym e ∙ ap p same ∙ pass in cc)) rest (Contains-cases y ys x h)

-- Lists that are searched and filtered by a test.
use Rattle.std.proofs.Common.{◌≡◌, Bool, true, false, true≢false, List, [], ◌∷◌, Contains, refl, sym, ap, subst, ◌∙◌, ◌⊎◌, inl, inr, ⊎_elim}
use Rattle.std.specs.Prelude.{if◌then◌else◌}
use Rattle.std.specs.Bool.{Decides}
use Rattle.std.specs.List.{filter, list_any}
use Rattle.std.proofs.lemmas.Bool.{or_cases, or_left, or_right}
use Rattle.cd_cell.proofs.Subtrees.{Contains-first, Contains-later, Contains-cases, Contains-nil}

pub Contains-filter : {A : Type 0} (p : A → Bool) (xs : List A) (x : A) → Contains xs x → p x ≡ true → Contains (filter p xs) x
Contains-filter p [] x h pass = absurd (Contains-nil x h)
Contains-filter p (y ∷ ys) x h pass =
    ⊎_elim
    (λ same.
    let first : p y ≡ true = ap p same ∙ pass in
    subst (λ b. Contains (if b then y ∷ filter p ys else filter p ys) x) (sym first) (subst (Contains (y ∷ filter p ys)) same (Contains-first y (filter p ys))))
    (λ later.
    let rest = Contains-filter p ys x later pass in
    elim (p y) as (λ b. Contains (if b then y ∷ filter p ys else filter p ys) x) [ true ↦ Contains-later y (filter p ys) x rest | false ↦ rest ])
    (Contains-cases y ys x h)

filter-head : {A : Type 0} (b : Bool) (p : A → Bool) (y : A) (zs : List A) (x : A) → Contains (if b then y ∷ zs else zs) x → ((y ≡ x) × (b ≡ true)) ⊎ Contains zs x
filter-head true p y zs x h = ⊎_elim (λ same. inl (same, refl)) inr (Contains-cases y zs x h)
filter-head false p y zs x h = inr h

pub filter-Contains : {A : Type 0} (p : A → Bool) (xs : List A) (x : A) → Contains (filter p xs) x → Contains xs x × (p x ≡ true)
filter-Contains p [] x h = absurd (Contains-nil x h)
filter-Contains p (y ∷ ys) x h =
    ⊎_elim
    (λ here. (subst (Contains (y ∷ ys)) here.0 (Contains-first y ys), ap p (sym here.0) ∙ here.1))
    (λ later. let found = filter-Contains p ys x later in (Contains-later y ys x found.0, found.1))
    (filter-head (p y) p y (filter p ys) x h)

pub list_any-Contains : {A : Type 0} (p : A → Bool) (xs : List A) → list_any p xs ≡ true → (x : A) × Contains xs x × (p x ≡ true)
list_any-Contains p [] h = absurd (true≢false (sym h))
list_any-Contains p (y ∷ ys) h =
    ⊎_elim
    (λ here. (y, Contains-first y ys, here))
    (λ later. let found = list_any-Contains p ys later in (found.0, Contains-later y ys found.0 found.1, found.2))
    (or_cases (p y) (list_any p ys) h)

pub Contains-list_any : {A : Type 0} (p : A → Bool) (xs : List A) (x : A) → Contains xs x → p x ≡ true → list_any p xs ≡ true
Contains-list_any p [] x h pass = absurd (Contains-nil x h)
Contains-list_any p (y ∷ ys) x h pass =
    ⊎_elim
    (λ same. or_left (p y) (list_any p ys) (ap p same ∙ pass))
    (λ later. or_right (p y) (list_any p ys) (Contains-list_any p ys x later pass))
    (Contains-cases y ys x h)

pub none-left : {A : Type 0} (xs : List A) → ((x : A) → Contains xs x → ⊥) → xs ≡ []
none-left [] none = refl
none-left (x ∷ xs) none = absurd (none x (Contains-first x xs))

pub true_or_false : (b : Bool) → (b ≡ true) ⊎ (b ≡ false)
true_or_false true = inl refl
true_or_false false = inr refl

-- ---- a test of equality

module _ {A : Type 0} (same : A → A → Bool) (tells : (a b : A) → Decides (same a b) (a ≡ b)) where
  pub contains-any : (x : A) (xs : List A) → list_any (same x) xs ≡ true → Contains xs x
  contains-any x xs e = let found = list_any-Contains (same x) xs e in subst (Contains xs) (sym ((tells x found.0).0 found.2)) found.1

  pub any-contains : (x : A) (xs : List A) → Contains xs x → list_any (same x) xs ≡ true
  any-contains x xs h = Contains-list_any (same x) xs x h ((tells x x).1 refl)

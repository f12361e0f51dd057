-- Lists filtered by tests that all, or none, of their elements pass.
use Rattle.std.proofs.Common.{◌≡◌, ℕ, zero, suc, ◌<◌, ◌≤◌, Bool, true, false, cond, List, [], ◌∷◌, ◌++◌, length, slice_index_or, slice_get, Some, All, AllPairs, filter, refl, sym, ap, ◌∙◌, arith}
use Rattle.std.proofs.lemmas.List.Elements.{All-nil, All-cons, All-head, All-tail, All-append}
use Rattle.std.proofs.lemmas.List.Kept.{AllPairs-cons}

module _ {X : Type 0} where
  pub filter-all : (p : X → Bool) (xs : List X) → All (λ x. p x ≡ true) xs → filter p xs ≡ xs
  filter-all p [] h = refl
  filter-all p (x ∷ xs) h = ap (λ b. cond b (x ∷ filter p xs) (filter p xs)) (All-head (λ x. p x ≡ true) x xs h) ∙ ap (λ ys. x ∷ ys) (filter-all p xs (All-tail (λ x. p x ≡ true) x xs h))

  pub filter-none : (p : X → Bool) (xs : List X) → All (λ x. p x ≡ false) xs → filter p xs ≡ []
  filter-none p [] h = refl
  filter-none p (x ∷ xs) h = ap (λ b. cond b (x ∷ filter p xs) (filter p xs)) (All-head (λ x. p x ≡ false) x xs h) ∙ filter-none p xs (All-tail (λ x. p x ≡ false) x xs h)

  -- a stricter test after a weaker one
  filter_one : (p q : X → Bool) (b : Bool) (x : X) (xs ys : List X) → q x ≡ b → (p x ≡ true → q x ≡ true) → filter p (filter q xs) ≡ filter p xs
      → filter p (cond b (x ∷ filter q xs) (filter q xs)) ≡ cond (p x) (x ∷ filter p xs) (filter p xs)
  filter_one p q true x xs ys is weaker same = ap (λ zs. cond (p x) (x ∷ zs) zs) same
  filter_one p q false x xs ys is weaker same = same ∙ elim (p x) as (λ c. p x ≡ c → filter p xs ≡ cond c (x ∷ filter p xs) (filter p xs)) [
    | true ↦ λ e. absurd (let no : true ≡ false = sym (weaker e) ∙ is in cc)
    | false ↦ λ e. refl
  ] refl

  pub filter-filter : (p q : X → Bool) (xs : List X) → ((x : X) → p x ≡ true → q x ≡ true) → filter p (filter q xs) ≡ filter p xs
  filter-filter p q [] weaker = refl
  filter-filter p q (x ∷ xs) weaker = filter_one p q (q x) x xs xs refl (weaker x) (filter-filter p q xs weaker)

  -- what holds of the elements that pass holds of each element where it passes
  from_cond : (P : X → Type 0) (b : Bool) (x : X) (us : List X) → All P (cond b (x ∷ us) us) → (b ≡ true → P x) × All P us
  from_cond P true x us h = (λ e. All-head P x us h, All-tail P x us h)
  from_cond P false x us h = (λ e. cc, h)

  pub All-unfilter : (P : X → Type 0) (p : X → Bool) (xs : List X) → All P (filter p xs) → All (λ x. p x ≡ true → P x) xs
  All-unfilter P p [] h = All-nil (λ x. p x ≡ true → P x)
  All-unfilter P p (x ∷ xs) h = let both = from_cond P (p x) x (filter p xs) h in All-cons (λ x. p x ≡ true → P x) x xs both.0 (All-unfilter P p xs both.1)

  pub All-map : (P Q : X → Type 0) (xs : List X) → ((x : X) → P x → Q x) → All P xs → All Q xs
  All-map P Q xs f h k d lt = f (slice_index_or xs k d) (h k d lt)

  pub All-both : (P Q : X → Type 0) (xs : List X) → All P xs → All Q xs → All (λ x. P x × Q x) xs
  All-both P Q xs h g k d lt = (h k d lt, g k d lt)

  -- numbers that don't fall, one list after another
  pub pairs_append : (number : X → ℕ) (n : ℕ) (xs ys : List X) → All (λ x. number x ≡ n) xs → All (λ y. n ≤ number y) ys
      → AllPairs (λ a b. number a ≤ number b) ys → AllPairs (λ a b. number a ≤ number b) (xs ++ ys)
  pairs_append number n [] ys same above pairs = pairs
  pairs_append number n (x ∷ xs) ys same above pairs =
      let here = All-head (λ x. number x ≡ n) x xs same in
      let rest = All-tail (λ x. number x ≡ n) x xs same in
      AllPairs-cons (λ a b. number a ≤ number b) x (xs ++ ys)
      (All-append (λ b. number x ≤ number b) xs ys
      (All-map (λ b. number b ≡ n) (λ b. number x ≤ number b) xs (λ b e. omega arith) rest)
      (All-map (λ b. n ≤ number b) (λ b. number x ≤ number b) ys (λ b e. omega arith) above))
      (pairs_append number n xs ys rest above pairs)

  pub get-below : (xs : List X) (n : ℕ) → n < length xs → (x : X) × (slice_get xs n ≡ Some x)
  get-below [] n lt = absurd (omega arith)
  get-below (x ∷ xs) zero lt = (x, refl)
  get-below (x ∷ xs) (suc n) lt = get-below xs n (omega arith)

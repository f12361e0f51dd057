-- Lists of entries: facts of each, and two beginnings of one list.
use Rattle.std.proofs.Common.{◌≡◌, ◌≤◌, List, [], ◌∷◌, ◌++◌, length, refl, sym, ap, arith}
use Rattle.std.specs.Prelude.{All}
use Rattle.std.proofs.lemmas.List.Elements.{All-nil, All-cons, All-head, All-tail, All-append}

module _ {A : Type 0} where
  pub All-push : (P : A → Type 0) (l : List A) (a : A) → P a → All P l → All P (l ++ a ∷ [])
  All-push P l a last before = All-append P l (a ∷ []) before (All-cons P a [] last (All-nil P))

  pub All-front : (P : A → Type 0) (l m : List A) → All P (l ++ m) → All P l
  All-front P [] m h = All-nil P
  All-front P (x ∷ xs) m h = All-cons P x xs (All-head P x (xs ++ m) h) (All-front P xs m (All-tail P x (xs ++ m) h))

  pub All-back : (P : A → Type 0) (l m : List A) → All P (l ++ m) → All P m
  All-back P [] m h = h
  All-back P (x ∷ xs) m h = All-back P xs m (All-tail P x (xs ++ m) h)

  abbrev tail_of : List A → List A
  tail_of [] = []
  tail_of (x ∷ xs) = xs

  abbrev head_or : A → List A → A
  head_or d [] = d
  head_or d (x ∷ xs) = x

  -- of two beginnings of one list the shorter one begins the longer
  pub begins_longer : (xs ys p q : List A) → xs ++ p ≡ ys ++ q → length xs ≤ length ys → (m : List A) × (ys ≡ xs ++ m) × (p ≡ m ++ q)
  begins_longer [] ys p q e le = (ys, refl, e)
  begins_longer (x ∷ xs) [] p q e le = absurd (omega arith)
  begins_longer (x ∷ xs) (y ∷ ys) p q e le =
      let h = begins_longer xs ys p q (ap tail_of e) (omega arith) in (h.0, (λ i. ap (head_or x) (sym e) i ∷ h.1 i), h.2)

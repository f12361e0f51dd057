-- The last element of a list.
use Rattle.std.proofs.Common.{◌≡◌, List, [], ◌∷◌, ◌++◌, length, refl, ap}
use Rattle.std.specs.Prelude.{slice_index_or, slice_set}

module _ {A : Type 0} where
  pub get_last : (front : List A) (a d : A) → slice_index_or (front ++ a ∷ []) (length front) d ≡ a
  get_last [] a d = refl
  get_last (x ∷ xs) a d = get_last xs a d

  pub set_last : (front : List A) (a b : A) → slice_set (front ++ a ∷ []) (length front) b ≡ front ++ b ∷ []
  set_last [] a b = refl
  set_last (x ∷ xs) a b = ap (λ ys. x ∷ ys) (set_last xs a b)

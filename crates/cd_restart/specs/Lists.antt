-- Trusted: the first of some faults.
use Rattle.std.specs.Prelude.{List, [], ◌∷◌, Option, None}
use Rattle.std.specs.Option.{option_or}

-- the fault of the first element that has one
abbrev pub first_of : {A F : Type 0} → (A → Option F) → List A → Option F
first_of fault [] = None
first_of fault (x ∷ xs) = option_or (fault x) (first_of fault xs)

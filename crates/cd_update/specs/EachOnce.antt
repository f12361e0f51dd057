-- Trusted: the items of a list, each once, in the order of their first places, and walks over a graph.
use Rattle.std.specs.Prelude.{ℕ, zero, suc, Bool, if◌then◌else◌, List, [], ◌∷◌, ◌++◌, Option, None}
use Rattle.std.specs.Option.{option_or}
use Rattle.std.specs.List.{list_any, fold, flat_map}

-- an item behind the others, where it isn't among them
abbrev pub with_new : {A : Type 0} → (A → A → Bool) → List A → A → List A
with_new same xs x = if list_any (same x) xs then xs else xs ++ x ∷ []

abbrev pub each_once : {A : Type 0} → (A → A → Bool) → List A → List A
each_once same xs = fold (with_new same) [] xs

-- the first answer
abbrev pub first_of : {A B : Type 0} → (A → Option B) → List A → Option B
first_of ask [] = None
first_of ask (x ∷ xs) = option_or (ask x) (first_of ask xs)

-- an item and all below it in preorder, so many steps down
unfoldable pub walk_within : {A : Type 0} → (A → List A) → ℕ → A → List A
walk_within next zero x = []
walk_within next (suc steps) x = x ∷ flat_map (walk_within next steps) (next x)

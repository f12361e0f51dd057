-- Laws on orders and lists that several crates use.
use Rattle.std.proofs.Common.{◌≡◌, Bool, true, false, List, [], ◌∷◌, ◌++◌, refl, ap}
use Rattle.std.specs.Prelude.{if◌then◌else◌}
use Rattle.std.specs.List.{filter, flat_map}
use Rattle.std.specs.Ordering.{is_eq}
use Rattle.std.specs.declared.cmp.Ordering.{Ordering}
use Rattle.std.specs.declared.cmp.Ordering.TheVariants.{Less, Equal, Greater}

-- a comparison that ties
pub tie : (r : Ordering) → is_eq r ≡ true → r ≡ Equal
tie Less e = cc
tie Equal e = refl
tie Greater e = cc

-- what f makes of the elements that pass, element by element
pub flat_map-filter : {X Y : Type 0} (p : X → Bool) (f : X → List Y) (xs : List X) → flat_map f (filter p xs) ≡ flat_map (λ x. if p x then f x else []) xs
flat_map-filter p f [] = refl
flat_map-filter p f (x ∷ xs) = elim (p x) as (λ b. flat_map f (if b then x ∷ filter p xs else filter p xs) ≡ (if b then f x else []) ++ flat_map (λ x. if p x then f x else []) xs) [
  | true ↦ ap (λ ys. f x ++ ys) (flat_map-filter p f xs)
  | false ↦ flat_map-filter p f xs
]

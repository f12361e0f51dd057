-- Lists that a loop goes through, behind a view.
use Rattle.std.proofs.Common.{◌≡◌, ℕ, ◌<◌, ◌+◌, suc, List, ◌∷◌, map, drop, length, sym, ap, ◌∙◌, drop-cons, arith}
use Rattle.std.specs.List.{slice_index_or}

-- the part of a list from an element on, seen
pub seen_from : {X Y : Type 0} (f : X → Y) (xs : List X) (i : ℕ) (x : X) → i < length xs → x ≡ slice_index_or xs i x
    → map f (drop i xs) ≡ f x ∷ map f (drop (suc i) xs)
seen_from f xs i x lt at = ap (map f) (drop-cons xs i x lt) ∙ ap (λ y. f y ∷ map f (drop (suc i) xs)) (sym at)

pub seen_at : {X Y : Type 0} (f : X → Y) (xs : List X) (i : ℕ) (d : X) → i < length xs
    → map f (drop i xs) ≡ f (slice_index_or xs i d) ∷ map f (drop (i + 1) xs)
seen_at f xs i d lt =
    let next : suc i ≡ i + 1 = omega arith in
    ap (map f) (drop-cons xs i d lt) ∙ ap (λ j. f (slice_index_or xs i d) ∷ map f (drop j xs)) next

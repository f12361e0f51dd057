-- Hashes and depths at the significant levels tell those at all levels, and are found again in their text.
use Rattle.std.proofs.Common.{◌≡◌, ℕ, zero, suc, ◌+◌, ◌*◌, ◌<◌, ◌≤◌, Bool, true, false, not, ◌||◌, eqb, ltb, List, [], ◌∷◌, ◌++◌, length, get_or, take, drop, refl, sym, ap, ◌∙◌, ⊎_elim, subst, arith, add-one}
use Rattle.std.specs.List.{flat_map}
use Rattle.std.proofs.lemmas.Bool.{agree_below_at, or_cases, eqb-true, ltb-true, true≢false}
use Rattle.std.proofs.lemmas.List.{take-append-drop, drop-drop, take_at, drop_at, length-append, drop_all}
use Rattle.cd_cell.specs.Masks.{is_significant, bit_count}
use Rattle.cd_cell.specs.StoredText.{levels_of}
use Rattle.cd_record.specs.RecordReading.{place_at_level}

-- ---- the places of the significant levels

-- the level whose hash stands in the place that level l names
abbrev level_at : ℕ → ℕ → ℕ
level_at mask l = get_or (levels_of mask) (place_at_level mask l) 0

-- a level above 0 that is significant stands in its own place; one that isn't has the place of the level below
abbrev is_placed : ℕ → ℕ → Bool
is_placed l mask = not (is_significant mask (l + 1)) || eqb (level_at mask (l + 1)) (l + 1)

abbrev shares_place : ℕ → ℕ → Bool
shares_place l mask = is_significant mask (l + 1) || eqb (place_at_level mask (l + 1)) (place_at_level mask l)

placed-all : (l mask : ℕ) → l < 3 → mask < 8 → is_placed l mask ≡ true
placed-all zero mask lt small = agree_below_at (is_placed 0) (λ _. true) 8 mask refl small
placed-all (suc zero) mask lt small = agree_below_at (is_placed 1) (λ _. true) 8 mask refl small
placed-all (suc (suc zero)) mask lt small = agree_below_at (is_placed 2) (λ _. true) 8 mask refl small
placed-all (suc (suc (suc l))) mask lt small = absurd (omega arith)

shares-all : (l mask : ℕ) → l < 3 → mask < 8 → shares_place l mask ≡ true
shares-all zero mask lt small = agree_below_at (shares_place 0) (λ _. true) 8 mask refl small
shares-all (suc zero) mask lt small = agree_below_at (shares_place 1) (λ _. true) 8 mask refl small
shares-all (suc (suc zero)) mask lt small = agree_below_at (shares_place 2) (λ _. true) 8 mask refl small
shares-all (suc (suc (suc l))) mask lt small = absurd (omega arith)

level_at-own : (mask l : ℕ) → l < 3 → mask < 8 → is_significant mask (l + 1) ≡ true → level_at mask (l + 1) ≡ l + 1
level_at-own mask l lt small own =
    ⊎_elim (λ h. absurd (true≢false (sym own ∙ not-true _ h))) (eqb-true _ _) (or_cases _ _ (placed-all l mask lt small))
  where
    not-true : (b : Bool) → not b ≡ true → b ≡ false
    not-true true h = absurd (true≢false (sym h))
    not-true false h = refl

pub place_at_level-below : (mask l : ℕ) → l < 3 → mask < 8 → is_significant mask (l + 1) ≡ false → place_at_level mask (l + 1) ≡ place_at_level mask l
place_at_level-below mask l lt small not_own =
    ⊎_elim (λ h. absurd (true≢false (sym h ∙ not_own))) (eqb-true _ _) (or_cases _ _ (shares-all l mask lt small))

pub length-levels_of : (mask : ℕ) → mask < 8 → length (levels_of mask) ≡ bit_count mask + 1
length-levels_of mask small = eqb-true _ _ (agree_below_at (λ m. eqb (length (levels_of m)) (bit_count m + 1)) (λ _. true) 8 mask refl small)

abbrev has_place : ℕ → ℕ → Bool
has_place l mask = ltb (place_at_level mask l) (length (levels_of mask))

pub place_at_level-lt : (mask l : ℕ) → mask < 8 → l ≤ 3 → place_at_level mask l < length (levels_of mask)
place_at_level-lt mask zero small le = ltb-true _ _ (agree_below_at (has_place 0) (λ _. true) 8 mask refl small)
place_at_level-lt mask (suc zero) small le = ltb-true _ _ (agree_below_at (has_place 1) (λ _. true) 8 mask refl small)
place_at_level-lt mask (suc (suc zero)) small le = ltb-true _ _ (agree_below_at (has_place 2) (λ _. true) 8 mask refl small)
place_at_level-lt mask (suc (suc (suc zero))) small le = ltb-true _ _ (agree_below_at (has_place 3) (λ _. true) 8 mask refl small)
place_at_level-lt mask (suc (suc (suc (suc l)))) small le = absurd (omega arith)

first-place : (mask : ℕ) → mask < 8 → place_at_level mask 0 ≡ 0
first-place mask small = eqb-true _ _ (agree_below_at (λ m. eqb (place_at_level m 0) 0) (λ _. true) 8 mask refl small)

-- ---- what is the same at a level that isn't significant

module _ {X : Type 0} (mask : ℕ) (f : ℕ → X) (small : mask < 8) (steady : (l : ℕ) → l < 3 → is_significant mask (l + 1) ≡ false → f (l + 1) ≡ f l) where
  step : (l : ℕ) (own : Bool) → l < 3 → is_significant mask (l + 1) ≡ own → f (level_at mask l) ≡ f l → f (level_at mask (l + 1)) ≡ f (l + 1)
  step l true lt is below = ap f (level_at-own mask l lt small is)
  step l false lt is below = ap (λ p. f (get_or (levels_of mask) p 0)) (place_at_level-below mask l lt small is) ∙ below ∙ sym (steady l lt is)

  pub value-at : (l : ℕ) → l ≤ 3 → f (level_at mask l) ≡ f l
  value-at zero le = ap (λ p. f (get_or (levels_of mask) p 0)) (first-place mask small)
  value-at (suc l) le = subst (λ n. f (level_at mask n) ≡ f n) (add-one l) (step l (is_significant mask (l + 1)) (omega arith) refl (value-at l (omega arith)))

-- ---- pieces of one length

module _ (n : ℕ) (f : ℕ → List ℕ) where
  pub length-pieces : (ls : List ℕ) → ((l : ℕ) → length (f l) ≡ n) → length (flat_map f ls) ≡ n * length ls
  length-pieces [] long = omega arith
  length-pieces (l ∷ ls) long = omega (arith, length-append (f l) (flat_map f ls), long l, length-pieces ls long)

  pub piece-at : (ls : List ℕ) (p : ℕ) → ((l : ℕ) → length (f l) ≡ n) → p < length ls → take n (drop (n * p) (flat_map f ls)) ≡ f (get_or ls p 0)
  piece-at [] p long lt = absurd (omega arith)
  piece-at (l ∷ ls) zero long lt =
      let none : n * 0 ≡ 0 = omega arith in
      rw none (take_at (f l) (flat_map f ls) n (long l))
  piece-at (l ∷ ls) (suc p) long lt =
      let more : n * suc p ≡ n + n * p = omega arith in
      rw (more, ← drop-drop (n * p) n (f l ++ flat_map f ls), drop_at (f l) (flat_map f ls) n (long l)) (piece-at ls p long (omega arith))

-- bytes cut into pieces of one length and joined again
rejoined : ℕ → ℕ → ℕ → List ℕ → List ℕ
rejoined n zero at bytes = []
rejoined n (suc count) at bytes = take n (drop (n * at) bytes) ++ rejoined n count (at + 1) bytes

rejoined-is : (n count at : ℕ) (bytes : List ℕ) → length bytes ≡ n * (at + count) → rejoined n count at bytes ≡ drop (n * at) bytes
unfolding rejoined
rejoined-is n zero at bytes long = sym (drop_all (n * at) bytes (omega arith))
rejoined-is n (suc count) at bytes long =
    let more : n * (at + 1) ≡ n * at + n = omega arith in
    let total : n * (at + suc count) ≡ n * (at + 1 + count) = ap (λ k. n * k) (omega arith) in
    ap (λ rest. take n (drop (n * at) bytes) ++ rest) (rejoined-is n count (at + 1) bytes (long ∙ total) ∙ ap (λ k. drop k bytes) more ∙ sym (drop-drop n (n * at) bytes))
    ∙ take-append-drop n (drop (n * at) bytes)

pieces : (n count : ℕ) (bytes pieced : List ℕ) → pieced ≡ rejoined n count 0 bytes → length bytes ≡ n * count → pieced ≡ bytes
pieces n count bytes pieced is long =
    let none : n * 0 ≡ 0 = omega arith in
    let total : n * count ≡ n * (0 + count) = ap (λ k. n * k) {x = count} {y = 0 + count} (omega arith) in
    is ∙ rejoined-is n count 0 bytes (long ∙ total) ∙ ap (λ k. drop k bytes) none

-- what stands in the places of the significant levels is all of the bytes
pub pieces-of_levels : (n mask : ℕ) (bytes : List ℕ) → mask < 8 → length bytes ≡ n * (bit_count mask + 1) → flat_map (λ l. take n (drop (n * place_at_level mask l) bytes)) (levels_of mask) ≡ bytes
unfolding rejoined
pieces-of_levels n zero bytes small long = pieces n 1 bytes _ refl long
pieces-of_levels n (suc zero) bytes small long = pieces n 2 bytes _ refl long
pieces-of_levels n (suc (suc zero)) bytes small long = pieces n 2 bytes _ refl long
pieces-of_levels n (suc (suc (suc zero))) bytes small long = pieces n 3 bytes _ refl long
pieces-of_levels n (suc (suc (suc (suc zero)))) bytes small long = pieces n 2 bytes _ refl long
pieces-of_levels n (suc (suc (suc (suc (suc zero))))) bytes small long = pieces n 3 bytes _ refl long
pieces-of_levels n (suc (suc (suc (suc (suc (suc zero)))))) bytes small long = pieces n 3 bytes _ refl long
pieces-of_levels n (suc (suc (suc (suc (suc (suc (suc zero))))))) bytes small long = pieces n 4 bytes _ refl long
pieces-of_levels n (suc (suc (suc (suc (suc (suc (suc (suc mask)))))))) bytes small long = absurd (omega arith)

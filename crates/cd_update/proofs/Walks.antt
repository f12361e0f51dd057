-- A walk with a stack that passes over what was visited gives the preorder, each item at its first place.
use Rattle.std.proofs.Common.{◌≡◌, ℕ, zero, suc, ◌+◌, ◌<◌, ◌≤◌, List, [], ◌∷◌, ◌++◌, length, flat_map, fold, Contains, Bool, refl, ap, sym, ◌∙◌, subst, ⊎_elim, append_assoc, le_refl, arith, false}
use Rattle.std.specs.Bool.{Decides}
use Rattle.std.specs.List.{list_any}
use Rattle.std.proofs.lemmas.List.{append-nil, length-append}
use Rattle.std.proofs.lemmas.List.Elements.{Contains-append_cases, Contains-append_left, Contains-append_right, Contains-push_cases}
use Rattle.cd_cell.proofs.Subtrees.{Contains-first, Contains-later, Contains-cases, Contains-nil}
use Rattle.cd_update.specs.EachOnce.{with_new, walk_within}
use Rattle.cd_update.proofs.EachOnceLaws.{fold-append, flat_map-append, flat_map-same, Contains-flat_map, Contains-flat_map_cases, with_new-absent, added-within}

module _ {A : Type 0} (rank : A → ℕ) (bound : ℕ) (next : A → List A) where
  abbrev pub whole : A → List A
  whole a = walk_within next bound a

  -- all that is below items of at least this rank is there
  abbrev pub IsClosed : ℕ → List A → Type 0
  IsClosed k there = (m : A) → Contains there m → k ≤ rank m → (p : A) → Contains (whole m) p → Contains there p

  -- the same when each item of the stack comes to be visited, with all that is above it
  abbrev pub IsSettled : List A → List A → Type 0
  IsSettled there [] = Unit {0}
  IsSettled there (n ∷ stack) = (rank n < bound) × IsClosed (rank n) there × IsSettled (there ++ whole n) stack

  module _ (rises : (a b : A) → rank a < bound → Contains (next a) b → (rank a < rank b) × (rank b < bound)) where
    enough : (steps : ℕ) (a : A) → rank a < bound → bound ≤ steps + rank a → walk_within next steps a ≡ walk_within next (suc steps) a
    unfolding walk_within
    enough zero a low fuel = absurd (omega arith)
    enough (suc steps) a low fuel =
        ap (λ xs. a ∷ xs)
        (flat_map-same (walk_within next steps) (walk_within next (suc steps)) (next a)
        (λ c h. let up = rises a c low h in enough steps c up.1 (omega (arith, up.0))))

    step-at : (n : ℕ) → bound ≡ n → (a : A) → rank a < bound → walk_within next n a ≡ a ∷ flat_map (walk_within next n) (next a)
    unfolding walk_within
    step-at zero e a low = absurd (omega arith)
    step-at (suc n) e a low =
        ap (λ xs. a ∷ xs)
        (flat_map-same (walk_within next n) (walk_within next (suc n)) (next a)
        (λ c h. let up = rises a c low h in enough n c up.1 (omega (arith, up.0))))

    pub whole-step : (a : A) → rank a < bound → whole a ≡ a ∷ flat_map whole (next a)
    whole-step a low = step-at bound refl a low

    pub whole-itself : (a : A) → rank a < bound → Contains (whole a) a
    whole-itself a low = subst (λ xs. Contains xs a) (sym (whole-step a low)) (Contains-first a (flat_map whole (next a)))

    pub whole-next : (a c : A) → rank a < bound → Contains (next a) c → Contains (whole a) c
    whole-next a c low h =
        let up = rises a c low h in
        subst (λ xs. Contains xs c) (sym (whole-step a low)) (Contains-later a (flat_map whole (next a)) c (Contains-flat_map whole (next a) c c h (whole-itself c up.1)))

    -- what is below an item that is below another
    below-at : (k : ℕ) (a m p : A) → bound ≤ k + rank a → rank a < bound → Contains (whole a) m → Contains (whole m) p → Contains (whole a) p
    below-at zero a m p fuel low h k = absurd (omega arith)
    below-at (suc n) a m p fuel low h k =
        ⊎_elim
        (λ same. subst (λ x. Contains (whole x) p) (sym same) k)
        (λ later.
        let found = Contains-flat_map_cases whole (next a) m later in
        let c = found.0 in
        let up = rises a c low found.1 in
        let rest = below-at n c m p (omega (arith, up.0)) up.1 found.2 k in
        subst (λ xs. Contains xs p) (sym (whole-step a low)) (Contains-later a (flat_map whole (next a)) p (Contains-flat_map whole (next a) c p found.1 rest)))
        (Contains-cases a (flat_map whole (next a)) m (subst (λ xs. Contains xs m) (whole-step a low) h))

    pub whole-below : (a m p : A) → rank a < bound → Contains (whole a) m → Contains (whole m) p → Contains (whole a) p
    whole-below a m p low h k = below-at bound a m p (omega arith) low h k

    above-at : (k : ℕ) (a m : A) → bound ≤ k + rank a → rank a < bound → Contains (whole a) m → rank a ≤ rank m
    above-at zero a m fuel low h = absurd (omega arith)
    above-at (suc n) a m fuel low h =
        ⊎_elim
        (λ same. subst (λ x. rank a ≤ rank x) same (le_refl (rank a)))
        (λ later.
        let found = Contains-flat_map_cases whole (next a) m later in
        let up = rises a found.0 low found.1 in
        let rest = above-at n found.0 m (omega (arith, up.0)) up.1 found.2 in
        omega (arith, up.0, rest))
        (Contains-cases a (flat_map whole (next a)) m (subst (λ xs. Contains xs m) (whole-step a low) h))

    -- what is below an item comes behind it
    pub below-behind : (a m : A) → rank a < bound → Contains (flat_map whole (next a)) m → rank a < rank m
    below-behind a m low h =
        let found = Contains-flat_map_cases whole (next a) m h in
        let up = rises a found.0 low found.1 in
        let rest = above-at bound found.0 m (omega arith) up.1 found.2 in
        omega (arith, up.0, rest)

    abbrev Within : List A → List A → Type 0
    Within xs ys = (x : A) → Contains xs x → Contains ys x

    within-more : (xs ys zs : List A) → Within xs ys → Within (xs ++ zs) (ys ++ zs)
    within-more xs ys zs w x h =
        ⊎_elim
        (λ here. Contains-append_left ys zs x (w x here))
        (λ later. Contains-append_right ys zs x later)
        (Contains-append_cases xs zs x h)

    settled-same : (xs ys stack : List A) → Within xs ys → Within ys xs → IsSettled xs stack → IsSettled ys stack
    settled-same xs ys [] to from settled = tt
    settled-same xs ys (n ∷ stack) to from settled = (
      settled.0,
      λ m h up p k. to p (settled.1 m (from m h) up p k),
      settled-same (xs ++ whole n) (ys ++ whole n) stack (within-more xs ys (whole n) to) (within-more ys xs (whole n) from) settled.2,
    )

    pub settled-low : (there stack : List A) → IsSettled there stack → (n : A) → Contains stack n → rank n < bound
    settled-low there [] settled n h = absurd (Contains-nil n h)
    settled-low there (x ∷ stack) settled n h =
        ⊎_elim (λ same. subst (λ y. rank y < bound) same settled.0) (λ later. settled-low (there ++ whole x) stack settled.2 n later) (Contains-cases x stack n h)

    -- an item that was visited has all below it visited
    pub visited-below : (there stack : List A) (n : A) → IsSettled there (n ∷ stack) → Contains there n → Within (whole n) there
    visited-below there stack n settled seen = settled.1 n seen (omega arith)

    pub settled-seen : (there stack : List A) (n : A) → IsSettled there (n ∷ stack) → Contains there n → IsSettled there stack
    settled-seen there stack n settled seen =
        let below = visited-below there stack n settled seen in
        settled-same (there ++ whole n) there stack
        (λ x h. ⊎_elim (λ here. here) (λ later. below x later) (Contains-append_cases there (whole n) x h))
        (λ x h. Contains-append_left there (whole n) x h)
        settled.2

    settled-push : (k : ℕ) (cs there stack : List A) → ((c : A) → Contains cs c → (k < rank c) × (rank c < bound)) → IsClosed (suc k) there → IsSettled (there ++ flat_map whole cs) stack → IsSettled there (cs ++ stack)
    settled-push k [] there stack up closed settled =
        settled-same (there ++ []) there stack (λ x h. subst (λ xs. Contains xs x) (append-nil there) h) (λ x h. subst (λ xs. Contains xs x) (sym (append-nil there)) h) settled
    settled-push k (c ∷ cs) there stack up closed settled =
        let first = up c (Contains-first c cs) in (
          first.1,
          λ m h above p below. closed m h (omega (arith, first.0)) p below,
          settled-push k cs (there ++ whole c) stack (λ d h. up d (Contains-later c cs d h))
              (λ m h above p below.
              ⊎_elim
              (λ here. Contains-append_left there (whole c) p (closed m here above p below))
              (λ later. Contains-append_right there (whole c) p (whole-below c m p first.1 later below))
              (Contains-append_cases there (whole c) m h))
              (subst (λ xs. IsSettled xs stack) (sym (append_assoc there (whole c) (flat_map whole cs))) settled),
        )

    pub settled-new : (there stack : List A) (n : A) → IsSettled there (n ∷ stack) → IsSettled (there ++ n ∷ []) (next n ++ stack)
    settled-new there stack n settled =
        settled-push (rank n) (next n) (there ++ n ∷ []) stack (λ c h. rises n c settled.0 h)
        (λ m h above p below.
        ⊎_elim
        (λ here. Contains-append_left there (n ∷ []) p (settled.1 m here (omega arith) p below))
        (λ same. absurd (omega (arith, ap rank same)))
        (Contains-push_cases there n m h))
        (subst (λ xs. IsSettled xs stack) (ap (λ xs. there ++ xs) (whole-step n settled.0) ∙ sym (append_assoc there (n ∷ []) (flat_map whole (next n)))) settled.2)

    pub settled-start : (n : A) → rank n < bound → IsSettled [] (n ∷ [])
    settled-start n low = (low, λ m h above p below. absurd (Contains-nil m h), tt)

    -- ---- what is left to visit

    module _ (same : A → A → Bool) (tells : (a b : A) → Decides (same a b) (a ≡ b)) where
      pub left-seen : (there stack : List A) (n : A) → IsSettled there (n ∷ stack) → Contains there n → fold (with_new same) there (flat_map whole (n ∷ stack)) ≡ fold (with_new same) there (flat_map whole stack)
      left-seen there stack n settled seen =
          fold-append (with_new same) there (whole n) (flat_map whole stack)
          ∙ ap (λ xs. fold (with_new same) xs (flat_map whole stack)) (added-within same tells there (whole n) (visited-below there stack n settled seen))

      pub left-new : (there stack : List A) (n : A) → rank n < bound → list_any (same n) there ≡ false → fold (with_new same) there (flat_map whole (n ∷ stack)) ≡ fold (with_new same) (there ++ n ∷ []) (flat_map whole (next n ++ stack))
      left-new there stack n low new =
          ap (λ xs. fold (with_new same) there (xs ++ flat_map whole stack)) (whole-step n low)
          ∙ ap (λ xs. fold (with_new same) xs (flat_map whole (next n) ++ flat_map whole stack)) (with_new-absent same tells there n new)
          ∙ ap (fold (with_new same) (there ++ n ∷ [])) (sym (flat_map-append whole (next n) stack))

    -- each step leaves fewer places
    pub fewer-seen : (stack : List A) (n : A) → rank n < bound → length (flat_map whole stack) < length (flat_map whole (n ∷ stack))
    fewer-seen stack n low =
        omega (arith, length-append (whole n) (flat_map whole stack), ap length (whole-step n low))

    pub fewer-new : (stack : List A) (n : A) → rank n < bound → length (flat_map whole (next n ++ stack)) < length (flat_map whole (n ∷ stack))
    fewer-new stack n low =
        omega (arith, length-append (whole n) (flat_map whole stack), ap length (whole-step n low), ap length (flat_map-append whole (next n) stack), length-append (flat_map whole (next n)) (flat_map whole stack))

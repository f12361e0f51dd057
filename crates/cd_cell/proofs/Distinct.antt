-- Laws of sorted lists without ties, over any total order.
use Rattle.std.proofs.Common.{◌≡◌, ℕ, zero, suc, ◌<◌, List, [], ◌∷◌, length, get_or, Contains, AllPairs, Less, Equal, Greater, Ordering, refl, ap, sym, ◌∙◌, subst, inl, inr, ⊎_elim, ◌⊎◌, arith}
use Rattle.std.specs.Ordering.{match_ordering, ordering_reverse}
use Rattle.std.specs.Cmp.{IsTotalOrder}
use Rattle.std.proofs.lemmas.Cmp.{tied_itself, tied_back}
use Rattle.std.proofs.lemmas.Bool.{cases_order}
use Rattle.std.proofs.lemmas.List.Elements.{Contains-get_or}
use Rattle.cd_cell.specs.Export.{with_distinct, sorted_distinct, AreDistinct}
use Rattle.cd_cell.proofs.Subtrees.{Contains-first, Contains-later, Contains-cases, Contains-nil}

module _ {A : Type 0} (cmp : A → A → Ordering) where
  -- each element is before those after it
  abbrev pub Rises : List A → Type 0
  Rises [] = Unit {0}
  Rises (x ∷ xs) = ((y : A) → Contains xs y → cmp x y ≡ Less) × Rises xs

  pub AllPairs-from_rises : (xs : List A) → Rises xs → AllPairs (λ a b. cmp a b ≡ Less) xs
  AllPairs-from_rises [] up i j d below in' = absurd (omega arith)
  AllPairs-from_rises (x ∷ xs) up zero zero d below in' = absurd (omega arith)
  AllPairs-from_rises (x ∷ xs) up zero (suc j) d below in' = up.0 (get_or xs j d) (Contains-get_or xs j d (omega arith))
  AllPairs-from_rises (x ∷ xs) up (suc i) zero d below in' = absurd (omega arith)
  AllPairs-from_rises (x ∷ xs) up (suc i) (suc j) d below in' = AllPairs-from_rises xs up.1 i j d (omega arith) (omega arith)

  pub rises-from_AllPairs : (xs : List A) → AllPairs (λ a b. cmp a b ≡ Less) xs → Rises xs
  rises-from_AllPairs [] up = tt
  rises-from_AllPairs (x ∷ xs) up =
      (λ y in'. subst (λ z. cmp x z ≡ Less) in'.2 (up 0 (suc in'.0) y (omega arith) (omega (arith, in'.1))), rises-from_AllPairs xs (λ i j d below in'. up (suc i) (suc j) d (omega arith) (omega arith)))

  module _ (total : IsTotalOrder cmp) where
    turned : (a b : A) → cmp a b ≡ Greater → cmp b a ≡ Less
    turned a b e = total.antisymm b a ∙ ap ordering_reverse e

    Contains-with_distinct : (x : A) (ys : List A) (z : A) → Contains (with_distinct cmp x ys) z → (x ≡ z) ⊎ Contains ys z
    Contains-with_distinct x [] z h = Contains-cases x [] z h
    Contains-with_distinct x (y ∷ ys) z h = go (cmp x y) (λ later. Contains-with_distinct x ys z later) h
      where
        go : (o : Ordering) → (Contains (with_distinct cmp x ys) z → (x ≡ z) ⊎ Contains ys z) → Contains (match_ordering o (x ∷ y ∷ ys) (y ∷ ys) (y ∷ with_distinct cmp x ys)) z → (x ≡ z) ⊎ Contains (y ∷ ys) z
        go Less later h = Contains-cases x (y ∷ ys) z h
        go Equal later h = inr h
        go Greater later h =
            ⊎_elim
            (λ same. inr (subst (Contains (y ∷ ys)) same (Contains-first y ys)))
            (λ below. ⊎_elim inl (λ old. inr (Contains-later y ys z old)) (later below))
            (Contains-cases y (with_distinct cmp x ys) z h)

    Contains-with_old : (x : A) (ys : List A) (z : A) → Contains ys z → Contains (with_distinct cmp x ys) z
    Contains-with_old x [] z h = absurd (Contains-nil z h)
    Contains-with_old x (y ∷ ys) z h = go (cmp x y) (λ old. Contains-with_old x ys z old)
      where
        go : (o : Ordering) → (Contains ys z → Contains (with_distinct cmp x ys) z) → Contains (match_ordering o (x ∷ y ∷ ys) (y ∷ ys) (y ∷ with_distinct cmp x ys)) z
        go Less later = Contains-later x (y ∷ ys) z h
        go Equal later = h
        go Greater later =
            ⊎_elim
            (λ same. subst (Contains (y ∷ with_distinct cmp x ys)) same (Contains-first y (with_distinct cmp x ys)))
            (λ old. Contains-later y (with_distinct cmp x ys) z (later old))
            (Contains-cases y ys z h)

    -- the new element ties with one of the list
    Contains-with_tie : (x : A) (ys : List A) → (y : A) × Contains (with_distinct cmp x ys) y × (cmp x y ≡ Equal)
    Contains-with_tie x [] = (x, Contains-first x [], tied_itself total x)
    Contains-with_tie x (y ∷ ys) = go (cmp x y) refl (Contains-with_tie x ys)
      where
        go : (o : Ordering) → cmp x y ≡ o → (z : A) × Contains (with_distinct cmp x ys) z × (cmp x z ≡ Equal) → (z : A) × Contains (match_ordering o (x ∷ y ∷ ys) (y ∷ ys) (y ∷ with_distinct cmp x ys)) z × (cmp x z ≡ Equal)
        go Less e later = (x, Contains-first x (y ∷ ys), tied_itself total x)
        go Equal e later = (y, Contains-first y ys, e)
        go Greater e later = (later.0, Contains-later y (with_distinct cmp x ys) later.0 later.1, later.2)

    Rises-with_distinct : (x : A) (ys : List A) → Rises ys → Rises (with_distinct cmp x ys)
    Rises-with_distinct x [] up = (λ y in'. absurd (Contains-nil y in'), tt)
    Rises-with_distinct x (y ∷ ys) up = go (cmp x y) refl (Rises-with_distinct x ys up.1)
      where
        go : (o : Ordering) → cmp x y ≡ o → Rises (with_distinct cmp x ys) → Rises (match_ordering o (x ∷ y ∷ ys) (y ∷ ys) (y ∷ with_distinct cmp x ys))
        go Less e later =
            (λ z in'. ⊎_elim (λ same. subst (λ w. cmp x w ≡ Less) same e) (λ below. total.trans x y z e (up.0 z below)) (Contains-cases y ys z in'), up)
        go Equal e later = up
        go Greater e later =
            (λ z in'. ⊎_elim (λ same. subst (λ w. cmp y w ≡ Less) same (turned x y e)) (λ old. up.0 z old) (Contains-with_distinct x ys z in'), later)

    Rises-sorted_distinct : (xs : List A) → Rises (sorted_distinct cmp xs)
    Rises-sorted_distinct [] = tt
    Rises-sorted_distinct (x ∷ xs) = Rises-with_distinct x (sorted_distinct cmp xs) (Rises-sorted_distinct xs)

    within-sorted_distinct : (xs : List A) (y : A) → Contains (sorted_distinct cmp xs) y → Contains xs y
    within-sorted_distinct [] y h = absurd (Contains-nil y h)
    within-sorted_distinct (x ∷ xs) y h =
        ⊎_elim
        (λ same. subst (Contains (x ∷ xs)) same (Contains-first x xs))
        (λ old. Contains-later x xs y (within-sorted_distinct xs y old))
        (Contains-with_distinct x (sorted_distinct cmp xs) y h)

    whole-sorted_distinct : (xs : List A) (x : A) → Contains xs x → (y : A) × Contains (sorted_distinct cmp xs) y × (cmp x y ≡ Equal)
    whole-sorted_distinct [] x h = absurd (Contains-nil x h)
    whole-sorted_distinct (z ∷ xs) x h =
        ⊎_elim
        (λ same.
        let tie = Contains-with_tie z (sorted_distinct cmp xs) in
        (tie.0, tie.1, subst (λ w. cmp w tie.0 ≡ Equal) same tie.2))
        (λ later.
        let old = whole-sorted_distinct xs x later in
        (old.0, Contains-with_old z (sorted_distinct cmp xs) old.0 old.1, old.2))
        (Contains-cases z xs x h)

    -- the function gives what the relation says
    pub AreDistinct-sorted_distinct : (xs : List A) → AreDistinct cmp xs (sorted_distinct cmp xs)
    AreDistinct-sorted_distinct xs =
        record { ordered = AllPairs-from_rises (sorted_distinct cmp xs) (Rises-sorted_distinct xs); within = within-sorted_distinct xs; whole = whole-sorted_distinct xs }

    -- two lists in strict order with the same elements are one list
    not_before-itself : (x : A) → cmp x x ≡ Less → ⊥
    not_before-itself x e = cc (tied_itself total x, e)

    pub same-rising : (xs ys : List A) → Rises xs → Rises ys → ((z : A) → Contains xs z → Contains ys z) → ((z : A) → Contains ys z → Contains xs z) → xs ≡ ys
    same-rising [] [] up up' into back = refl
    same-rising [] (y ∷ ys) up up' into back = absurd (Contains-nil y (back y (Contains-first y ys)))
    same-rising (x ∷ xs) [] up up' into back = absurd (Contains-nil x (into x (Contains-first x xs)))
    same-rising (x ∷ xs) (y ∷ ys) up up' into back =
        let first : x ≡ y =
        ⊎_elim
        sym
        (λ x_later.
        ⊎_elim
        (λ same. same)
        (λ y_later. absurd (not_before-itself x (total.trans x y x (up.0 y y_later) (up'.0 x x_later))))
        (Contains-cases x xs y (back y (Contains-first y ys))))
        (Contains-cases y ys x (into x (Contains-first x xs)))
        in
        let rest =
        same-rising xs ys up.1 up'.1
        (λ z in'.
        ⊎_elim
        (λ same. absurd (not_before-itself x (subst (λ w. cmp x w ≡ Less) (sym same ∙ sym first) (up.0 z in'))))
        (λ later. later)
        (Contains-cases y ys z (into z (Contains-later x xs z in'))))
        (λ z in'.
        ⊎_elim
        (λ same. absurd (not_before-itself y (subst (λ w. cmp y w ≡ Less) (sym same ∙ first) (up'.0 z in'))))
        (λ later. later)
        (Contains-cases x xs z (back z (Contains-later y ys z in'))))
        in
        cc (first, rest)

    -- where elements that tie are one, a list in strict order has the elements that it is of
    pub Contains-distinct : (xs ys : List A) → ((a b : A) → Contains xs a → Contains xs b → cmp a b ≡ Equal → a ≡ b) → AreDistinct cmp xs ys → (x : A) → Contains xs x → Contains ys x
    Contains-distinct xs ys ties distinct x in' =
        let tie = distinct.whole x in' in
        subst (Contains ys) (sym (ties x tie.0 in' (distinct.within tie.0 tie.1) tie.2)) tie.1

    -- and only one list is so
    pub same-distinct : (xs ys zs : List A) → ((a b : A) → Contains xs a → Contains xs b → cmp a b ≡ Equal → a ≡ b) → AreDistinct cmp xs ys → AreDistinct cmp xs zs → ys ≡ zs
    same-distinct xs ys zs ties distinct distinct' =
        same-rising ys zs (rises-from_AllPairs ys distinct.ordered) (rises-from_AllPairs zs distinct'.ordered)
        (λ z in'. Contains-distinct xs zs ties distinct' z (distinct.within z in'))
        (λ z in'. Contains-distinct xs ys ties distinct z (distinct'.within z in'))

    module _ (xs : List A) (d : A) (up : AllPairs (λ a b. cmp a b ≡ Less) xs) (i j : ℕ) (in-i : i < length xs) (in-j : j < length xs) where
      -- in a list in strict order, what is less stands before
      pub before-rising : cmp (get_or xs i d) (get_or xs j d) ≡ Less → i < j
      before-rising less =
          ⊎_elim
          (λ same. absurd (not_before-itself (get_or xs i d) (subst (λ k. cmp (get_or xs i d) (get_or xs k d) ≡ Less) (sym same) less)))
          (λ apart. ⊎_elim (λ before. before) (λ after. absurd (not_before-itself (get_or xs i d) (total.trans _ _ _ less (up j i d after in-i)))) apart)
          (cases_order i j)

      -- and no two places tie
      pub one_place-rising : cmp (get_or xs i d) (get_or xs j d) ≡ Equal → i ≡ j
      one_place-rising tie =
          ⊎_elim
          (λ same. same)
          (λ apart. ⊎_elim (λ before. absurd (cc (up i j d before in-j, tie))) (λ after. absurd (cc (up j i d after in-i, tied_back total _ _ tie))) apart)
          (cases_order i j)

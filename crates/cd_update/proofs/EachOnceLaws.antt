-- Laws of lists with each item once.
use Rattle.std.proofs.Common.{◌≡◌, ℕ, ◌<◌, List, [], ◌∷◌, ◌++◌, ◌≤◌, length, get_or, flat_map, fold, All, Contains, Bool, true, false, true≢false, Option, Some, None, refl, ap, ap₂, sym, ◌∙◌, subst, inl, inr, ⊎_elim, ◌⊎◌, append_assoc, arith}
use Rattle.std.specs.Prelude.{if◌then◌else◌, ◌||◌}
use Rattle.std.specs.Bool.{Decides}
use Rattle.std.specs.List.{list_any}
use Rattle.std.specs.Option.{option_or}
use Rattle.std.proofs.lemmas.Bool.{cases_lt}
use Rattle.std.proofs.lemmas.List.{append-nil, get_or_append_left, get_or_push, length_push}
use Rattle.std.proofs.lemmas.List.Elements.{All-push, Contains-get_or, Contains-append_cases, Contains-append_left, Contains-append_right, Contains-push, Contains-push_cases}
use Rattle.cd_cell.proofs.Subtrees.{Contains-first, Contains-later, Contains-cases, Contains-nil}
use Rattle.cd_cell.proofs.ListTests.{contains-any, any-contains, true_or_false}
use Rattle.cd_update.specs.EachOnce.{with_new, each_once, first_of}

pub fold-append : {A B : Type 0} (f : B → A → B) (b : B) (xs ys : List A) → fold f b (xs ++ ys) ≡ fold f (fold f b xs) ys
fold-append f b [] ys = refl
fold-append f b (x ∷ xs) ys = fold-append f (f b x) xs ys

pub flat_map-append : {A B : Type 0} (f : A → List B) (xs ys : List A) → flat_map f (xs ++ ys) ≡ flat_map f xs ++ flat_map f ys
flat_map-append f [] ys = refl
flat_map-append f (x ∷ xs) ys = ap (λ zs. f x ++ zs) (flat_map-append f xs ys) ∙ sym (append_assoc (f x) (flat_map f xs) (flat_map f ys))

pub flat_map-same : {A B : Type 0} (f g : A → List B) (xs : List A) → ((x : A) → Contains xs x → f x ≡ g x) → flat_map f xs ≡ flat_map g xs
flat_map-same f g [] same = refl
flat_map-same f g (x ∷ xs) same = ap₂ (λ ys zs. ys ++ zs) (same x (Contains-first x xs)) (flat_map-same f g xs (λ y h. same y (Contains-later x xs y h)))

pub Contains-flat_map : {A B : Type 0} (f : A → List B) (xs : List A) (x : A) (y : B) → Contains xs x → Contains (f x) y → Contains (flat_map f xs) y
Contains-flat_map f [] x y h k = absurd (Contains-nil x h)
Contains-flat_map f (z ∷ xs) x y h k =
    ⊎_elim
    (λ same. Contains-append_left (f z) (flat_map f xs) y (subst (λ w. Contains (f w) y) (sym same) k))
    (λ later. Contains-append_right (f z) (flat_map f xs) y (Contains-flat_map f xs x y later k))
    (Contains-cases z xs x h)

pub Contains-flat_map_cases : {A B : Type 0} (f : A → List B) (xs : List A) (y : B) → Contains (flat_map f xs) y → (x : A) × Contains xs x × Contains (f x) y
Contains-flat_map_cases f [] y h = absurd (Contains-nil y h)
Contains-flat_map_cases f (x ∷ xs) y h =
    ⊎_elim
    (λ here. (x, Contains-first x xs, here))
    (λ later. let found = Contains-flat_map_cases f xs y later in (found.0, Contains-later x xs found.0 found.1, found.2))
    (Contains-append_cases (f x) (flat_map f xs) y h)

module _ {A B : Type 0} (ask : A → Option B) where
  pub or_none : (o : Option B) → option_or o None ≡ o
  or_none None = refl
  or_none (Some x) = refl

  pub or_assoc : (o p q : Option B) → option_or (option_or o p) q ≡ option_or o (option_or p q)
  or_assoc None p q = refl
  or_assoc (Some x) p q = refl

  pub first_of-append : (xs ys : List A) → first_of ask (xs ++ ys) ≡ option_or (first_of ask xs) (first_of ask ys)
  first_of-append [] ys = refl
  first_of-append (x ∷ xs) ys = ap (option_or (ask x)) (first_of-append xs ys) ∙ sym (or_assoc (ask x) (first_of ask xs) (first_of ask ys))

module _ {A : Type 0} (same : A → A → Bool) (tells : (a b : A) → Decides (same a b) (a ≡ b)) where
  pub with_new-there : (xs : List A) (x : A) → Contains xs x → with_new same xs x ≡ xs
  with_new-there xs x h = ap (λ b. if b then xs else xs ++ x ∷ []) (any-contains same tells x xs h)

  pub with_new-absent : (xs : List A) (x : A) → list_any (same x) xs ≡ false → with_new same xs x ≡ xs ++ x ∷ []
  with_new-absent xs x e = ap (λ b. if b then xs else xs ++ x ∷ []) e

  Contains-with_new : (xs : List A) (x y : A) → Contains xs y → Contains (with_new same xs x) y
  Contains-with_new xs x y h = go (list_any (same x) xs)
    where
      go : (b : Bool) → Contains (if b then xs else xs ++ x ∷ []) y
      go true = h
      go false = Contains-append_left xs (x ∷ []) y h

  Contains-with_new_itself : (xs : List A) (x : A) → Contains (with_new same xs x) x
  Contains-with_new_itself xs x = go (list_any (same x) xs) refl
    where
      go : (b : Bool) → list_any (same x) xs ≡ b → Contains (if b then xs else xs ++ x ∷ []) x
      go true e = contains-any same tells x xs e
      go false e = Contains-push xs x

  Contains-with_new_cases : (xs : List A) (x y : A) → Contains (with_new same xs x) y → Contains xs y ⊎ (x ≡ y)
  Contains-with_new_cases xs x y = go (list_any (same x) xs)
    where
      go : (b : Bool) → Contains (if b then xs else xs ++ x ∷ []) y → Contains xs y ⊎ (x ≡ y)
      go true h = inl h
      go false h = Contains-push_cases xs x y h

  apart-same : (x y : A) → (y ≡ x → ⊥) → same y x ≡ false
  apart-same x y differ = ⊎_elim (λ e. absurd (differ ((tells y x).0 e))) (λ e. e) (true_or_false (same y x))

  -- an item that doesn't come again stays in front
  front-step : (x y : A) (acc : List A) (a b : Bool) → a ≡ false → (if a || b then x ∷ acc else (x ∷ acc) ++ y ∷ []) ≡ x ∷ (if b then acc else acc ++ y ∷ [])
  front-step x y acc true b e = absurd (true≢false e)
  front-step x y acc false true e = refl
  front-step x y acc false false e = refl

  front : (x : A) (acc ys : List A) → ((y : A) → Contains ys y → y ≡ x → ⊥) → fold (with_new same) (x ∷ acc) ys ≡ x ∷ fold (with_new same) acc ys
  front x acc [] apart = refl
  front x acc (y ∷ ys) apart =
      ap (λ zs. fold (with_new same) zs ys) (front-step x y acc (same y x) (list_any (same y) acc) (apart-same x y (apart y (Contains-first y ys))))
      ∙ front x (with_new same acc y) ys (λ z h. apart z (Contains-later y ys z h))

  pub each_once-front : (x : A) (xs : List A) → ((y : A) → Contains xs y → y ≡ x → ⊥) → each_once same (x ∷ xs) ≡ x ∷ each_once same xs
  each_once-front x xs apart = front x [] xs apart

  pub Contains-added : (xs ys : List A) (y : A) → Contains xs y → Contains (fold (with_new same) xs ys) y
  Contains-added xs [] y h = h
  Contains-added xs (z ∷ ys) y h = Contains-added (with_new same xs z) ys y (Contains-with_new xs z y h)

  pub Contains-added_new : (xs ys : List A) (y : A) → Contains ys y → Contains (fold (with_new same) xs ys) y
  Contains-added_new xs [] y h = absurd (Contains-nil y h)
  Contains-added_new xs (z ∷ ys) y h =
      ⊎_elim
      (λ here. Contains-added (with_new same xs z) ys y (subst (Contains (with_new same xs z)) here (Contains-with_new_itself xs z)))
      (λ later. Contains-added_new (with_new same xs z) ys y later)
      (Contains-cases z ys y h)

  pub Contains-added_cases : (xs ys : List A) (y : A) → Contains (fold (with_new same) xs ys) y → Contains xs y ⊎ Contains ys y
  Contains-added_cases xs [] y h = inl h
  Contains-added_cases xs (z ∷ ys) y h =
      ⊎_elim
      (λ before.
      ⊎_elim inl (λ here. inr (subst (Contains (z ∷ ys)) here (Contains-first z ys))) (Contains-with_new_cases xs z y before))
      (λ later. inr (Contains-later z ys y later))
      (Contains-added_cases (with_new same xs z) ys y h)

  -- nothing is added that is there
  pub added-within : (xs ys : List A) → ((y : A) → Contains ys y → Contains xs y) → fold (with_new same) xs ys ≡ xs
  added-within xs [] there = refl
  added-within xs (y ∷ ys) there =
      ap (λ zs. fold (with_new same) zs ys) (with_new-there xs y (there y (Contains-first y ys)))
      ∙ added-within xs ys (λ z h. there z (Contains-later y ys z h))

  pub Contains-each_once : (xs : List A) (x : A) → Contains xs x → Contains (each_once same xs) x
  Contains-each_once xs x h = Contains-added_new [] xs x h

  pub Contains-each_once_cases : (xs : List A) (x : A) → Contains (each_once same xs) x → Contains xs x
  Contains-each_once_cases xs x h = ⊎_elim (λ none. absurd (Contains-nil x none)) (λ there. there) (Contains-added_cases [] xs x h)

  -- ---- what is asked of each item, is asked of the first ones alone
  module _ {B : Type 0} (ask : A → Option B) where
    -- an answer of an item that is there changes nothing
    pub first_of-there : (xs : List A) (x : A) → Contains xs x → option_or (first_of ask xs) (ask x) ≡ first_of ask xs
    first_of-there [] x h = absurd (Contains-nil x h)
    first_of-there (y ∷ ys) x h =
        ⊎_elim
        (λ here. ap (λ o. option_or (option_or (ask y) (first_of ask ys)) o) (ap ask (sym here)) ∙ go (ask y) (first_of ask ys))
        (λ later. or_assoc ask (ask y) (first_of ask ys) (ask x) ∙ ap (option_or (ask y)) (first_of-there ys x later))
        (Contains-cases y ys x h)
      where
        go : (o p : Option B) → option_or (option_or o p) o ≡ option_or o p
        go None None = refl
        go None (Some z) = refl
        go (Some z) p = refl

    first_of-with_new : (xs : List A) (x : A) → first_of ask (with_new same xs x) ≡ option_or (first_of ask xs) (ask x)
    first_of-with_new xs x =
        ⊎_elim
        (λ e. ap (first_of ask) (with_new-there xs x (contains-any same tells x xs e)) ∙ sym (first_of-there xs x (contains-any same tells x xs e)))
        (λ e. ap (first_of ask) (with_new-absent xs x e) ∙ first_of-append ask xs (x ∷ []) ∙ ap (option_or (first_of ask xs)) (or_none ask (ask x)))
        (true_or_false (list_any (same x) xs))

    first_of-added : (xs ys : List A) → first_of ask (fold (with_new same) xs ys) ≡ option_or (first_of ask xs) (first_of ask ys)
    first_of-added xs [] = sym (or_none ask (first_of ask xs))
    first_of-added xs (y ∷ ys) =
        first_of-added (with_new same xs y) ys
        ∙ ap (λ o. option_or o (first_of ask ys)) (first_of-with_new xs y)
        ∙ or_assoc ask (first_of ask xs) (ask y) (first_of ask ys)

    pub first_of-each_once : (xs : List A) → first_of ask (each_once same xs) ≡ first_of ask xs
    first_of-each_once xs = first_of-added [] xs

-- ---- lists made of each item, and of each first one alone
module _ {A B : Type 0} (same : A → A → Bool) (tells : (a b : A) → Decides (same a b) (a ≡ b)) (like : B → B → Bool) (tell : (a b : B) → Decides (like a b) (a ≡ b)) (f : A → List B) where
  one_more : (xs : List A) (y : A) (b : Bool) → list_any (same y) xs ≡ b → fold (with_new like) (each_once like (flat_map f xs)) (f y) ≡ each_once like (flat_map f (if b then xs else xs ++ y ∷ []))
  one_more xs y true e =
      added-within like tell (each_once like (flat_map f xs)) (f y)
      (λ z h. Contains-each_once like tell (flat_map f xs) z (Contains-flat_map f xs y z (contains-any same tells y xs e) h))
  one_more xs y false e =
      sym
      (ap (each_once like) (flat_map-append f xs (y ∷ []) ∙ ap (λ zs. flat_map f xs ++ zs) (append-nil (f y)))
      ∙ fold-append (with_new like) [] (flat_map f xs) (f y))

  each_once-added : (xs ys : List A) → fold (with_new like) (each_once like (flat_map f xs)) (flat_map f ys) ≡ each_once like (flat_map f (fold (with_new same) xs ys))
  each_once-added xs [] = refl
  each_once-added xs (y ∷ ys) =
      fold-append (with_new like) (each_once like (flat_map f xs)) (f y) (flat_map f ys)
      ∙ ap (λ zs. fold (with_new like) zs (flat_map f ys)) (one_more xs y (list_any (same y) xs) refl)
      ∙ each_once-added (with_new same xs y) ys

  pub each_once-flat_map : (xs : List A) → each_once like (flat_map f (each_once same xs)) ≡ each_once like (flat_map f xs)
  each_once-flat_map xs = sym (each_once-added [] xs)

-- ---- what was added stays in its place, and no item stands in two places

pub All-with_new : {A : Type 0} (P : A → Type 0) (same : A → A → Bool) (xs : List A) (x : A) → All P xs → P x → All P (with_new same xs x)
All-with_new P same xs x all here = go (list_any (same x) xs)
  where
    go : (b : Bool) → All P (if b then xs else xs ++ x ∷ [])
    go true = all
    go false = All-push P xs x all here

abbrev pub IsOnce : {A : Type 0} → List A → Type 0
IsOnce {A} xs = (i j : ℕ) (d : A) → i < length xs → j < length xs → get_or xs i d ≡ get_or xs j d → i ≡ j

module _ {A : Type 0} (same : A → A → Bool) (tells : (a b : A) → Decides (same a b) (a ≡ b)) where
  extends-by : (xs : List A) (x : A) (b : Bool) → (zs : List A) × ((if b then xs else xs ++ x ∷ []) ≡ xs ++ zs)
  extends-by xs x true = ([], sym (append-nil xs))
  extends-by xs x false = (x ∷ [], refl)

  pub added-extends : (xs ys : List A) → (zs : List A) × (fold (with_new same) xs ys ≡ xs ++ zs)
  added-extends xs [] = ([], sym (append-nil xs))
  added-extends xs (y ∷ ys) =
      let one = extends-by xs y (list_any (same y) xs) in
      let more = added-extends (with_new same xs y) ys in
      (one.0 ++ more.0, more.1 ∙ ap (λ us. us ++ more.0) one.1 ∙ append_assoc xs one.0 more.0)

  once-push : (xs : List A) (x : A) → IsOnce xs → list_any (same x) xs ≡ false → IsOnce (xs ++ x ∷ [])
  once-push xs x once none i j d in-i in-j e =
      let last : (k : ℕ) → k < length xs → get_or xs k d ≡ x → ⊥ =
      λ k h at. true≢false (sym (any-contains same tells x xs (subst (Contains xs) at (Contains-get_or xs k d h))) ∙ none)
      in
      let before : (k : ℕ) → k < length xs → get_or (xs ++ x ∷ []) k d ≡ get_or xs k d = λ k h. get_or_append_left xs (x ∷ []) d k h in
      let end : (k : ℕ) → k < length (xs ++ x ∷ []) → length xs ≤ k → (k ≡ length xs) × (get_or (xs ++ x ∷ []) k d ≡ x) =
      λ k h past. let same_place : k ≡ length xs = omega (arith, length_push xs x) in (same_place, get_or_push xs x d k (sym same_place))
      in
      ⊎_elim
      (λ here-i.
      ⊎_elim
      (λ here-j. once i j d here-i here-j (sym (before i here-i) ∙ e ∙ before j here-j))
      (λ past-j. absurd (last i here-i (sym (before i here-i) ∙ e ∙ (end j in-j past-j).1)))
      (cases_lt j (length xs)))
      (λ past-i.
      ⊎_elim
      (λ here-j. absurd (last j here-j (sym (before j here-j) ∙ sym e ∙ (end i in-i past-i).1)))
      (λ past-j. (end i in-i past-i).0 ∙ sym (end j in-j past-j).0)
      (cases_lt j (length xs)))
      (cases_lt i (length xs))

  once-with_new : (xs : List A) (x : A) → IsOnce xs → IsOnce (with_new same xs x)
  once-with_new xs x once = go (list_any (same x) xs) refl
    where
      go : (b : Bool) → list_any (same x) xs ≡ b → IsOnce (if b then xs else xs ++ x ∷ [])
      go true e = once
      go false e = once-push xs x once e

  once-added : (xs ys : List A) → IsOnce xs → IsOnce (fold (with_new same) xs ys)
  once-added xs [] once = once
  once-added xs (y ∷ ys) once = once-added (with_new same xs y) ys (once-with_new xs y once)

  pub IsOnce-each_once : (xs : List A) → IsOnce (each_once same xs)
  IsOnce-each_once xs = once-added [] xs (λ i j d in-i in-j e. absurd (omega (arith, in-i)))

-- What parts leave of the clients, one part more.
use Rattle.std.proofs.Common.{◌≡◌, ◌⊎◌, inl, inr, ⊎_elim, ℕ, zero, suc, ◌+◌, ◌<◌, ◌≤◌, List, [], ◌∷◌, ◌++◌, length, take, drop, get_or, slice_get, All, Option, Some, refl, sym, ap, subst, ◌∙◌, arith}
use Rattle.std.specs.Prelude.{sum_by}
use Rattle.std.proofs.lemmas.List.{take_more, drop_more, take-append-drop, length-take}
use Rattle.std.proofs.lemmas.List.Elements.{All-nil, All-push}
use Rattle.std.proofs.lemmas.List.Sums.{sum_by-append}
use Rattle.std.proofs.lemmas.Option.{none-some, same_Some, slice_get_within}
use Rattle.cd_fan.specs.Fans.{HaveGotBytes}
use Rattle.cd_lanes.specs.Left.{IsOneOf, LeftByOne}

-- ---- places

pub get_before : {A : Type 0} (xs ys : List A) (i : ℕ) → i < length xs → slice_get (xs ++ ys) i ≡ slice_get xs i
get_before [] ys i lt = absurd (omega arith)
get_before (x ∷ xs) ys zero lt = refl
get_before (x ∷ xs) ys (suc i) lt = get_before xs ys i (omega arith)

pub get_last : {A : Type 0} (xs : List A) (x : A) (ys : List A) → slice_get (xs ++ x ∷ ys) (length xs) ≡ Some x
get_last [] x ys = refl
get_last (y ∷ xs) x ys = get_last xs x ys

pub sum_with : {X : Type 0} (f : X → ℕ) (xs : List X) (x : X) (later : List X) → sum_by f (xs ++ x ∷ later) ≡ sum_by f xs + (f x + sum_by f later)
sum_with f xs x later = omega (arith, sum_by-append f xs (x ∷ later), sum_by-append f (x ∷ []) later)

-- a sum is no less than any of its parts
pub sum_above : {X : Type 0} (f : X → ℕ) (xs : List X) (place : ℕ) (x : X) → slice_get xs place ≡ Some x → f x ≤ sum_by f xs
sum_above f [] place x at = absurd (none-some x at)
sum_above f (y ∷ xs) zero x at = subst (λ z. f z ≤ sum_by f (y ∷ xs)) (same_Some y x at) (omega (arith, sum_by-append f (y ∷ []) xs))
sum_above f (y ∷ xs) (suc place) x at = omega (arith, sum_by-append f (y ∷ []) xs, sum_above f xs place x at)

-- what the parts ended with, and one more
pub record EndsOneMore {E : Type 0} (count : ℕ) (ends all : List E) (end : E) : Type 0 where
  pub before : (place : ℕ) (e : E) → place < count → slice_get all place ≡ Some e → slice_get ends place ≡ Some e
  pub here : (e : E) → slice_get all count ≡ Some e → e ≡ end
  pub which : (all ≡ []) ⊎ (all ≡ ends ++ end ∷ [])

pub one_more_end : {E : Type 0} (count : ℕ) (ends all : List E) (end : E) → length ends ≡ count → all ≡ ends ++ end ∷ [] → EndsOneMore count ends all end
one_more_end count ends all end beside is = record {
  before = λ place e lt at. sym (get_before ends (end ∷ []) place (omega arith)) ∙ ap (λ l. slice_get l place) (sym is) ∙ at;
  here = λ e at. sym (same_Some end e (sym (get_last ends end []) ∙ (ap (slice_get (ends ++ end ∷ [])) beside ∙ ap (λ l. slice_get l count) (sym is) ∙ at)));
  which = inr is;
}

pub no_end : {E : Type 0} (count : ℕ) (ends : List E) (end : E) → EndsOneMore count ends [] end
no_end count ends end = record { before = λ place e lt at. absurd (none-some e at); here = λ e at. absurd (none-some e at); which = inl refl }

-- what is so of each of them, and of one more
pub each_more : {E : Type 0} (P : E → Type 0) (ends all : List E) (end : E) → (all ≡ []) ⊎ (all ≡ ends ++ end ∷ []) → All P ends → P end → All P all
each_more P ends all end which each its = ⊎_elim (λ (none : all ≡ []). subst (All P) (sym none) (All-nil P))
    (λ (is : all ≡ ends ++ end ∷ []). subst (All P) (sym is) (All-push P ends end each its)) which

module _ {X E C : Type 0} (f : X → ℕ) (Is Then : ℕ → X → E → List C → List C → Type 0) (parts : List X) (part : X) (later : List X) (old mid new : List C)
    (one : sum_by f (parts ++ part ∷ later) ≤ 1) (untouched : sum_by f parts ≡ 0 → mid ≡ old) where
  pub one_here : f part ≤ 1
  one_here = omega (arith, sum_with f parts part later, one)

  pub fresh_here : (got : C → Option (List ℕ)) → (1 ≤ sum_by f (parts ++ part ∷ later) → HaveGotBytes got 0 old) → 1 ≤ f part → HaveGotBytes got 0 mid
  fresh_here got fresh some = subst (HaveGotBytes got 0) (sym (untouched (omega (arith, sum_with f parts part later, one, some)))) (fresh (omega (arith, sum_with f parts part later, some)))

  pub untouched_here : (f part ≡ 0 → new ≡ mid) → sum_by f (parts ++ part ∷ later) ≡ 0 → new ≡ old
  untouched_here still none = still (omega (arith, sum_with f parts part later, none)) ∙ untouched (omega (arith, sum_with f parts part later, none))

  -- nothing is left where there is none (`barren`)
  module _ (Idle : E → Type 0) (grow : (k : ℕ) (x : X) (e : E) (o n : List C) → Is k x e o n → Then k x e o n) (barren : (k : ℕ) (e : E) (o n : List C) → f part ≡ 0 → Then k part e o n → ⊥)
      (ends all : List E) (end : E) (left : LeftByOne Idle Is parts ends old mid) (its : ((new ≡ mid) × Idle end) ⊎ Then (length parts) part end mid new) (more : EndsOneMore (length parts) ends all end) where
    kept : new ≡ mid → Idle end → LeftByOne Idle Then (parts ++ part ∷ later) all old new
    kept same none = ⊎_elim (λ (is : (mid ≡ old) × All Idle ends). inl (same ∙ is.0, each_more Idle ends all end more.which is.1 none))
        (λ (s : IsOneOf Is parts ends old mid).
        let lt = slice_get_within parts s.place s.part s.at in
        inr (record {
          place = s.place;
          part = s.part;
          at = get_before parts (part ∷ later) s.place lt ∙ s.at;
          end = s.end;
          ended = λ e at. s.ended e (more.before s.place e lt at);
          is = subst (λ (cs : List C). Then s.place s.part s.end old cs) (sym same) (grow s.place s.part s.end old mid s.is);
        })) left

    came : (n : ℕ) → f part ≡ n → Then (length parts) part end mid new → LeftByOne Idle Then (parts ++ part ∷ later) all old new
    came zero none s = absurd (barren (length parts) end mid new none s)
    came (suc n) some s = inr (record {
      place = length parts;
      part = part;
      at = get_last parts part later;
      end = end;
      ended = more.here;
      is = subst (λ (cs : List C). Then (length parts) part end cs new) (untouched (omega (arith, sum_with f parts part later, one, some))) s;
    })

    pub left_here : LeftByOne Idle Then (parts ++ part ∷ later) all old new
    left_here = ⊎_elim (λ (still : (new ≡ mid) × Idle end). kept still.0 still.1)
        (λ (s : Then (length parts) part end mid new). came (f part) refl s) its

-- ---- by the number of the part

module _ {X : Type 0} (parts : List X) (n : ℕ) (lt : n < length parts) (part : X) (is : part ≡ get_or parts n part) where
  pub so_far : take n parts ++ part ∷ [] ≡ take (n + 1) parts
  so_far = sym (take_more parts n part lt ∙ ap (λ x. take n parts ++ x ∷ []) (sym is))

  pub all_of : take n parts ++ part ∷ drop (n + 1) parts ≡ parts
  all_of = ap (λ l. take n parts ++ l) (sym (drop_more parts n part lt ∙ ap (λ x. x ∷ drop (n + 1) parts) (sym is))) ∙ take-append-drop n parts

  pub its_place : length (take n parts) ≡ n
  its_place = omega (arith, length-take n parts)

  module _ {E C : Type 0} (f : X → ℕ) (Is Then : ℕ → X → E → List C → List C → Type 0) (old mid : List C) (one : sum_by f parts ≤ 1) (untouched : sum_by f (take n parts) ≡ 0 → mid ≡ old) where
    one_all : sum_by f (take n parts ++ part ∷ drop (n + 1) parts) ≤ 1
    one_all = subst (λ l. sum_by f l ≤ 1) (sym all_of) one

    one_so_far : sum_by f (take n parts ++ part ∷ []) ≤ 1
    one_so_far = omega (arith, sum_with f (take n parts) part [], sum_with f (take n parts) part (drop (n + 1) parts), one_all)

    pub one_at : f part ≤ 1
    one_at = one_here f Is Then (take n parts) part (drop (n + 1) parts) old mid mid one_all untouched

    pub fresh_at : (got : C → Option (List ℕ)) → (1 ≤ sum_by f parts → HaveGotBytes got 0 old) → 1 ≤ f part → HaveGotBytes got 0 mid
    fresh_at got fresh some = fresh_here f Is Then (take n parts) part (drop (n + 1) parts) old mid mid one_all untouched got (λ le. fresh (subst (λ l. 1 ≤ sum_by f l) all_of le)) some

    module _ (new : List C) (still : f part ≡ 0 → new ≡ mid) where
      pub untouched_next : sum_by f (take (n + 1) parts) ≡ 0 → new ≡ old
      untouched_next none = untouched_here f Is Then (take n parts) part [] old mid new one_so_far untouched still (ap (sum_by f) so_far ∙ none)

      pub untouched_end : sum_by f parts ≡ 0 → new ≡ old
      untouched_end none = untouched_here f Is Then (take n parts) part (drop (n + 1) parts) old mid new one_all untouched still (ap (sum_by f) all_of ∙ none)

    module _ (new : List C) (Idle : E → Type 0) (grow : (k : ℕ) (x : X) (e : E) (o m : List C) → Is k x e o m → Then k x e o m) (barren : (k : ℕ) (e : E) (o m : List C) → f part ≡ 0 → Then k part e o m → ⊥)
        (ends all : List E) (end : E) (left : LeftByOne Idle Is (take n parts) ends old mid) (its : ((new ≡ mid) × Idle end) ⊎ Then n part end mid new) (more : EndsOneMore n ends all end) where
      its_here : ((new ≡ mid) × Idle end) ⊎ Then (length (take n parts)) part end mid new
      its_here = subst (λ k. ((new ≡ mid) × Idle end) ⊎ Then k part end mid new) (sym its_place) its

      more_here : EndsOneMore (length (take n parts)) ends all end
      more_here = subst (λ k. EndsOneMore k ends all end) (sym its_place) more

      pub left_next : LeftByOne Idle Then (take (n + 1) parts) all old new
      left_next = subst (λ l. LeftByOne Idle Then l all old new) so_far
          (left_here f Is Then (take n parts) part [] old mid new one_so_far untouched Idle grow barren ends all end left its_here more_here)

      pub left_end : LeftByOne Idle Then parts all old new
      left_end = subst (λ l. LeftByOne Idle Then l all old new) all_of
          (left_here f Is Then (take n parts) part (drop (n + 1) parts) old mid new one_all untouched Idle grow barren ends all end left its_here more_here)

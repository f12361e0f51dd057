-- Going over a table: the entry that is met next is the first of those that are left.
use Rattle.std.proofs.Common.{◌≡◌, ℕ, Bool, true, false, cond, List, [], ◌∷◌, filter, Option, Some, None, Contains, Less, refl, sym, ap, ◌∙◌, subst}
use Rattle.std.specs.Prelude.{find}
use Rattle.std.specs.Ordering.{is_lt}
use Rattle.std.specs.Cmp.Lexicographic.{nat_list_cmp_total}
use Rattle.std.specs.FinMap as finite
use Rattle.std.proofs.lemmas.Option.{none-some, same_Some}
use Rattle.cd_cell.proofs.Subtrees.{Contains-first, Contains-later}
use Rattle.cd_keeper.specs.Contents.{Table, is_above, next_entry}
use Rattle.cd_world.specs.Walks.{above}
use Rattle.cd_world.proofs.Tables.{byte_cmp, AreInOrder, table-in_order, less_of, is_less, not_before_itself, one_way}

abbrev Entry : Type 0
Entry = List ℕ × List ℕ

filter-each : {A : Type 0} (p : A → Bool) (xs : List A) → ((x : A) → Contains xs x → p x ≡ true) → filter p xs ≡ xs
filter-each p [] each = refl
filter-each p (x ∷ xs) each =
    ap (λ b. cond b (x ∷ filter p xs) (filter p xs)) (each x (Contains-first x xs))
    ∙ ap (λ ys. x ∷ ys) (filter-each p xs (λ y h. each y (Contains-later x xs y h)))

found-in : {A : Type 0} (p : A → Bool) (xs : List A) (x : A) → find p xs ≡ Some x → Contains xs x
found-in p [] x e = absurd (none-some x e)
found-in p (y ∷ xs) x e = by (p y) e (found-in p xs x)
  where
    by : (b : Bool) → cond b (Some y) (find p xs) ≡ Some x → (find p xs ≡ Some x → Contains xs x) → Contains (y ∷ xs) x
    by true is rest = subst (Contains (y ∷ xs)) (same_Some y x is) (Contains-first y xs)
    by false is rest = Contains-later y xs x (rest is)

above-later : (after : Option (List ℕ)) (a b : List ℕ) → is_above after a ≡ true → byte_cmp a b ≡ Less → is_above after b ≡ true
above-later None a b e less = refl
above-later (Some k) a b e less = is_less (byte_cmp k b) (nat_list_cmp_total.trans k a b (less_of (byte_cmp k a) e) less)

not_above : (a b : List ℕ) → (byte_cmp a b ≡ Less → ⊥) → is_above (Some a) b ≡ false
not_above a b never = by (is_lt (byte_cmp a b)) refl
  where
    by : (x : Bool) → is_lt (byte_cmp a b) ≡ x → x ≡ false
    by true e = absurd (never (less_of (byte_cmp a b) e))
    by false e = refl

step : (es : List Entry) → AreInOrder es → (after : Option (List ℕ)) (e : Entry) → find (λ (x : Entry). is_above after x.0) es ≡ Some e → above after es ≡ e ∷ above (Some e.0) es
step [] up after e is = absurd (none-some e is)
step (x ∷ es) up after e is = by (is_above after x.0) refl is (step es up.1 after e)
  where
    by : (b : Bool) → is_above after x.0 ≡ b → cond b (Some x) (find (λ (y : Entry). is_above after y.0) es) ≡ Some e
        → (find (λ (y : Entry). is_above after y.0) es ≡ Some e → above after es ≡ e ∷ above (Some e.0) es)
        → cond b (x ∷ above after es) (above after es) ≡ e ∷ cond (is_above (Some e.0) x.0) (x ∷ above (Some e.0) es) (above (Some e.0) es)
    by true at found rest =
        let same : x ≡ e = same_Some x e found in
        let here : x ∷ above after es ≡ x ∷ cond (is_above (Some x.0) x.0) (x ∷ above (Some x.0) es) (above (Some x.0) es) =
        ap (λ ys. x ∷ ys)
        (filter-each (λ (y : Entry). is_above after y.0) es (λ y h. above-later after x.0 y.0 at (up.0 y h))
        ∙ sym (filter-each (λ (y : Entry). is_above (Some x.0) y.0) es (λ y h. is_less (byte_cmp x.0 y.0) (up.0 y h)))
        ∙ sym (ap (λ b. cond b (x ∷ above (Some x.0) es) (above (Some x.0) es)) (not_above x.0 x.0 (not_before_itself x.0)))) in
        subst (λ (y : Entry). x ∷ above after es ≡ y ∷ cond (is_above (Some y.0) x.0) (x ∷ above (Some y.0) es) (above (Some y.0) es)) same here
    by false at found rest =
        let before = up.0 e (found-in (λ (y : Entry). is_above after y.0) es e found) in
        rest found
        ∙ ap (λ ys. e ∷ ys) (sym (ap (λ b. cond b (x ∷ above (Some e.0) es) (above (Some e.0) es)) (not_above e.0 x.0 (one_way x.0 e.0 before))))

ended : (es : List Entry) (after : Option (List ℕ)) → find (λ (x : Entry). is_above after x.0) es ≡ None → above after es ≡ []
ended [] after is = refl
ended (x ∷ es) after is = by (is_above after x.0) is (ended es after)
  where
    by : (b : Bool) → cond b (Some x) (find (λ (y : Entry). is_above after y.0) es) ≡ None → (find (λ (y : Entry). is_above after y.0) es ≡ None → above after es ≡ []) → cond b (x ∷ above after es) (above after es) ≡ []
    by true found rest = absurd (none-some x (sym found))
    by false found rest = rest found

pub next-some : (m : Table) (after : Option (List ℕ)) (e : Entry) → next_entry m after ≡ Some e → above after (finite.entries m) ≡ e ∷ above (Some e.0) (finite.entries m)
next-some m after e is = step (finite.entries m) (table-in_order m) after e is

pub next-none : (m : Table) (after : Option (List ℕ)) → next_entry m after ≡ None → above after (finite.entries m) ≡ []
next-none m after is = ended (finite.entries m) after is

-- at the start all are left
pub above-all : (es : List Entry) → above None es ≡ es
above-all [] = refl
above-all (e ∷ es) = ap (λ ys. e ∷ ys) (above-all es)

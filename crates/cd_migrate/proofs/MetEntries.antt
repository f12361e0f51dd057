-- The entries of a table that were met, and those that are left.
use Rattle.std.proofs.Common.{◌≡◌, ℕ, Bool, true, false, not, cond, List, [], ◌∷◌, ◌++◌, Option, Some, None, Contains, Less, Equal, Greater, Ordering, refl, sym, ap, ◌∙◌, subst, append_assoc, ⊎_elim}
use Rattle.std.specs.Ordering.{is_lt}
use Rattle.std.specs.Cmp.Lexicographic.{nat_list_cmp_total}
use Rattle.std.specs.FinMap as finite
use Rattle.std.specs.FinMap.{entries-insert, slice_cmp-IsAntisymmetric, nat_cmp-IsAntisymmetric}
use Rattle.std.specs.FinMap.Entries.{put, by_order}
use Rattle.std.proofs.lemmas.Bool.{true≢false}
use Rattle.std.proofs.lemmas.List.{append_cancel_right, append-nil}
use Rattle.std.proofs.lemmas.List.Elements.{All-contains, filter_passes}
use Rattle.cd_cell.proofs.Subtrees.{Contains-first, Contains-later, Contains-cases}
use Rattle.cd_keeper.specs.Contents.{Table, is_above, put_all}
use Rattle.cd_world.specs.Walks.{above}
use Rattle.cd_world.proofs.Tables.{byte_cmp, AreInOrder, less_of, is_less}
use Rattle.cd_migrate.specs.Rewritten.{Entry}
use Rattle.cd_migrate.specs.Walking.{upto}

-- ---- tests of keys

-- what is no greater than a key that another is above, isn't above the other
pub not_above : (after : Option (List ℕ)) (k h : List ℕ) → is_above after k ≡ false → is_above after h ≡ true → is_above (Some h) k ≡ false
not_above None k h low high = absurd (true≢false low)
not_above (Some a) k h low high = by (is_lt (byte_cmp h k)) refl
  where
    by : (b : Bool) → is_lt (byte_cmp h k) ≡ b → b ≡ false
    by true e = absurd (true≢false (sym (is_less (byte_cmp a k) (nat_list_cmp_total.trans a h k (less_of (byte_cmp a h) high) (less_of (byte_cmp h k) e))) ∙ low))
    by false e = refl

above_later : (after : Option (List ℕ)) (a b : List ℕ) → is_above after a ≡ true → byte_cmp a b ≡ Less → is_above after b ≡ true
above_later None a b e less = refl
above_later (Some k) a b e less = is_less (byte_cmp k b) (nat_list_cmp_total.trans k a b (less_of (byte_cmp k a) e) less)

-- ---- lists in order

none_met : (after : Option (List ℕ)) (es : List Entry) → ((e : Entry) → Contains es e → is_above after e.0 ≡ true) → upto after es ++ above after es ≡ es
none_met after [] each = refl
none_met after (e ∷ es) each =
    ap (λ b. cond (not b) (e ∷ upto after es) (upto after es) ++ cond b (e ∷ above after es) (above after es)) (each e (Contains-first e es))
    ∙ none_first (upto after es) (above after es) (none after es (λ x h. each x (Contains-later e es x h))) (none_met after es (λ x h. each x (Contains-later e es x h)))
  where
    none : (after' : Option (List ℕ)) (xs : List Entry) → ((x : Entry) → Contains xs x → is_above after' x.0 ≡ true) → upto after' xs ≡ []
    none after' [] all = refl
    none after' (x ∷ xs) all = ap (λ b. cond (not b) (x ∷ upto after' xs) (upto after' xs)) (all x (Contains-first x xs)) ∙ none after' xs (λ y h. all y (Contains-later x xs y h))

    none_first : (us vs : List Entry) → us ≡ [] → us ++ vs ≡ es → us ++ e ∷ vs ≡ e ∷ es
    none_first us vs nil is = ap (λ xs. xs ++ e ∷ vs) nil ∙ ap (λ xs. e ∷ xs) (sym (ap (λ xs. xs ++ vs) nil) ∙ is)

-- the entries that were met, and those that are left, are all
pub met-left : (after : Option (List ℕ)) (es : List Entry) → AreInOrder es → upto after es ++ above after es ≡ es
met-left after [] up = refl
met-left after (e ∷ es) up = by (is_above after e.0) refl (met-left after es up.1)
  where
    by : (b : Bool) → is_above after e.0 ≡ b → upto after es ++ above after es ≡ es
        → cond (not b) (e ∷ upto after es) (upto after es) ++ cond b (e ∷ above after es) (above after es) ≡ e ∷ es
    by true at rest =
        sym (ap (λ b. cond (not b) (e ∷ upto after es) (upto after es) ++ cond b (e ∷ above after es) (above after es)) at)
        ∙ none_met after (e ∷ es)
        (λ x h. ⊎_elim (λ same. subst (λ (y : Entry). is_above after y.0 ≡ true) same at) (λ later. above_later after e.0 x.0 at (up.0 x later)) (Contains-cases e es x h))
    by false at rest = ap (λ xs. e ∷ xs) rest

pub met-none : (es : List Entry) → upto None es ≡ []
met-none [] = refl
met-none (e ∷ es) = met-none es

-- one entry more is met
pub met-more : (after : Option (List ℕ)) (es : List Entry) (e : Entry) → AreInOrder es → above after es ≡ e ∷ above (Some e.0) es → upto (Some e.0) es ≡ upto after es ++ e ∷ []
met-more after es e up next =
    append_cancel_right (upto (Some e.0) es) (upto after es ++ e ∷ []) (above (Some e.0) es)
    (met-left (Some e.0) es up ∙ sym (append_assoc (upto after es) (e ∷ []) (above (Some e.0) es) ∙ ap (λ xs. upto after es ++ xs) (sym next) ∙ met-left after es up))

-- all are met
pub met-all : (after : Option (List ℕ)) (es : List Entry) → AreInOrder es → above after es ≡ [] → upto after es ≡ es
met-all after es up none = sym (append-nil (upto after es)) ∙ ap (λ xs. upto after es ++ xs) (sym none) ∙ met-left after es up

-- what was met isn't above
pub met-low : (after : Option (List ℕ)) (es : List Entry) (e : Entry) → Contains (upto after es) e → is_above after e.0 ≡ false
met-low after es e h = passed (is_above after e.0) (All-contains (λ (x : Entry). not (is_above after x.0) ≡ true) (upto after es) e (filter_passes (λ (x : Entry). not (is_above after x.0)) es) h)
  where
    passed : (b : Bool) → not b ≡ true → b ≡ false
    passed true e' = absurd (true≢false (sym e'))
    passed false e' = refl

-- ---- puts under keys that were met leave what is left

left-put : (after : Option (List ℕ)) (k v : List ℕ) (es : List Entry) → is_above after k ≡ false → above after (put byte_cmp k v es) ≡ above after es
left-put after k v [] low = ap (λ b. cond b ((k, v) ∷ []) []) low
left-put after k v (e ∷ es) low = by (byte_cmp k e.0) refl (left-put after k v es low)
  where
    by : (o : Ordering) → byte_cmp k e.0 ≡ o → above after (put byte_cmp k v es) ≡ above after es
        → above after (by_order o ((k, v) ∷ e ∷ es) ((e.0, v) ∷ es) (e ∷ put byte_cmp k v es)) ≡ above after (e ∷ es)
    by Less at rest = ap (λ b. cond b ((k, v) ∷ above after (e ∷ es)) (above after (e ∷ es))) low
    by Equal at rest =
        let tied = subst (λ (key : List ℕ). is_above after key ≡ false) (slice_cmp-IsAntisymmetric nat_cmp-IsAntisymmetric k e.0 at) low in
        ap (λ b. cond b ((e.0, v) ∷ above after es) (above after es)) tied ∙ sym (ap (λ b. cond b (e ∷ above after es) (above after es)) tied)
    by Greater at rest = ap (λ xs. cond (is_above after e.0) (e ∷ xs) xs) rest

pub left-put_all : (after : Option (List ℕ)) (puts : List Entry) (t : Table) → ((e : Entry) → Contains puts e → is_above after e.0 ≡ false) → above after (finite.entries (put_all t puts)) ≡ above after (finite.entries t)
left-put_all after [] t low = refl
left-put_all after (e ∷ puts) t low =
    left-put_all after puts (finite.insert t e.0 e.1) (λ x h. low x (Contains-later e puts x h))
    ∙ ap (above after) (entries-insert nat_list_cmp_total t e.0 e.1)
    ∙ left-put after e.0 e.1 (finite.entries t) (low e (Contains-first e puts))

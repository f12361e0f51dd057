-- Laws of keys: sorted, and the first of those of equal rank.
use Rattle.std.proofs.Common.{◌≡◌, ℕ, suc, Bool, true, false, ◌&&◌, nat_eq, ◌+◌, ◌<◌, ◌≤◌, List, [], ◌∷◌, length, get_or, Contains, Less, Equal, Greater, Ordering, IsPermutation, IsSorted, nat_cmp, refl, sym, ap, ap₂, subst, ◌∙◌, ⊎_elim, cond, arith}
use Rattle.std.specs.Bool.{Decides}
use Rattle.std.specs.Ordering.{is_eq, is_lt, ordering_then}
use Rattle.std.specs.List.{dedup, dedup_from, AllByRecursion}
use Rattle.std.specs.List.Sorted.{IsStrictlySortedBy}
use Rattle.std.specs.Cmp.{IsTotalOrder, unsigned_ties}
use Rattle.std.specs.Cmp.Lexicographic.{texts_ties}
use Rattle.std.proofs.lemmas.Bool.{and_parts, and_from}
use Rattle.std.proofs.lemmas.Bool.Decides.{Decides-eqb, nat_tests}
use Rattle.std.proofs.lemmas.Cmp.{then_total, on_total, nat_cmp_total, tied_itself}
use Rattle.std.proofs.lemmas.List.Kept.{Contains-from_dedup, IsStrictlySortedBy-dedup}
use Rattle.std.proofs.lemmas.List.MinMax.{ranks_by}
use Rattle.std.proofs.lemmas.List.Sorted.{IsPermutation-sym, Contains-permutation, sorted_far}
use Rattle.cd_cell.specs.Equality.{same_hash, same_hash-Decides}
use Rattle.cd_cell.specs.Export.{hash_cmp}
use Rattle.cd_cell.proofs.ExportOrder.{hash_cmp-total}
use Rattle.cd_cell.proofs.Subtrees.{Contains-first, Contains-later, Contains-cases, Contains-nil}
use Rattle.cd_cell.proofs.Distinct.{Rises, AllPairs-from_rises}
use Rattle.cd_cell.proofs.NumberedHashes.{first-lower}
use Rattle.cd_cell.specs.declared.export_key.ExportRank.{ExportRank}
use Rattle.cd_cell.specs.declared.export_key.ExportKey.{ExportKey}
use Rattle.cd_cell.specs.Keys.{rank_cmp, AreFirst}

abbrev pub key_cmp : ExportKey → ExportKey → Ordering
key_cmp a b = ordering_then (rank_cmp a.rank b.rank) (nat_cmp a.number b.number)

abbrev pub same_rank : ExportRank → ExportRank → Bool
same_rank a b = nat_eq a.lowness b.lowness && same_hash a.hash b.hash

abbrev pub same_key : ExportKey → ExportKey → Bool
same_key a b = same_rank a.rank b.rank

abbrev by_rank : ExportKey → ExportKey → Ordering
by_rank a b = rank_cmp a.rank b.rank

pub rank_cmp-total : IsTotalOrder rank_cmp
rank_cmp-total = then_total (on_total (λ (p : ExportRank). p.lowness) nat_cmp_total) (on_total (λ (p : ExportRank). p.hash) hash_cmp-total)

by_rank-total : IsTotalOrder by_rank
by_rank-total = on_total (λ (k : ExportKey). k.rank) rank_cmp-total

key_cmp-total : IsTotalOrder key_cmp
key_cmp-total = then_total by_rank-total (on_total (λ (k : ExportKey). k.number) nat_cmp_total)

same_rank-Decides : (a b : ExportRank) → Decides (same_rank a b) (a ≡ b)
same_rank-Decides a b = (
  λ h.
      let both = and_parts _ _ h in
      ap₂ (λ l x. let p : ExportRank = record { lowness = l; hash = x } in p) ((Decides-eqb a.lowness b.lowness).0 both.0) ((same_hash-Decides a.hash b.hash).0 both.1),
  λ h. and_from _ _ ((Decides-eqb a.lowness b.lowness).1 (ap (λ (p : ExportRank). p.lowness) h)) ((same_hash-Decides a.hash b.hash).1 (ap (λ (p : ExportRank). p.hash) h)),
)

both-ties : (o p : Ordering) → (is_eq o && is_eq p) ≡ is_eq (ordering_then o p)
both-ties Less p = refl
both-ties Equal p = refl
both-ties Greater p = refl

key-ties : (a b : ExportKey) → same_key a b ≡ is_eq (by_rank a b)
key-ties a b =
    ap₂ (λ x y. x && y) (unsigned_ties a.rank.lowness b.rank.lowness) (texts_ties a.rank.hash.0 b.rank.hash.0)
    ∙ both-ties (nat_cmp a.rank.lowness b.rank.lowness) (hash_cmp a.rank.hash b.rank.hash)

sorted-by_rank : (keys : List ExportKey) → IsSorted key_cmp keys → IsSorted by_rank keys
sorted-by_rank keys sorted = λ k d low high. first-lower (by_rank (get_or keys (k + 1) d) (get_or keys k d)) (nat_cmp (get_or keys (k + 1) d).number (get_or keys k d).number) (sorted k d low high)

from_all : {A : Type 0} (P : A → Type 0) (xs : List A) → AllByRecursion P xs → (y : A) → Contains xs y → P y
from_all P [] all y h = absurd (Contains-nil y h)
from_all P (x ∷ xs) all y h = ⊎_elim (λ same. subst P same all.0) (λ later. from_all P xs all.1 y later) (Contains-cases x xs y h)

rises : {A : Type 0} (cmp : A → A → Ordering) (xs : List A) → IsStrictlySortedBy cmp xs → Rises cmp xs
unfolding IsStrictlySortedBy
rises cmp [] up = tt
rises cmp (x ∷ xs) up = (from_all (λ y. cmp x y ≡ Less) xs up.0, rises cmp xs up.1)

-- ---- the first of those of equal rank is kept

-- no later key is below an earlier one
abbrev Ascend : List ExportKey → Type 0
Ascend [] = Unit {0}
Ascend (x ∷ xs) = ((y : ExportKey) → Contains xs y → is_lt (key_cmp y x) ≡ false) × Ascend xs

ascend : (xs : List ExportKey) → ((i j : ℕ) (d : ExportKey) → i ≤ j → j < length xs → is_lt (key_cmp (get_or xs j d) (get_or xs i d)) ≡ false) → Ascend xs
ascend [] far = tt
ascend (x ∷ xs) far = (
  λ y h. subst (λ z. is_lt (key_cmp z x) ≡ false) h.2 (far 0 (suc h.0) y (omega arith) (omega (arith, h.1))),
  ascend xs (λ i j d low high. far (suc i) (suc j) d (omega arith) (omega arith)),
)

number-up : (m n : ℕ) → is_lt (nat_cmp m n) ≡ false → n ≤ m
number-up m n e = grind (arith, nat_tests)

-- of equal keys that ascend, the numbers do
numbers-ascend : (a b : ExportKey) → b.rank ≡ a.rank → is_lt (key_cmp b a) ≡ false → a.number ≤ b.number
numbers-ascend a b same up =
    let tied : rank_cmp b.rank a.rank ≡ Equal = ap (λ p. rank_cmp p a.rank) same ∙ tied_itself rank_cmp-total a.rank in
    number-up b.number a.number (sym (ap (λ o. is_lt (ordering_then o (nat_cmp b.number a.number))) tied) ∙ up)

abbrev HasFirst : List ExportKey → ExportKey → Type 0
HasFirst kept z = (first : ExportKey) × Contains kept first × (first.rank ≡ z.rank) × (first.number ≤ z.number)

first-kept : (k : ExportKey) (xs : List ExportKey) → Ascend (k ∷ xs) → (z : ExportKey) → Contains (k ∷ xs) z → HasFirst (dedup_from same_key k xs) z
first-kept k [] up z h = ⊎_elim (λ same. (k, Contains-first k [], ap (λ (x : ExportKey). x.rank) same, (let e : k.number ≡ z.number = ap (λ (x : ExportKey). x.number) same in omega (arith, e)))) (λ none. absurd (Contains-nil z none)) (Contains-cases k [] z h)
first-kept k (x ∷ xs) up z h = go (same_key x k) refl (first-kept k xs ((λ y later. up.0 y (Contains-later x xs y later)), up.1.1)) (first-kept x xs up.1)
  where
    go : (b : Bool) → same_key x k ≡ b → ((w : ExportKey) → Contains (k ∷ xs) w → HasFirst (dedup_from same_key k xs) w) → ((w : ExportKey) → Contains (x ∷ xs) w → HasFirst (dedup_from same_key x xs) w)
        → HasFirst (cond b (dedup_from same_key k xs) (k ∷ dedup_from same_key x xs)) z
    go true e by_k by_x =
        ⊎_elim
        (λ same. by_k z (subst (Contains (k ∷ xs)) same (Contains-first k xs)))
        (λ later.
        ⊎_elim
        (λ same.
        let first = by_k k (Contains-first k xs) in
        let place : x.rank ≡ k.rank = (same_rank-Decides x.rank k.rank).0 e in
        let up' : k.number ≤ x.number = numbers-ascend k x place (up.0 x (Contains-first x xs)) in
        subst (HasFirst (dedup_from same_key k xs)) same (first.0, first.1, first.2 ∙ sym place, omega (arith, up', first.3)))
        (λ below. by_k z (Contains-later k xs z below))
        (Contains-cases x xs z later))
        (Contains-cases k (x ∷ xs) z h)
    go false e by_k by_x =
        ⊎_elim
        (λ same. (k, Contains-first k (dedup_from same_key x xs), ap (λ (y : ExportKey). y.rank) same, (let n : k.number ≡ z.number = ap (λ (y : ExportKey). y.number) same in omega (arith, n))))
        (λ later. let first = by_x z later in (first.0, Contains-later k (dedup_from same_key x xs) first.0 first.1, first.2, first.3))
        (Contains-cases k (x ∷ xs) z h)

first-of : (xs : List ExportKey) → Ascend xs → (z : ExportKey) → Contains xs z → HasFirst (dedup same_key xs) z
first-of [] up z h = absurd (Contains-nil z h)
first-of (x ∷ xs) up z h = first-kept x xs up z h

-- keys that are sorted, and then freed of those of the same rank as the one before
pub are_first : (old moved new : List ExportKey) → IsPermutation old moved → IsSorted key_cmp moved → new ≡ dedup same_key moved → AreFirst old new
are_first old moved new permuted sorted is = record {
  ordered = AllPairs-from_rises by_rank new (rises by_rank new (subst (IsStrictlySortedBy by_rank) (sym is) (IsStrictlySortedBy-dedup by_rank-total key-ties moved (sorted-by_rank moved sorted))));
  within = λ key h. Contains-permutation moved old key (IsPermutation-sym old moved permuted) (Contains-from_dedup same_key moved key (subst (λ ks. Contains ks key) is h));
  whole = λ key h.
      let up = ascend moved (sorted_far (λ (x y : ExportKey). is_lt (key_cmp x y)) (ranks_by key_cmp-total (λ (k : ExportKey). k)) moved sorted) in
      let first = first-of moved up key (Contains-permutation old moved key permuted h) in
      (first.0, subst (λ ks. Contains ks first.0) (sym is) first.1, first.2, first.3);
}

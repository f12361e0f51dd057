-- Laws of hashes with numbers: as they are made of items, and sorted.
use Rattle.std.proofs.Common.{◌≡◌, ℕ, zero, suc, ◌+◌, ◌<◌, ◌≤◌, false, List, [], ◌∷◌, ◌++◌, length, get_or, take, Less, Equal, Greater, Ordering, IsSorted, nat_cmp, refl, sym, ap, ◌∙◌, arith}
use Rattle.std.specs.Ordering.{is_lt, ordering_then}
use Rattle.std.specs.Cmp.{IsTotalOrder}
use Rattle.std.proofs.lemmas.Bool.{true≢false}
use Rattle.std.proofs.lemmas.Cmp.{then_total, on_total, nat_cmp_total}
use Rattle.std.proofs.lemmas.List.{take_more, length-take-le}
use Rattle.std.proofs.lemmas.List.Sorted.{sorted_far}
use Rattle.std.proofs.lemmas.List.MinMax.{ranks_by}
use Rattle.cd_base.specs.declared.hash.Hash256.{Hash256}
use Rattle.cd_cell.specs.Export.{hash_cmp}
use Rattle.cd_cell.proofs.ExportOrder.{hash_cmp-total}
use Rattle.cd_cell.specs.ClashSearch.{NumberedHash, numbered_from}
use Rattle.cd_cell.proofs.LeastHashes.{IsUpTo}

module _ {A : Type 0} (hash_of : A → Hash256) where
  pub numbered_from-at : (e : A) (i : ℕ) (xs : List A) (k n : ℕ) (d : NumberedHash) → i + k ≡ n → k < length xs → get_or (numbered_from hash_of i xs) k d ≡ (hash_of (get_or xs k e), n)
  numbered_from-at e i [] k n d at in' = absurd (omega arith)
  numbered_from-at e i (x ∷ xs) zero n d at in' = ap (λ m. (hash_of x, m)) (let same : i ≡ n = omega arith in same)
  numbered_from-at e i (x ∷ xs) (suc k) n d at in' = numbered_from-at e (i + 1) xs k n d (omega arith) (omega arith)

  pub length-numbered_from : (i : ℕ) (xs : List A) → length (numbered_from hash_of i xs) ≡ length xs
  length-numbered_from i [] = refl
  length-numbered_from i (x ∷ xs) = ap suc (length-numbered_from (i + 1) xs)

  numbered_from-append : (i n : ℕ) (xs : List A) (x : A) → i + length xs ≡ n → numbered_from hash_of i (xs ++ x ∷ []) ≡ numbered_from hash_of i xs ++ (hash_of x, n) ∷ []
  numbered_from-append i n [] x at = ap (λ m. (hash_of x, m) ∷ []) (let same : i ≡ n = omega arith in same)
  numbered_from-append i n (y ∷ xs) x at = ap (λ ks. (hash_of y, i) ∷ ks) (numbered_from-append (i + 1) n xs x (omega arith))

  -- the key of one more item
  pub numbered_from-more : (xs : List A) (n : ℕ) (x : A) → n < length xs → x ≡ get_or xs n x → numbered_from hash_of 0 (take (n + 1) xs) ≡ numbered_from hash_of 0 (take n xs) ++ (hash_of x, n) ∷ []
  numbered_from-more xs n x in' is =
      ap (numbered_from hash_of 0) (take_more xs n x in')
      ∙ ap (λ y. numbered_from hash_of 0 (take n xs ++ y ∷ [])) (sym is)
      ∙ numbered_from-append 0 n (take n xs) x (let long : 0 + length (take n xs) ≡ n = omega (arith, length-take-le n xs (omega arith)) in long)

abbrev pub numbered_cmp : NumberedHash → NumberedHash → Ordering
numbered_cmp a b = ordering_then (hash_cmp a.0 b.0) (nat_cmp a.1 b.1)

numbered_cmp-total : IsTotalOrder numbered_cmp
numbered_cmp-total = then_total (on_total (λ (k : NumberedHash). k.0) hash_cmp-total) (on_total (λ (k : NumberedHash). k.1) nat_cmp_total)

-- what isn't below isn't below in its first part
pub first-lower : (o p : Ordering) → is_lt (ordering_then o p) ≡ false → is_lt o ≡ false
first-lower Less p e = absurd (true≢false e)
first-lower Equal p e = refl
first-lower Greater p e = refl

-- in sorted keys a later hash isn't below an earlier one
pub hashes-sorted : (keys : List NumberedHash) → IsSorted numbered_cmp keys → (i j : ℕ) (d : NumberedHash) → i ≤ j → j < length keys → IsUpTo (get_or keys j d).0 (get_or keys i d).0
hashes-sorted keys sorted i j d before in' =
    first-lower (hash_cmp (get_or keys j d).0 (get_or keys i d).0) (nat_cmp (get_or keys j d).1 (get_or keys i d).1)
    (sorted_far (λ (x y : NumberedHash). is_lt (numbered_cmp x y)) (ranks_by numbered_cmp-total (λ (k : NumberedHash). k)) keys sorted i j d before in')

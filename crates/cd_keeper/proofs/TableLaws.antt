-- A tree of keys and values, read as a table of bytes.
use Rattle.std.proofs.Common.{◌≡◌, ℕ, Bool, true, false, cond, List, [], ◌∷◌, Option, Some, None, IsSome, IfSome, T, ◌&&◌, Vec, Global, refl, sym, ap, ◌∙◌, subst}
use Rattle.std.specs.declared.cmp.Ordering.{Ordering}
use Rattle.std.specs.declared.cmp.Ordering.TheVariants.{Less, Equal, Greater}
use Rattle.std.specs.Ordering.{nat_cmp, is_eq, is_lt, match_ordering}
use Rattle.std.specs.Cmp.{IsEquivalence, eq_by_cmp_equiv}
use Rattle.std.specs.Cmp.Lexicographic.{slice_cmp, nat_list_cmp_total}
use Rattle.std.specs.Option.{option_map}
use Rattle.std.specs.List.{AllByRecursion, find as find_first}
use Rattle.std.specs.declared.ops.Bound.TheVariants.{Unbounded}
use Rattle.std.specs.List.Sorted.{IsStrictlySortedBy}
use Rattle.std.specs.Map.{lookup, remove_entry, set_value, keys_of}
use Rattle.std.specs.BTreeMap.{insert_entry, is_at}
use Rattle.std.specs.BTreeMap.Range.{range_contains, entries_between}
use Rattle.std.specs.FinMap as finite
use Rattle.std.specs.FinMap.{put, find}
use Rattle.std.specs.FinMap.Entries.{by_order, find-put, below_all, is_sorted}
use Rattle.std.proofs.lemmas.Map.{lookup-remove_entry, lookup-set_value}
use Rattle.std.proofs.lemmas.Map.Keys.{IsDistinct-from_sorted, sorted_head, sorted_tail}
use Rattle.cd_keeper.specs.Contents.{Table, is_above, next_entry}
use Rattle.cd_keeper.specs.NoKeyTwice.{same_key}
use Rattle.cd_keeper.specs.Undo.{put_back}
use Rattle.cd_keeper.specs.Shown.{entry_of, entries_of, table_of, above}

abbrev pub first : {A : Type 0} → List A → Option A
first [] = None
first (x ∷ xs) = Some x

pub same_key-equiv : IsEquivalence same_key
same_key-equiv = eq_by_cmp_equiv nat_list_cmp_total

-- tables that answer alike are equal
pub same_table : (s t : Table) → ((q : List ℕ) → finite.get s q ≡ finite.get t q) → s ≡ t
same_table s t same = finite.same_map nat_list_cmp_total (finite.slice_cmp-IsAntisymmetric finite.nat_cmp-IsAntisymmetric) s t same

find-lookup : (q : List ℕ) (es : List (List ℕ × List ℕ)) → find (slice_cmp nat_cmp) q es ≡ lookup (same_key q) es
find-lookup q [] = refl
find-lookup q (e ∷ es) = ap (cond (same_key q e.0) (Some e.1)) (find-lookup q es)

get-entries : (es : List (List ℕ × List ℕ)) (q : List ℕ) → finite.get (finite.from_entries {R = slice_cmp nat_cmp} es) q ≡ lookup (same_key q) es
get-entries es q = finite.get-from_entries nat_list_cmp_total es q ∙ find-lookup q es

tied : (k x y : List ℕ) → same_key k x ≡ true → same_key k y ≡ same_key x y
tied k x y e = same_key-equiv.congr k x y e

below-from_sorted : (k : List ℕ) (es : List (List ℕ × List ℕ)) → AllByRecursion (λ y. slice_cmp nat_cmp k y ≡ Less) (keys_of es) → below_all (slice_cmp nat_cmp) k es ≡ true
below-from_sorted k [] h = refl
below-from_sorted k (e ∷ es) h = rw h.0 (below-from_sorted k es h.1)

is_sorted-from_sorted : (es : List (List ℕ × List ℕ)) → IsStrictlySortedBy (slice_cmp nat_cmp) (keys_of es) → is_sorted (slice_cmp nat_cmp) es ≡ true
is_sorted-from_sorted [] h = refl
is_sorted-from_sorted (e ∷ es) h =
    rw (below-from_sorted e.0 es (sorted_head (slice_cmp nat_cmp) e.0 (keys_of es) h)) (is_sorted-from_sorted es (sorted_tail (slice_cmp nat_cmp) e.0 (keys_of es) h))

module _ {K : Type 0} (cmp : K → K → Ordering) (bytes : K → List ℕ) (ordered : (x y : K) → cmp x y ≡ slice_cmp nat_cmp (bytes x) (bytes y)) where
  find-entries_of : (q : K) (es : List (K × Vec ℕ Global)) → lookup (same_key (bytes q)) (entries_of bytes es) ≡ option_map (λ v. v.items) (lookup (is_at (cmp q)) es)
  find-entries_of q [] = refl
  find-entries_of q (e ∷ es) =
      rw (← ordered q e.0)
      elim (is_eq (cmp q e.0)) as (λ b. cond b (Some e.1.items) (lookup (same_key (bytes q)) (entries_of bytes es)) ≡ option_map (λ v. v.items) (cond b (Some e.1) (lookup (is_at (cmp q)) es))) [
        | true ↦ refl
        | false ↦ find-entries_of q es
      ]

  pub get-table_of : (q : K) (es : List (K × Vec ℕ Global)) → finite.get (table_of bytes es) (bytes q) ≡ option_map (λ v. v.items) (lookup (is_at (cmp q)) es)
  get-table_of q es = get-entries (entries_of bytes es) (bytes q) ∙ find-entries_of q es

  entries_of-insert : (k : K) (v : Vec ℕ Global) (es : List (K × Vec ℕ Global)) → entries_of bytes (insert_entry cmp es k v) ≡ put (slice_cmp nat_cmp) (bytes k) v.items (entries_of bytes es)
  entries_of-insert k v [] = refl
  entries_of-insert k v (e ∷ es) =
      rw (← ordered k e.0)
      elim (cmp k e.0) as (λ r. entries_of bytes (match_ordering r ((k, v) ∷ e ∷ es) ((e.0, v) ∷ es) (e ∷ insert_entry cmp es k v)) ≡ by_order r ((bytes k, v.items) ∷ entries_of bytes (e ∷ es)) ((bytes e.0, v.items) ∷ entries_of bytes es) (entry_of bytes e ∷ put (slice_cmp nat_cmp) (bytes k) v.items (entries_of bytes es))) [
        | Less ↦ refl
        | Equal ↦ refl
        | Greater ↦ ap (λ fs. entry_of bytes e ∷ fs) (entries_of-insert k v es)
      ]

  pub table_of-insert : (k : K) (v : Vec ℕ Global) (es : List (K × Vec ℕ Global)) → table_of bytes (insert_entry cmp es k v) ≡ finite.insert (table_of bytes es) (bytes k) v.items
  table_of-insert k v es = same_table _ _ (λ q.
      finite.get-from_entries nat_list_cmp_total _ q
      ∙ ap (find (slice_cmp nat_cmp) q) (entries_of-insert k v es)
      ∙ find-put (slice_cmp nat_cmp) nat_list_cmp_total q (bytes k) v.items (entries_of bytes es)
      ∙ sym (finite.get-insert nat_list_cmp_total _ (bytes k) v.items q ∙ ap (cond (same_key q (bytes k)) (Some v.items)) (finite.get-from_entries nat_list_cmp_total (entries_of bytes es) q)))

  all_less : (k : K) (es : List (K × Vec ℕ Global)) → AllByRecursion (λ y. cmp k y ≡ Less) (keys_of es) → AllByRecursion (λ y. slice_cmp nat_cmp (bytes k) y ≡ Less) (keys_of (entries_of bytes es))
  all_less k [] h = h
  all_less k (e ∷ es) h = (sym (ordered k e.0) ∙ h.0, all_less k es h.1)

  sorted_bytes : (es : List (K × Vec ℕ Global)) → IsStrictlySortedBy cmp (keys_of es) → IsStrictlySortedBy (slice_cmp nat_cmp) (keys_of (entries_of bytes es))
  unfolding IsStrictlySortedBy
  sorted_bytes [] h = h
  sorted_bytes (e ∷ es) h = (all_less e.0 es h.0, sorted_bytes es h.1)

  entries_of-remove : (k : K) (es : List (K × Vec ℕ Global)) → entries_of bytes (remove_entry (is_at (cmp k)) es) ≡ remove_entry (same_key (bytes k)) (entries_of bytes es)
  entries_of-remove k [] = refl
  entries_of-remove k (e ∷ es) =
      rw (← ordered k e.0)
      elim (is_eq (cmp k e.0)) as (λ b. entries_of bytes (cond b es (e ∷ remove_entry (is_at (cmp k)) es)) ≡ cond b (entries_of bytes es) (entry_of bytes e ∷ remove_entry (same_key (bytes k)) (entries_of bytes es))) [
        | true ↦ refl
        | false ↦ ap (λ fs. entry_of bytes e ∷ fs) (entries_of-remove k es)
      ]

  pub table_of-remove : (k : K) (es : List (K × Vec ℕ Global)) → IsStrictlySortedBy cmp (keys_of es) → table_of bytes (remove_entry (is_at (cmp k)) es) ≡ finite.remove (table_of bytes es) (bytes k)
  table_of-remove k es h = same_table _ _ (λ q.
      get-entries _ q
      ∙ ap (lookup (same_key q)) (entries_of-remove k es)
      ∙ lookup-remove_entry same_key-equiv (same_key (bytes k)) (tied (bytes k)) q (entries_of bytes es) (IsDistinct-from_sorted (slice_cmp nat_cmp) _ (sorted_bytes es h))
      ∙ sym (finite.get-remove nat_list_cmp_total _ (bytes k) q ∙ ap (λ b. cond b None (finite.get (table_of bytes es) q)) (same_key-equiv.symm q (bytes k)) ∙ ap (cond (same_key (bytes k) q) None) (get-entries (entries_of bytes es) q)))

  entries_of-set_value : (k : K) (v : Vec ℕ Global) (es : List (K × Vec ℕ Global)) → entries_of bytes (set_value (is_at (cmp k)) es v) ≡ set_value (same_key (bytes k)) (entries_of bytes es) v.items
  entries_of-set_value k v [] = refl
  entries_of-set_value k v (e ∷ es) =
      rw (← ordered k e.0)
      elim (is_eq (cmp k e.0)) as (λ b. entries_of bytes (cond b ((e.0, v) ∷ es) (e ∷ set_value (is_at (cmp k)) es v)) ≡ cond b ((bytes e.0, v.items) ∷ entries_of bytes es) (entry_of bytes e ∷ set_value (same_key (bytes k)) (entries_of bytes es) v.items)) [
        | true ↦ refl
        | false ↦ ap (λ fs. entry_of bytes e ∷ fs) (entries_of-set_value k v es)
      ]

  table_of-set_value : (k : K) (v : Vec ℕ Global) (es : List (K × Vec ℕ Global)) → IsSome (lookup (same_key (bytes k)) (entries_of bytes es)) → table_of bytes (set_value (is_at (cmp k)) es v) ≡ finite.insert (table_of bytes es) (bytes k) v.items
  table_of-set_value k v es there = same_table _ _ (λ q.
      get-entries _ q
      ∙ ap (lookup (same_key q)) (entries_of-set_value k v es)
      ∙ lookup-set_value same_key-equiv (same_key (bytes k)) (tied (bytes k)) q v.items (entries_of bytes es) there
      ∙ sym (finite.get-insert nat_list_cmp_total _ (bytes k) v.items q ∙ ap (λ b. cond b (Some v.items) (finite.get (table_of bytes es) q)) (same_key-equiv.symm q (bytes k)) ∙ ap (cond (same_key (bytes k) q) (Some v.items)) (get-entries (entries_of bytes es) q)))

  -- a value that is there is put back by a write in its place
  pub put_back-there : (k : K) (v w : Vec ℕ Global) (es : List (K × Vec ℕ Global)) → Some w ≡ lookup (is_at (cmp k)) es → table_of bytes (set_value (is_at (cmp k)) es v) ≡ put_back (table_of bytes es) (bytes k) v.items
  put_back-there k v w es there =
      rw (get-table_of k es, ← there)
      (table_of-set_value k v es (rw (find-entries_of k es, ← there) refl))

  pub put_back-absent : (k : K) (value : List ℕ) (es : List (K × Vec ℕ Global)) → None ≡ lookup (is_at (cmp k)) es → table_of bytes es ≡ put_back (table_of bytes es) (bytes k) value
  put_back-absent k value es absent = rw (get-table_of k es, ← absent) refl

  pub entries-table_of : (es : List (K × Vec ℕ Global)) → IsStrictlySortedBy cmp (keys_of es) → finite.entries (table_of bytes es) ≡ entries_of bytes es
  entries-table_of es h =
      let sorted : T (is_sorted (slice_cmp nat_cmp) (entries_of bytes es)) = subst T (sym (is_sorted-from_sorted (entries_of bytes es) (sorted_bytes es h))) tt in
      ap finite.entries (same_table _ _ (λ q. finite.get-from_entries nat_list_cmp_total (entries_of bytes es) q ∙ sym (finite.get-from_sorted (slice_cmp nat_cmp) (entries_of bytes es) q sorted)))
      ∙ finite.entries-from_sorted (slice_cmp nat_cmp) (entries_of bytes es) sorted

  is_above-bound : (after : Option K) (q : K) → is_above (option_map bytes after) (bytes q) ≡ range_contains cmp (above after) Unbounded q
  is_above-bound None q = refl
  is_above-bound (Some k) q = rw (← ordered k q) (elim (is_lt (cmp k q)) as (λ b. b ≡ (b && true)) [ true ↦ refl | false ↦ refl ])

  find-above : (after : Option K) (es : List (K × Vec ℕ Global)) → find_first (λ e. is_above (option_map bytes after) e.0) (entries_of bytes es) ≡ option_map (entry_of bytes) (first (entries_between cmp (above after) Unbounded es))
  find-above after [] = refl
  find-above after (e ∷ es) =
      rw (is_above-bound after e.0)
      elim (range_contains cmp (above after) Unbounded e.0) as (λ b. cond b (Some (entry_of bytes e)) (find_first (λ e. is_above (option_map bytes after) e.0) (entries_of bytes es)) ≡ option_map (entry_of bytes) (first (cond b (e ∷ entries_between cmp (above after) Unbounded es) (entries_between cmp (above after) Unbounded es)))) [
        | true ↦ refl
        | false ↦ find-above after es
      ]

  pub next_entry-table_of : (after : Option K) (es : List (K × Vec ℕ Global)) → IsStrictlySortedBy cmp (keys_of es) → next_entry (table_of bytes es) (option_map bytes after) ≡ option_map (entry_of bytes) (first (entries_between cmp (above after) Unbounded es))
  next_entry-table_of after es h = ap (find_first (λ e. is_above (option_map bytes after) e.0)) (entries-table_of es h) ∙ find-above after es

find-passes : {A : Type 0} (p : A → Bool) (xs : List A) → IfSome (find_first p xs) (λ x. p x ≡ true)
find-passes p [] = tt
find-passes p (x ∷ xs) =
    elim (p x) as (λ b. p x ≡ b → IfSome (cond b (Some x) (find_first p xs)) (λ x. p x ≡ true)) [
      | true ↦ λ passes. passes
      | false ↦ λ _. find-passes p xs
    ] refl

-- the next entry lies above the bound
pub next-above : {K : Type 0} (bytes : K → List ℕ) (found : Option (K × Vec ℕ Global)) (table : Table) (after : Option (List ℕ)) → option_map (entry_of bytes) found ≡ next_entry table after → IfSome found (λ e. is_above after (bytes e.0) ≡ true)
next-above bytes None table after is = tt
next-above bytes (Some e) table after is =
    subst (λ o. IfSome o (λ e. is_above after e.0 ≡ true)) (sym is) (find-passes (λ e. is_above after e.0) (finite.entries table))

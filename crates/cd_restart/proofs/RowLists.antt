-- Rows of stored cells: the one with a hash, and what a counted reference changes.
use Rattle.std.proofs.Common.{◌≡◌, ℕ, zero, suc, ◌+◌, ◌<◌, ◌≤◌, Bool, true, false, cond, List, [], ◌∷◌, ◌++◌, length, get_or, Option, Some, None, Result, Ok, Err, Contains, Less, Equal, Greater, Ordering, refl, sym, ap, ap₂, ◌∙◌, subst, inl, inr, ⊎_elim, ◌⊎◌, arith}
use Rattle.std.specs.Prelude.{find}
use Rattle.std.specs.Option.{option_map}
use Rattle.std.specs.Result.{result_ok}
use Rattle.std.specs.List.{count_by}
use Rattle.std.specs.Cmp.{tied_itself}
use Rattle.std.specs.List.Sorted.{IsBinarySearchResult, IsSearchInRange, IsNonDecreasingBy}
use Rattle.std.specs.Ordering.{on, ordering_index}
use Rattle.std.specs.Cmp.Lexicographic.{nat_list_cmp_total}
use Rattle.std.specs.FinMap.{slice_cmp-IsAntisymmetric, nat_cmp-IsAntisymmetric}
use Rattle.std.proofs.Math.ListN.{set}
use Rattle.std.proofs.lemmas.Option.{none-some, same_Some}
use Rattle.std.proofs.lemmas.List.Elements.{Contains-get_or}
use Rattle.std.proofs.lemmas.List.Sums.{sum_by_push}
use Rattle.cd_base.specs.declared.hash.Hash256.{Hash256}
use Rattle.cd_cell.specs.Equality.{same_hash, same_hash-Decides}
use Rattle.cd_cell.specs.Export.{hash_cmp}
use Rattle.cd_cell.specs.Levels.{info_of_face}
use Rattle.cd_cell.proofs.Distinct.{Rises, AllPairs-from_rises, rises-from_AllPairs}
use Rattle.cd_cell.proofs.Subtrees.{Contains-first, Contains-later, Contains-cases, Contains-nil, Contains-mapped}
use Rattle.cd_record.specs.declared.record.Record.{Record}
use Rattle.cd_restart.specs.RowView.{RowView}
use Rattle.cd_restart.specs.Rows.{row_after, rows_of, row_at, AreRising, IsPlaceOf, AreRowsOf, IsRowOf}
use Rattle.cd_restart.specs.ScanFaults.{record_at}
use Rattle.cd_restart.specs.Stored.{Stored}
use Rattle.cd_world.proofs.Tables.{byte_cmp, not_before_itself, rises-map, rises-unmap}

-- ---- hashes

pub tied_hashes : (a b : Hash256) → hash_cmp a b ≡ Equal → a ≡ b
tied_hashes a b e = ap (λ (q : List ℕ). let h : Hash256 = record { 0 = q } in h) (slice_cmp-IsAntisymmetric nat_cmp-IsAntisymmetric a.0 b.0 e)

pub not_same : (a b : Hash256) → (a ≡ b → ⊥) → same_hash a b ≡ false
not_same a b other = by (same_hash a b) refl
  where
    by : (x : Bool) → same_hash a b ≡ x → x ≡ false
    by true e = absurd (other ((same_hash-Decides a b).0 e))
    by false e = refl

abbrev row_cmp : RowView → RowView → Ordering
row_cmp = on (λ (r : RowView). r.hash) hash_cmp

same_or_below : (i j : ℕ) → i ≤ j → (i ≡ j) ⊎ (i < j)
same_or_below zero zero low = inl refl
same_or_below zero (suc j) low = inr (omega arith)
same_or_below (suc i) zero low = absurd (omega arith)
same_or_below (suc i) (suc j) low = ⊎_elim (λ e. inl (ap suc e)) (λ below. inr (omega arith)) (same_or_below i j (omega arith))

below_or_above : (k i : ℕ) → (k < i) ⊎ (i ≤ k)
below_or_above zero zero = inr (omega arith)
below_or_above zero (suc i) = inl (omega arith)
below_or_above (suc k) zero = inr (omega arith)
below_or_above (suc k) (suc i) = ⊎_elim (λ below. inl (omega arith)) (λ above. inr (omega arith)) (below_or_above k i)

-- the one with a hash is found in its place
row-there : (rows : List RowView) → Rises row_cmp rows → (hash : Hash256) (i : ℕ) → i < length rows → (d : RowView) → (let r = get_or rows i d in r.hash) ≡ hash → row_at rows hash ≡ Some (get_or rows i d)
row-there [] up hash i within d is = absurd (omega arith)
row-there (x ∷ rows) up hash zero within d is = ap (λ b. cond b (Some x) (row_at rows hash)) ((same_hash-Decides hash x.hash).1 (sym is))
row-there (x ∷ rows) up hash (suc i) within d is =
    let before : hash_cmp x.hash hash ≡ Less = subst (λ (h : Hash256). hash_cmp x.hash h ≡ Less) is (up.0 (get_or rows i d) (Contains-get_or rows i d (omega arith))) in
    ap (λ b. cond b (Some x) (row_at rows hash)) (not_same hash x.hash (λ same. not_before_itself hash.0 (subst (λ (h : Hash256). hash_cmp h hash ≡ Less) (sym same) before)))
    ∙ row-there rows up.1 hash i (omega arith) d is

row-nowhere : (rows : List RowView) (hash : Hash256) → ((r : RowView) → Contains rows r → hash ≡ r.hash → ⊥) → row_at rows hash ≡ None
row-nowhere [] hash none = refl
row-nowhere (x ∷ rows) hash none =
    ap (λ b. cond b (Some x) (row_at rows hash)) (not_same hash x.hash (none x (Contains-first x rows)))
    ∙ row-nowhere rows hash (λ r h. none r (Contains-later x rows r h))

-- seen from a hash, rows in order are first less, and then greater
module _ (rows : List RowView) (hash : Hash256) (rising : AreRising rows) where
  side : (a b : Hash256) → (a ≡ b) ⊎ (hash_cmp a b ≡ Less) → ordering_index (hash_cmp a hash) ≤ ordering_index (hash_cmp b hash)
  side a b (inl same) = subst (λ (h : Hash256). ordering_index (hash_cmp a hash) ≤ ordering_index (hash_cmp h hash)) same (omega arith)
  side a b (inr less) = by (hash_cmp a hash) refl (hash_cmp b hash) refl
    where
      -- what is below a hash that isn't above another is below that
      chained : hash_cmp b hash ≡ Less → hash_cmp a hash ≡ Less
      chained e = nat_list_cmp_total.trans a.0 b.0 hash.0 less e

      by : (o : Ordering) → hash_cmp a hash ≡ o → (p : Ordering) → hash_cmp b hash ≡ p → ordering_index o ≤ ordering_index p
      by Less e p f = omega arith
      by Equal e Less f = absurd (let turned = sym e ∙ chained f in cc)
      by Equal e Equal f = omega arith
      by Equal e Greater f = omega arith
      by Greater e Less f = absurd (let turned = sym e ∙ chained f in cc)
      by Greater e Equal f =
          absurd (let same : b ≡ hash = tied_hashes b hash f in let turned = sym e ∙ subst (λ (h : Hash256). hash_cmp a h ≡ Less) same less in cc)
      by Greater e Greater f = omega arith

  not_falling : IsNonDecreasingBy (λ (r : RowView). ordering_index (hash_cmp r.hash hash)) rows
  not_falling i j d low in' =
      let a = get_or rows i d in
      let b = get_or rows j d in
      ⊎_elim
      (λ same. side a.hash b.hash (inl (ap (λ k. let r = get_or rows k d in r.hash) same)))
      (λ below. side a.hash b.hash (inr (rising i j d below in')))
      (same_or_below i j low)

pub place-found : (rows : List RowView) (hash : Hash256) (r : Result ℕ ℕ) (place : Option ℕ) → AreRising rows → IsSearchInRange r (length rows) → IsBinarySearchResult (λ (y : RowView). hash_cmp y.hash hash) rows r → place ≡ result_ok r → IsPlaceOf rows hash place
place-found rows hash (Ok i) place rising within searched is =
    subst (IsPlaceOf rows hash) (sym is)
    (λ d. row-there rows (rises-from_AllPairs row_cmp rows rising) hash i within d (tied_hashes (let r = get_or rows i d in r.hash) hash (searched d)))
place-found rows hash (Err i) place rising within searched is =
    let parts = searched (not_falling rows hash rising) in
    subst (IsPlaceOf rows hash) (sym is)
    (row-nowhere rows hash (λ r h same.
    let tied : hash_cmp r.hash hash ≡ Equal = ap (λ (k : Hash256). hash_cmp k hash) (sym same) ∙ tied_itself nat_list_cmp_total hash.0 in
    ⊎_elim
    (λ below. absurd (let less = subst (λ (x : RowView). hash_cmp x.hash hash ≡ Less) h.2 (parts.0 h.0 r (omega arith) below) in let turned = sym tied ∙ less in cc))
    (λ above. absurd (let greater = subst (λ (x : RowView). hash_cmp x.hash hash ≡ Greater) h.2 (parts.1 h.0 r above h.1) in let turned = sym tied ∙ greater in cc))
    (below_or_above h.0 i)))

-- ---- rows of cells

no_record : Record
no_record = record { count = 0; face = record { exotic = false; bits = []; kids = [] } }

module _ (H : List ℕ → Hash256) (hashes : List Hash256) where
  -- a row is found where a cell is
  row-of_cell : (cells : List Stored) (hash : Hash256) → row_at (rows_of H cells hashes) hash ≡ option_map (row_after H hashes) (find (λ (c : Stored). same_hash hash c.0) cells)
  row-of_cell [] hash = refl
  row-of_cell (c ∷ cells) hash = by (same_hash hash c.0) (row-of_cell cells hash)
    where
      by : (b : Bool) → row_at (rows_of H cells hashes) hash ≡ option_map (row_after H hashes) (find (λ (c : Stored). same_hash hash c.0) cells)
          → cond b (Some (row_after H hashes c)) (row_at (rows_of H cells hashes) hash) ≡ option_map (row_after H hashes) (cond b (Some c) (find (λ (c : Stored). same_hash hash c.0) cells))
      by true rest = refl
      by false rest = rest

  -- and it shows what the cell does
  pub row-of_place : (cells : List Stored) (rows : List RowView) (hash : Hash256) (place : Option ℕ) → rows ≡ rows_of H cells hashes → IsPlaceOf rows hash place → IsRowOf H cells hash rows place
  row-of_place cells rows hash None are is = by (find (λ (c : Stored). same_hash hash c.0) cells) (sym (row-of_cell cells hash) ∙ ap (λ (rs : List RowView). row_at rs hash) (sym are) ∙ is)
    where
      by : (o : Option Stored) → option_map (row_after H hashes) o ≡ None → option_map (λ (c : Stored). c.1) o ≡ None
      by None e = refl
      by (Some c) e = absurd (none-some _ (sym e))
  row-of_place cells rows hash (Some i) are is = by (find (λ (c : Stored). same_hash hash c.0) cells) refl
      (λ d. sym (row-of_cell cells hash) ∙ ap (λ (rs : List RowView). row_at rs hash) (sym are) ∙ is d)
    where
      by : (o : Option Stored) → find (λ (c : Stored). same_hash hash c.0) cells ≡ o → ((d : RowView) → option_map (row_after H hashes) o ≡ Some (get_or rows i d)) → IsRowOf H cells hash rows (Some i)
      by None found e = absurd (none-some _ (e (row_after H hashes (hash, no_record))))
      by (Some c) found e = (c.1, ap (option_map (λ (x : Stored). x.1)) found, λ d. ap (λ (r : RowView). r.shown) (sym (same_Some (row_after H hashes c) (get_or rows i d) (e d))))

  -- ---- one reference more

  counted-more : (hash : Hash256) (c : Stored) → count_by (λ h. same_hash h c.0) (hashes ++ hash ∷ []) ≡ count_by (λ h. same_hash h c.0) hashes + cond {A = ℕ} (same_hash hash c.0) 1 0
  counted-more hash c = sum_by_push (λ (h : Hash256). cond {A = ℕ} (same_hash h c.0) 1 0) hashes hash

  row-other : (hash : Hash256) (c : Stored) → same_hash hash c.0 ≡ false → row_after H (hashes ++ hash ∷ []) c ≡ row_after H hashes c
  row-other hash c other =
      ap (λ (n : ℕ). let r : RowView = record { hash = c.0; stored = c.1.count; counted = n; shown = info_of_face H c.1.face } in r)
      (counted-more hash c ∙ ap (λ b. count_by (λ h. same_hash h c.0) hashes + cond {A = ℕ} b 1 0) other ∙ omega arith)

  row-same : (hash : Hash256) (c : Stored) → same_hash hash c.0 ≡ true → (r : RowView) → r ≡ row_after H hashes c → row_after H (hashes ++ hash ∷ []) c ≡ record r { counted = r.counted + 1 }
  row-same hash c same r is =
      ap (λ (n : ℕ). let r : RowView = record { hash = c.0; stored = c.1.count; counted = n; shown = info_of_face H c.1.face } in r)
      (counted-more hash c ∙ ap (λ b. count_by (λ h. same_hash h c.0) hashes + cond {A = ℕ} b 1 0) same)
      ∙ sym (ap (λ (x : RowView). let y : RowView = record x { counted = x.counted + 1 } in y) is)

  -- where no cell has the hash, nothing changes
  rows-other : (hash : Hash256) (cells : List Stored) → ((c : Stored) → Contains cells c → same_hash hash c.0 ≡ false) → rows_of H cells (hashes ++ hash ∷ []) ≡ rows_of H cells hashes
  rows-other hash [] other = refl
  rows-other hash (c ∷ cells) other =
      ap₂ (λ (r : RowView) rs. r ∷ rs) (row-other hash c (other c (Contains-first c cells))) (rows-other hash cells (λ x h. other x (Contains-later c cells x h)))

  none-same : (hash : Hash256) (cells : List Stored) → record_at cells hash ≡ None → (c : Stored) → Contains cells c → same_hash hash c.0 ≡ false
  none-same hash [] none c h = absurd (Contains-nil c h)
  none-same hash (x ∷ cells) none c h = by (same_hash hash x.0) refl none (Contains-cases x cells c h) (none-same hash cells)
    where
      by : (b : Bool) → same_hash hash x.0 ≡ b → option_map (λ (y : Stored). y.1) (cond b (Some x) (find (λ (y : Stored). same_hash hash y.0) cells)) ≡ None
          → (x ≡ c) ⊎ Contains cells c → (record_at cells hash ≡ None → (y : Stored) → Contains cells y → same_hash hash y.0 ≡ false) → same_hash hash c.0 ≡ false
      by true e none at rest = absurd (none-some _ (sym none))
      by false e none (inl same) rest = ap (λ (y : Stored). same_hash hash y.0) (sym same) ∙ e
      by false e none (inr later) rest = rest none c later

  pub absent-more : (cells : List Stored) (rows : List RowView) (hash : Hash256) → AreRowsOf H cells hashes rows → record_at cells hash ≡ None → AreRowsOf H cells (hashes ++ hash ∷ []) rows
  absent-more cells rows hash of none = record { are = of.are ∙ sym (rows-other hash cells (none-same hash cells none)); rising = of.rising }

  -- a row with one reference more
  abbrev pub raised : RowView → RowView
  raised r = record r { counted = r.counted + 1 }

  set-raised : (hash : Hash256) (cells : List Stored) → Rises row_cmp (rows_of H cells hashes) → (i : ℕ) (d : RowView) → i < length (rows_of H cells hashes) → (let r = get_or (rows_of H cells hashes) i d in r.hash) ≡ hash
      → set (rows_of H cells hashes) i (raised (get_or (rows_of H cells hashes) i d)) ≡ rows_of H cells (hashes ++ hash ∷ [])
  set-raised hash [] up i d within is = absurd (omega arith)
  set-raised hash (c ∷ cells) up zero d within is =
      ap₂ (λ (r : RowView) rs. r ∷ rs)
      (sym (row-same hash c ((same_hash-Decides hash c.0).1 (sym is)) (row_after H hashes c) refl))
      (sym (rows-other hash cells (λ x h. not_same hash x.0 (λ same. later x h same))))
    where
      later : (x : Stored) → Contains cells x → hash ≡ x.0 → ⊥
      later x h same =
          let less : hash_cmp c.0 x.0 ≡ Less = up.0 (row_after H hashes x) (Contains-mapped (row_after H hashes) cells x h) in
          let key = x.0 in
          not_before_itself key.0 (subst (λ (k : Hash256). hash_cmp k x.0 ≡ Less) (is ∙ same) less)
  set-raised hash (c ∷ cells) up (suc i) d within is =
      let rows = rows_of H cells hashes in
      let before : hash_cmp c.0 hash ≡ Less = subst (λ (h : Hash256). hash_cmp c.0 h ≡ Less) is (up.0 (get_or rows i d) (Contains-get_or rows i d (omega arith))) in
      ap₂ (λ (r : RowView) rs. r ∷ rs)
      (sym (row-other hash c (not_same hash c.0 (λ same. not_before_itself hash.0 (subst (λ (h : Hash256). hash_cmp h hash ≡ Less) (sym same) before)))))
      (set-raised hash cells up.1 i d (omega arith) is)

  hash-of_row : (rows : List RowView) (hash : Hash256) (r : RowView) → row_at rows hash ≡ Some r → (let x = r in x.hash) ≡ hash
  hash-of_row [] hash r e = absurd (none-some r e)
  hash-of_row (x ∷ rows) hash r e = by (same_hash hash x.hash) refl e (hash-of_row rows hash r)
    where
      by : (b : Bool) → same_hash hash x.hash ≡ b → cond b (Some x) (row_at rows hash) ≡ Some r → (row_at rows hash ≡ Some r → r.hash ≡ hash) → r.hash ≡ hash
      by true same is rest = ap (λ (y : RowView). y.hash) (sym (same_Some x r is)) ∙ sym ((same_hash-Decides hash x.hash).0 same)
      by false other is rest = rest is

  -- the rows with one raised are those after its reference
  pub raised-more : (cells : List Stored) (rows : List RowView) (hash : Hash256) (i : ℕ) (d new : RowView) → AreRowsOf H cells hashes rows → IsPlaceOf rows hash (Some i) → i < length rows
      → new ≡ raised (get_or rows i d) → AreRowsOf H cells (hashes ++ hash ∷ []) (set rows i new)
  raised-more cells rows hash i d new of place within is-new =
      let up = rises-from_AllPairs row_cmp rows of.rising in
      let key = hash-of_row rows hash (get_or rows i d) (place d) in
      let moved = subst (λ (rs : List RowView). Rises row_cmp rs → i < length rs → (let r = get_or rs i d in r.hash) ≡ hash → set rs i (raised (get_or rs i d)) ≡ rows_of H cells (hashes ++ hash ∷ []))
      (sym of.are) (λ up' within' key'. set-raised hash cells up' i d within' key') in
      let are : set rows i new ≡ rows_of H cells (hashes ++ hash ∷ []) = ap (set rows i) is-new ∙ moved up within key in
      record {
        are = are;
        rising = subst AreRising (sym are) (rising-after cells hash (subst AreRising of.are of.rising));
      }
    where
      rising-after : (cells : List Stored) (hash : Hash256) → AreRising (rows_of H cells hashes) → AreRising (rows_of H cells (hashes ++ hash ∷ []))
      rising-after cells hash rising =
          AllPairs-from_rises row_cmp (rows_of H cells (hashes ++ hash ∷ []))
          (rises-map (on (λ (c : Stored). c.0) hash_cmp) row_cmp (row_after H (hashes ++ hash ∷ [])) cells (λ x y in-x in-y less. less)
          (rises-unmap (on (λ (c : Stored). c.0) hash_cmp) row_cmp (row_after H hashes) cells (λ x y in-x in-y less. less) (rises-from_AllPairs row_cmp (rows_of H cells hashes) rising)))

-- rows of cells in order rise
pub rows-rising : (H : List ℕ → Hash256) (hashes : List Hash256) (cells : List Stored) → Rises (on (λ (c : Stored). let h = c.0 in h.0) byte_cmp) cells → AreRising (rows_of H cells hashes)
rows-rising H hashes cells up =
    AllPairs-from_rises row_cmp (rows_of H cells hashes)
    (rises-map (on (λ (c : Stored). let h = c.0 in h.0) byte_cmp) row_cmp (row_after H hashes) cells (λ x y in-x in-y less. less) up)

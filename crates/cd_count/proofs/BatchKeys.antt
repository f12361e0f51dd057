-- The rows of an ordered map have no hash twice, and neither has their batch.
use Rattle.std.proofs.Common.{◌≡◌, ℕ, Bool, true, false, cond, List, [], ◌∷◌, ◌++◌, Option, Some, None, refl, ap, ◌∙◌}
use Rattle.std.specs.Option.{option_map}
use Rattle.std.specs.List.{AllByRecursion, IsDistinct, cons_option}
use Rattle.std.specs.List.Sorted.{IsStrictlySortedBy}
use Rattle.std.specs.Map.{keys_of}
use Rattle.std.specs.Ordering.{nat_cmp, is_eq}
use Rattle.std.specs.Cmp.{eq_by_cmp_equiv}
use Rattle.std.specs.Cmp.Lexicographic.{slice_cmp, nat_list_cmp_total}
use Rattle.std.specs.declared.cmp.Ordering.{Ordering}
use Rattle.std.specs.declared.cmp.Ordering.TheVariants.{Less}
use Rattle.std.specs.FinMap as finite
use Rattle.std.proofs.lemmas.Map.Keys.{sorted_head, sorted_tail}
use Rattle.cd_base.specs.declared.hash.Hash256.{Hash256}
use Rattle.cd_cell.specs.FaceView.{FaceView}
use Rattle.cd_cell.specs.Export.{hash_cmp}
use Rattle.cd_keeper.specs.NoKeyTwice.{same_key}
use Rattle.cd_record.specs.RecordText.{record_text}
use Rattle.cd_nodes.specs.Plans as plans
use Rattle.cd_count.specs.declared.rows.Row.{Row}
use Rattle.cd_count.specs.Changes.{Rows}
use Rattle.cd_count.specs.PlanRows.{row_entry, rows_of}

-- ---- an ordered map has no hash twice

find-below : (h : Hash256) (es : List (Hash256 × Row)) → AllByRecursion (λ y. hash_cmp h y ≡ Less) (keys_of es) → finite.find (slice_cmp nat_cmp) h.0 (rows_of es) ≡ None
find-below h [] below = refl
find-below h (e ∷ es) below =
    ap (λ (r : Ordering). cond (is_eq r) (Some (row_entry e).1) (finite.find (slice_cmp nat_cmp) h.0 (rows_of es))) below.0 ∙ find-below h es below.1

pub once-sorted : (es : List (Hash256 × Row)) → IsStrictlySortedBy hash_cmp (keys_of es) → plans.HasNoKeyTwice (slice_cmp nat_cmp) (rows_of es)
once-sorted [] sorted = tt
once-sorted (e ∷ es) sorted =
    (find-below e.0 es (sorted_head hash_cmp e.0 (keys_of es) sorted), once-sorted es (sorted_tail hash_cmp e.0 (keys_of es) sorted))

-- ---- nor has a batch of rows

module _ {K : Type 0} where
  all-middle : (P : K → Type 0) (xs ys : List K) (k : K) → P k → AllByRecursion P (xs ++ ys) → AllByRecursion P (xs ++ k ∷ ys)
  all-middle P [] ys k here all = (here, all)
  all-middle P (x ∷ xs) ys k here all = (all.0, all-middle P xs ys k here all.1)

  distinct-middle : (same : K → K → Bool) → ((x y : K) → same x y ≡ same y x) → (xs ys : List K) (k : K)
      → AllByRecursion (λ y. same k y ≡ false) (xs ++ ys) → IsDistinct same (xs ++ ys) → IsDistinct same (xs ++ k ∷ ys)
  unfolding IsDistinct
  distinct-middle same symm [] ys k apart distinct = (apart, distinct)
  distinct-middle same symm (x ∷ xs) ys k apart distinct =
      (all-middle (λ y. same x y ≡ false) xs ys k (symm x k ∙ apart.0) distinct.0, distinct-middle same symm xs ys k apart.1 distinct.1)

abbrev keys_in : Rows → List (List ℕ)
keys_in rows = plans.drops record_text rows ++ keys_of (plans.puts record_text rows)

abbrev drop_there : Option (Option (List ℕ)) → List ℕ → List (List ℕ) → List (List ℕ)
drop_there c k drops = cons_option (cond (plans.is_drop c) (Some k) None) drops

abbrev put_there : Option (Option (List ℕ)) → List ℕ → List (List ℕ × List ℕ) → List (List ℕ × List ℕ)
put_there c k puts = cons_option (option_map (λ (x : List ℕ). (k, x)) (plans.put_of c)) puts

all-step : (P : List ℕ → Type 0) (c : Option (Option (List ℕ))) (k : List ℕ) (drops : List (List ℕ)) (puts : List (List ℕ × List ℕ)) → P k
    → AllByRecursion P (drops ++ keys_of puts) → AllByRecursion P (drop_there c k drops ++ keys_of (put_there c k puts))
all-step P None k drops puts here all = all
all-step P (Some None) k drops puts here all = (here, all)
all-step P (Some (Some x)) k drops puts here all = all-middle P drops (keys_of puts) k here all

all-keys : (P : List ℕ → Type 0) (rows : Rows) → AllByRecursion P (keys_of rows) → AllByRecursion P (keys_in rows)
all-keys P [] all = tt
all-keys P (e ∷ rows) all = all-step P (plans.change_at record_text (Some e.1)) e.0 (plans.drops record_text rows) (plans.puts record_text rows) all.0 (all-keys P rows all.1)

distinct-step : (c : Option (Option (List ℕ))) (k : List ℕ) (drops : List (List ℕ)) (puts : List (List ℕ × List ℕ))
    → AllByRecursion (λ y. same_key k y ≡ false) (drops ++ keys_of puts) → IsDistinct same_key (drops ++ keys_of puts)
    → IsDistinct same_key (drop_there c k drops ++ keys_of (put_there c k puts))
unfolding IsDistinct
distinct-step None k drops puts apart distinct = distinct
distinct-step (Some None) k drops puts apart distinct = (apart, distinct)
distinct-step (Some (Some x)) k drops puts apart distinct = distinct-middle same_key (eq_by_cmp_equiv nat_list_cmp_total).symm drops (keys_of puts) k apart distinct

apart-head : (b : Bool) (x : plans.Row FaceView) (r : Option (plans.Row FaceView)) → cond b (Some x) r ≡ None → (b ≡ false) × (r ≡ None)
apart-head true x r e = cc
apart-head false x r e = (refl, e)

apart-keys : (k : List ℕ) (rows : Rows) → finite.find (slice_cmp nat_cmp) k rows ≡ None → AllByRecursion (λ y. same_key k y ≡ false) (keys_of rows)
apart-keys k [] none = tt
apart-keys k (e ∷ rows) none =
    let h = apart-head (same_key k e.0) e.1 (finite.find (slice_cmp nat_cmp) k rows) none in
    (h.0, apart-keys k rows h.1)

pub distinct-keys : (rows : Rows) → plans.HasNoKeyTwice (slice_cmp nat_cmp) rows → IsDistinct same_key (keys_in rows)
unfolding IsDistinct
distinct-keys [] once = tt
distinct-keys (e ∷ rows) once =
    distinct-step (plans.change_at record_text (Some e.1)) e.0 (plans.drops record_text rows) (plans.puts record_text rows)
    (all-keys (λ y. same_key e.0 y ≡ false) rows (apart-keys e.0 rows once.0)) (distinct-keys rows once.1)

-- Rows that all have a property keep it as one is set or put.
use Rattle.std.proofs.Common.{◌≡◌, Bool, true, false, cond, List, [], ◌∷◌, Some, subst, sym, ◌+◌}
use Rattle.std.specs.Map.{lookup, set_value}
use Rattle.std.specs.Ordering.{match_ordering}
use Rattle.std.specs.declared.cmp.Ordering.TheVariants.{Less, Equal, Greater}
use Rattle.std.specs.BTreeMap as tree
use Rattle.cd_base.specs.declared.hash.Hash256.{Hash256}
use Rattle.cd_cell.specs.Export.{hash_cmp}
use Rattle.cd_count.specs.declared.rows.Row.{Row}
use Rattle.cd_count.specs.PlanRows.{row_of, rows_of}
use Rattle.cd_count.specs.PlanGiving.{IsRowGood, AreRowsGood}

module _ (test : Hash256 → Bool) where
  pub good-found : (es : List (Hash256 × Row)) (r : Row) → lookup test es ≡ Some r → AreRowsGood (rows_of es) → IsRowGood (row_of r)
  good-found [] r e all = cc
  good-found (x ∷ es) r e all =
      elim (test x.0) as (λ b. cond b (Some x.1) (lookup test es) ≡ Some r → IsRowGood (row_of r)) [
        | true ↦ λ s. let same : x.1 ≡ r = cc in subst (λ (y : Row). IsRowGood (row_of y)) same all.0
        | false ↦ λ s. good-found es r s all.1
      ] e

  pub good-set : (es : List (Hash256 × Row)) (r : Row) → IsRowGood (row_of r) → AreRowsGood (rows_of es) → AreRowsGood (rows_of (set_value test es r))
  good-set [] r here all = tt
  good-set (x ∷ es) r here all =
      elim (test x.0) as (λ b. AreRowsGood (rows_of (cond b ((x.0, r) ∷ es) (x ∷ set_value test es r)))) [
        | true ↦ (here, all.1)
        | false ↦ (all.0, good-set es r here all.1)
      ]

pub good-insert : (es : List (Hash256 × Row)) (h : Hash256) (r : Row) → IsRowGood (row_of r) → AreRowsGood (rows_of es) → AreRowsGood (rows_of (tree.insert_entry hash_cmp es h r))
good-insert [] h r here all = (here, tt)
good-insert (x ∷ es) h r here all =
    elim (hash_cmp h x.0) as (λ o. AreRowsGood (rows_of (match_ordering o ((h, r) ∷ x ∷ es) ((x.0, r) ∷ es) (x ∷ tree.insert_entry hash_cmp es h r)))) [
      | Less ↦ (here, all)
      | Equal ↦ (here, all.1)
      | Greater ↦ (all.0, good-insert es h r here all.1)
    ]

pub good-raise : (r r' : Row) → r' ≡ record r { count = r.count + 1 } → IsRowGood (row_of r) → IsRowGood (row_of r')
good-raise r r' is good = subst (λ (x : Row). IsRowGood (row_of x)) (sym is) (record { face = good.face; few = good.few })

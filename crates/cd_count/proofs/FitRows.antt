-- Rows of which records can be written stay so.
use Rattle.std.proofs.Common.{◌≡◌, ◌-◌, Bool, true, false, cond, List, [], ◌∷◌, Some, sym, subst, arith}
use Rattle.std.specs.Map.{lookup, set_value}
use Rattle.std.specs.Ordering.{match_ordering}
use Rattle.std.specs.declared.cmp.Ordering.TheVariants.{Less, Equal, Greater}
use Rattle.std.specs.BTreeMap as tree
use Rattle.cd_base.specs.declared.hash.Hash256.{Hash256}
use Rattle.cd_cell.specs.Export.{hash_cmp}
use Rattle.cd_count.specs.declared.rows.Row.{Row}
use Rattle.cd_count.specs.PlanRows.{row_of, rows_of, IsRowFit, AreRowsFit}

pub fit-lower : (r r' : Row) → r' ≡ record r { count = r.count - 1 } → IsRowFit (row_of r) → IsRowFit (row_of r')
fit-lower r r' is fit = subst (λ (x : Row). IsRowFit (row_of x)) (sym is) (record { face = fit.face; few = let f = fit.few in omega arith })

module _ (test : Hash256 → Bool) where
  pub fit-found : (es : List (Hash256 × Row)) (r : Row) → lookup test es ≡ Some r → AreRowsFit (rows_of es) → IsRowFit (row_of r)
  fit-found [] r e fit = cc
  fit-found (x ∷ es) r e fit =
      elim (test x.0) as (λ b. cond b (Some x.1) (lookup test es) ≡ Some r → IsRowFit (row_of r)) [
        | true ↦ λ s. let same : x.1 ≡ r = cc in subst (λ (y : Row). IsRowFit (row_of y)) same fit.0
        | false ↦ λ s. fit-found es r s fit.1
      ] e

  pub fit-set : (es : List (Hash256 × Row)) (r : Row) → IsRowFit (row_of r) → AreRowsFit (rows_of es) → AreRowsFit (rows_of (set_value test es r))
  fit-set [] r here fit = tt
  fit-set (x ∷ es) r here fit =
      elim (test x.0) as (λ b. AreRowsFit (rows_of (cond b ((x.0, r) ∷ es) (x ∷ set_value test es r)))) [
        | true ↦ (here, fit.1)
        | false ↦ (fit.0, fit-set es r here fit.1)
      ]

pub fit-insert : (es : List (Hash256 × Row)) (h : Hash256) (r : Row) → IsRowFit (row_of r) → AreRowsFit (rows_of es) → AreRowsFit (rows_of (tree.insert_entry hash_cmp es h r))
fit-insert [] h r here fit = (here, tt)
fit-insert (x ∷ es) h r here fit =
    elim (hash_cmp h x.0) as (λ o. AreRowsFit (rows_of (match_ordering o ((h, r) ∷ x ∷ es) ((x.0, r) ∷ es) (x ∷ tree.insert_entry hash_cmp es h r)))) [
      | Less ↦ (here, fit)
      | Equal ↦ (here, fit.1)
      | Greater ↦ (fit.0, fit-insert es h r here fit.1)
    ]

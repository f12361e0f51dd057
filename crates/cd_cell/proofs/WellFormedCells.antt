-- A cell whose children are well-formed is well-formed exactly where its face has no fault.
use Rattle.std.proofs.Common.{◌≡◌, ◌↔◌, ◌∙◌, ℕ, ◌≤◌, true, List, length, Some, None, Result, Ok, Err, IsOk, IsErr, sym, subst, ap, refl, arith}
use Rattle.std.proofs.lemmas.Bool.{true≢false}
use Rattle.std.specs.List.{All, AllByRecursion}
use Rattle.std.proofs.lemmas.List.Elements.{recursion_from_All}
use Rattle.cd_base.specs.declared.hash.Hash256.{Hash256}
use Rattle.cd_cell.specs.declared.cell_fault.CellFault.{CellFault}
use Rattle.cd_cell.specs.declared.kind.Kind.{Kind}
use Rattle.cd_cell.specs.FaceView.{FaceView}
use Rattle.cd_cell.specs.CellFaults.{face_fault}
use Rattle.cd_cell.specs.Fit.{IsFaceFit}
use Rattle.cd_cell.specs.Tree.{Tree, cell, Trees, no_trees, tree_and, list_of, children, face_of, IsWellFormed, AreWellFormed}
use Rattle.cd_cell.proofs.Subtrees.{length-infos_of}
use Rattle.cd_cell.proofs.FitLemmas.{face_fault-fit, fit_from_no_fault}

module _ (H : List ℕ → Hash256) where
  AreWellFormed_from : (ts : Trees) → AllByRecursion (IsWellFormed H) (list_of ts) → AreWellFormed H ts
  AreWellFormed_from no_trees all = tt
  AreWellFormed_from (tree_and t ts) all = (all.0, AreWellFormed_from ts all.1)

  pub IsWellFormed_from_face : (f : FaceView) (t : Tree) → face_of H t ≡ f → length f.bits ≤ 1023 → length f.kids ≤ 4 → face_fault f ≡ None → All (IsWellFormed H) (children t) → IsWellFormed H t
  IsWellFormed_from_face f (cell exotic bits ts) is long few none kids =
      let fit : IsFaceFit (face_of H (cell exotic bits ts)) = subst IsFaceFit (sym is) (fit_from_no_fault f none) in
      let own_bits : length bits ≤ 1023 = omega (arith, long, ap (λ (x : FaceView). length x.bits) is) in
      let own_kids : length (list_of ts) ≤ 4 = omega (arith, few, ap (λ (x : FaceView). length x.kids) is, length-infos_of H ts) in
      (own_bits, own_kids, fit, AreWellFormed_from ts (recursion_from_All (IsWellFormed H) (list_of ts) kids))

  fit_of_well_formed : (t : Tree) → IsWellFormed H t → IsFaceFit (face_of H t)
  fit_of_well_formed (cell exotic bits ts) good = good.2

  pub no_fault_of_well_formed : (f : FaceView) (t : Tree) → face_of H t ≡ f → IsWellFormed H t → face_fault f ≡ None
  no_fault_of_well_formed f t is good = ap face_fault (sym is) ∙ face_fault-fit (face_of H t) (fit_of_well_formed t good)

  pub passed : (f : FaceView) (t : Tree) → face_of H t ≡ f → length f.bits ≤ 1023 → length f.kids ≤ 4 → face_fault f ≡ None → All (IsWellFormed H) (children t) → (true ≡ true) ↔ IsWellFormed H t
  passed f t is long few none kids = (λ _. IsWellFormed_from_face f t is long few none kids, λ _. refl)

  pub refused : (f : FaceView) (r : Result Kind CellFault) (fault : CellFault) (t : Tree) → IsErr r → face_fault f ≡ Some fault → face_of H t ≡ f → IsOk r ↔ IsWellFormed H t
  refused f (Ok kind) fault t gone some is = absurd (true≢false (sym gone))
  refused f (Err e) fault t gone some is =
      (λ ok. absurd (true≢false (sym ok)), λ good. let none = no_fault_of_well_formed f t is good in absurd cc)

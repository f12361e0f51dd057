-- Laws of a state that a bag has whole: its root and all its cells are a valid value that stands for it.
use Rattle.std.proofs.Common.{◌≡◌, ℕ, ◌<◌, Bool, true, false, cond, nat_eq, List, [], ◌∷◌, length, get_or, map, slice_index, Option, None, Some, refl, ap, ap₂, sym, ◌∙◌, subst}
use Rattle.std.proofs.lemmas.Bool.Decides.{Decides-eqb}
use Rattle.std.proofs.lemmas.List.{get_or-map}
use Rattle.cd_base.specs.declared.hash.Hash256.{Hash256}
use Rattle.cd_cell.specs.declared.info.ChildInfo.{ChildInfo}
use Rattle.cd_cell.specs.declared.new_cell.NewCell.{NewCell}
use Rattle.cd_cell.specs.FaceView.{FaceView}
use Rattle.cd_cell.specs.Tree.{Tree, info_of, mask_of}
use Rattle.cd_cell.specs.Unfolding.{no_tree}
use Rattle.cd_cell.specs.Bags.{bag_cell, root_trees, IsBag}
use Rattle.cd_cell.specs.Export.{distinct_cells}
use Rattle.cd_cell.specs.Listings.{new_cell_of, IsValid, Fits, IsOldOrListed, tree_of}
use Rattle.cd_cell.proofs.ListedTrees.{IsValid-all_cells, all_cells-listed, Fits-all_cells, tree_of-all_cells}
use Rattle.cd_prepare.specs.declared.prepare_fault.PrepareFault.{PrepareFault}
use Rattle.cd_prepare.specs.declared.prepare_fault.PrepareFault.TheVariants.{Level}
use Rattle.cd_prepare.specs.States.{state_fault, IsWhole}
use Rattle.cd_prepare.proofs.ListLaws.{well_formed-root, clash_free-root}

-- the only tree is that of the first root
first-tree : (cells : List FaceView) (refs : List (List ℕ)) (roots : List ℕ) (state : Tree) → 0 < length roots → root_trees cells refs roots ≡ state ∷ [] → bag_cell cells refs (slice_index roots 0) ≡ state
first-tree cells refs roots state some only = sym (get_or-map (bag_cell cells refs) roots 0 0 no_tree some) ∙ ap (λ ts. get_or ts 0 no_tree) only

module _ (H : List ℕ → Hash256) (cells : List FaceView) (refs : List (List ℕ)) (roots : List ℕ) (bag : IsBag H cells refs roots) (root : ℕ) (in' : root < length cells) (info : ChildInfo) (listed : List NewCell) (shown : info ≡ info_of H (bag_cell cells refs root)) (all : listed ≡ map (new_cell_of H) (distinct_cells H (bag_cell cells refs root))) where
  abbrev t : Tree
  t = bag_cell cells refs root

  pub IsValid-prepared : info.mask ≡ 0 → IsValid H info listed
  IsValid-prepared plain =
      subst (λ i. IsValid H i listed) (sym shown)
      (subst (IsValid H (info_of H t)) (sym all)
      (IsValid-all_cells H t (well_formed-root H cells refs roots bag root in') (clash_free-root H cells refs roots bag root in') (ap (λ (i : ChildInfo). i.mask) (sym shown) ∙ plain)))

  whole-root : IsWhole H t info listed
  whole-root = record {
    root_is = shown;
    cells_are = all;
    fits =
        subst (λ i. Fits H i listed []) (sym shown)
        (subst (λ cs. Fits H (info_of H t) cs []) (sym all) (Fits-all_cells H t (well_formed-root H cells refs roots bag root in') (clash_free-root H cells refs roots bag root in')));
    stands =
        ap₂ (λ i cs. tree_of H i cs []) shown all
        ∙ tree_of-all_cells H t (well_formed-root H cells refs roots bag root in') (clash_free-root H cells refs roots bag root in');
    known = λ s in-t.
        subst (λ cs. IsOldOrListed H cs [] s) (sym all)
        (all_cells-listed H t (well_formed-root H cells refs roots bag root in') (clash_free-root H cells refs roots bag root in') s in-t);
  }

  pub IsWhole-prepared : (state : Tree) → root ≡ slice_index roots 0 → 0 < length roots → root_trees cells refs roots ≡ state ∷ [] → IsWhole H state info listed
  IsWhole-prepared state first some only =
      subst (λ s. IsWhole H s info listed) (ap (bag_cell cells refs) first ∙ first-tree cells refs roots state some only) whole-root

-- ---- trees without a fault

module _ (H : List ℕ → Hash256) where
  by-mask : (n : ℕ) (b : Bool) (fault : PrepareFault) → nat_eq n 0 ≡ b → cond {A = Option PrepareFault} b None (Some fault) ≡ None → n ≡ 0
  by-mask n true fault test e = (Decides-eqb n 0).0 test
  by-mask n false fault test e = absurd (let no : Some fault ≡ None = e in cc)

  -- they are one tree, of mask 0
  pub state-of : (trees : List Tree) → state_fault H trees ≡ None → (state : Tree) × (trees ≡ state ∷ []) × (mask_of H state ≡ 0)
  state-of [] e = absurd cc
  state-of (t ∷ []) e = (t, refl, by-mask (mask_of H t) (nat_eq (mask_of H t) 0) (Level (mask_of H t)) refl e)
  state-of (t ∷ u ∷ ts) e = absurd cc

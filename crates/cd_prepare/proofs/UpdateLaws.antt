-- Laws of prepared updates: which fault comes, and what the listed cells are over an old tree.
use Rattle.std.proofs.Common.{◌≡◌, ℕ, ◌<◌, List, length, get_or, map, AllPairs, Contains, Option, Some, None, Ok, Less, refl, ap, ap₂, sym, ◌∙◌, subst, inl, inr, ⊎_elim, ◌⊎◌, arith, [], ◌∷◌}
use Rattle.std.specs.Option.{option_or, option_map}
use Rattle.std.proofs.lemmas.List.{length-map, get_or-map}
use Rattle.std.proofs.lemmas.List.Elements.{Contains-append_left, Contains-append_right}
use Rattle.cd_base.specs.declared.hash.Hash256.{Hash256}
use Rattle.cd_cell.specs.declared.info.ChildInfo.{ChildInfo}
use Rattle.cd_cell.specs.declared.new_cell.NewCell.{NewCell}
use Rattle.cd_cell.specs.FaceView.{FaceView}
use Rattle.cd_cell.specs.Infos.{rep_of_info}
use Rattle.cd_cell.specs.Levels.{rep_of_face}
use Rattle.cd_cell.specs.Tree.{Tree, subtrees, info_of, face_of, rep_of}
use Rattle.cd_cell.specs.Unfolding.{no_tree}
use Rattle.cd_cell.specs.Equality.{same_info, same_info-Decides, same_face, same_face-Decides}
use Rattle.cd_cell.specs.Export.{export_cmp, sorted_distinct, AreDistinct}
use Rattle.cd_cell.specs.Listings.{listing_cmp, new_cell_of, old_cells, known_infos, info_of_new}
use Rattle.cd_cell.specs.Updates.{UpdateRefusal, foreign, first_foreign, found_in, grafted, half_of, known_of, hash_refusal, depth_refusal, half_refusal, graft_refusal, refusal_of, or_refused, applied}
use Rattle.cd_cell.proofs.Subtrees.{Contains-map, Contains-mapped, info_of-face_of}
use Rattle.cd_cell.proofs.Distinct.{same-rising, rises-from_AllPairs, AreDistinct-sorted_distinct}
use Rattle.cd_cell.proofs.ExportOrder.{export_cmp-total, export_cmp-ties}
use Rattle.cd_cell.proofs.ListedTrees.{listing_cmp-new}
use Rattle.cd_cell.proofs.Showing.{subtree-known}
use Rattle.cd_cell.specs.Clashes.{clash_of}
use Rattle.cd_update.specs.declared.pair_fault.PairFault.{PairFault}
use Rattle.cd_update.specs.declared.pair_fault.PairFault.TheVariants as pair
use Rattle.cd_update.specs.declared.graft_fault.GraftFault.{GraftFault}
use Rattle.cd_update.specs.declared.graft_fault.GraftFault.TheVariants as graft
use Rattle.cd_update.specs.EachOnce.{each_once}
use Rattle.cd_update.specs.Grafts.{foreign_hash}
use Rattle.cd_update.specs.Answers.{refusal_of_pairing}
use Rattle.cd_update.specs.Pairing.{met_infos, tree_refusal}
use Rattle.cd_update.proofs.EachOnceLaws.{Contains-each_once, Contains-each_once_cases}
use Rattle.cd_prepare.specs.declared.prepare_fault.PrepareFault.{PrepareFault}
use Rattle.cd_prepare.specs.declared.prepare_fault.PrepareFault.TheVariants.{Foreign, Memory, NewClash}
use Rattle.cd_prepare.specs.UpdateFaults.{of_pair, of_graft}
use Rattle.cd_prepare.specs.NewCells.{new_cell_with, AreListed}
use Rattle.cd_prepare.specs.Applied.{fault_of_refusal, clash_fault, fault_by, fault_over}
use Rattle.cd_prepare.proofs.NewLists.{AreClear, listing_cmp-total}

-- ---- which fault comes

or-regrouped : {A : Type 0} (o p q r : Option A) → option_or o (option_or p (option_or q r)) ≡ option_or (option_or o (option_or p q)) r
or-regrouped None None None r = refl
or-regrouped None None (Some x) r = refl
or-regrouped None (Some x) q r = refl
or-regrouped (Some x) p q r = refl

pair-fault : (fault : PairFault) (o : Option UpdateRefusal) → (fault ≡ pair.Memory) ⊎ (refusal_of_pairing fault ≡ o) → (of_pair fault ≡ Memory) ⊎ (option_map fault_of_refusal o ≡ Some (of_pair fault))
pair-fault (pair.OldHash stated real) o h = ⊎_elim (λ e. absurd (cc e)) (λ e. inr (ap (option_map fault_of_refusal) (sym e))) h
pair-fault (pair.OldDepth stated real) o h = ⊎_elim (λ e. absurd (cc e)) (λ e. inr (ap (option_map fault_of_refusal) (sym e))) h
pair-fault (pair.OldHalf hash stored shown) o h = ⊎_elim (λ e. absurd (cc e)) (λ e. inr (ap (option_map fault_of_refusal) (sym e))) h
pair-fault pair.Memory o h = inl refl

-- a fault of grafting has the hash of the first hidden cell that isn't known
graft-fault : (o : Option Hash256) (fault : GraftFault) → (fault ≡ graft.Memory) ⊎ (option_map graft.Foreign o ≡ Some fault) → (of_graft fault ≡ Memory) ⊎ (option_map (λ hash. Foreign hash) o ≡ Some (of_graft fault))
graft-fault o fault (inl e) = inl (ap of_graft e)
graft-fault None fault (inr e) = absurd (cc e)
graft-fault (Some hash) fault (inr e) = let same : graft.Foreign hash ≡ fault = cc e in inr (ap (λ f. Some (of_graft f)) same)

first-mapped : (o r : Option UpdateRefusal) (later : Option PrepareFault) (fault : PrepareFault) → option_map fault_of_refusal o ≡ Some fault → option_or (option_map fault_of_refusal (option_or o r)) later ≡ Some fault
first-mapped None r later fault e = absurd (cc e)
first-mapped (Some x) r later fault e = e

foreign-mapped : (o : Option Hash256) (later : Option PrepareFault) (fault : PrepareFault) → option_map (λ hash. Foreign hash) o ≡ Some fault → option_or (option_map fault_of_refusal (option_map (λ x. foreign x) o)) later ≡ Some fault
foreign-mapped None later fault e = absurd (cc e)
foreign-mapped (Some hash) later fault e = e

-- what an old cell shows is known
pub old-shown : (H : List ℕ → Hash256) (cells : List NewCell) (olds : List Tree) (s : Tree) → Contains (old_cells olds) s → Contains (known_infos H cells olds) (info_of H s)
old-shown H cells olds s h =
    Contains-append_right (map (info_of_new H) cells) (map (info_of H) (old_cells olds)) (info_of H s) (Contains-mapped (info_of H) (old_cells olds) s h)

module _ (H : List ℕ → Hash256) (u t : Tree) where
  regrouped : refusal_of H u t ≡ option_or (tree_refusal H u t) (graft_refusal H u t)
  regrouped = or-regrouped (hash_refusal H u t) (depth_refusal H u t) (half_refusal H u t) (graft_refusal H u t)

  module _ (paired : tree_refusal H u t ≡ None) where
    refused : refusal_of H u t ≡ graft_refusal H u t
    refused = regrouped ∙ ap (λ o. option_or o (graft_refusal H u t)) paired

    module _ (none : first_foreign H (found_in H (known_of H u t)) (half_of u 1) 0 ≡ None) where
      pub no-refusal : refusal_of H u t ≡ None
      no-refusal = refused ∙ ap (option_map (λ x. foreign x)) none

      pub applied-is : applied H u t ≡ Ok (grafted H (found_in H (known_of H u t)) (half_of u 1) 0)
      applied-is = ap (λ o. or_refused o (grafted H (found_in H (known_of H u t)) (half_of u 1) 0)) no-refusal

  -- what is known of the old tree is what its cells show
  pub known-cell : (known : List ChildInfo) → known ≡ each_once same_info (map (info_of H) (known_of H u t)) → (k : ChildInfo) → Contains known k → (s : Tree) × Contains (subtrees t) s × (info_of H s ≡ k)
  known-cell known are k h =
      let met = Contains-map (info_of H) (known_of H u t) k (Contains-each_once_cases same_info same_info-Decides (map (info_of H) (known_of H u t)) k (subst (λ ks. Contains ks k) are h)) in
      (met.0, subtree-known H (half_of u 0) t 0 met.0 met.1, met.2)

  pub known-old : (known : List ChildInfo) → known ≡ each_once same_info (map (info_of H) (known_of H u t)) → (cells : List NewCell) (k : ChildInfo) → Contains known k → Contains (known_infos H cells (t ∷ [])) k
  known-old known are cells k h =
      let cell = known-cell known are k h in
      subst (Contains (known_infos H cells (t ∷ []))) cell.2 (old-shown H cells (t ∷ []) cell.0 (Contains-append_left (subtrees t) [] cell.0 cell.1))

  -- ---- by the faces that are listed

  module _ (new : List FaceView) where
    pub answer-pair : (fault : PairFault) (answer : PrepareFault) → answer ≡ of_pair fault → (fault ≡ pair.Memory) ⊎ (refusal_of_pairing fault ≡ tree_refusal H u t) → (answer ≡ Memory) ⊎ (fault_over H u t new ≡ Some answer)
    answer-pair fault answer is h =
        subst (λ a. (a ≡ Memory) ⊎ (fault_over H u t new ≡ Some a)) (sym is)
        (⊎_elim
        inl
        (λ e.
        inr
        (ap (λ o. option_or (option_map fault_of_refusal o) (clash_fault H new)) regrouped
        ∙ first-mapped (tree_refusal H u t) (graft_refusal H u t) (clash_fault H new) (of_pair fault) e))
        (pair-fault fault (tree_refusal H u t) h))

    module _ (paired : tree_refusal H u t ≡ None) where
      pub answer-graft : (fault : GraftFault) (answer : PrepareFault) → answer ≡ of_graft fault → (fault ≡ graft.Memory) ⊎ (option_map graft.Foreign (first_foreign H (found_in H (known_of H u t)) (half_of u 1) 0) ≡ Some fault) → (answer ≡ Memory) ⊎ (fault_over H u t new ≡ Some answer)
      answer-graft fault answer is h =
          let hash = first_foreign H (found_in H (known_of H u t)) (half_of u 1) 0 in
          subst (λ a. (a ≡ Memory) ⊎ (fault_over H u t new ≡ Some a)) (sym is)
          (⊎_elim
          inl
          (λ e. inr (ap (λ o. option_or (option_map fault_of_refusal o) (clash_fault H new)) (refused paired) ∙ foreign-mapped hash (clash_fault H new) (of_graft fault) e))
          (graft-fault hash fault h))

      module _ (none : first_foreign H (found_in H (known_of H u t)) (half_of u 1) 0 ≡ None) (faces : List FaceView) (are : faces ≡ new) where
        fault-is : fault_over H u t new ≡ clash_fault H faces
        fault-is = ap (λ o. option_or (option_map fault_of_refusal o) (clash_fault H new)) (no-refusal paired none) ∙ ap (clash_fault H) (sym are)

        pub answer-none : clash_fault H faces ≡ None → fault_over H u t new ≡ None
        answer-none e = fault-is ∙ e

        pub answer-clash : (fault : PrepareFault) → (fault ≡ Memory) ⊎ (clash_fault H faces ≡ Some fault) → (fault ≡ Memory) ⊎ (fault_over H u t new ≡ Some fault)
        answer-clash fault h = ⊎_elim inl (λ e. inr (fault-is ∙ e)) h

-- ---- which fault comes by the faces alone

first-some : {A : Type 0} (o p : Option A) (x : A) → o ≡ Some x → option_or o p ≡ Some x
first-some o p x e = ap (λ q. option_or q p) e

-- refused is what pairing refuses by the faces, and listed are the faces that are
module _ (H : List ℕ → Hash256) (u : Tree) (refused : Option UpdateRefusal) (listed : List FaceView) where
  pub refused-pair : (fault : PairFault) (answer : PrepareFault) → answer ≡ of_pair fault → (fault ≡ pair.Memory) ⊎ (refusal_of_pairing fault ≡ refused) → (answer ≡ Memory) ⊎ (fault_by H u refused listed ≡ Some answer)
  refused-pair fault answer is h =
      subst (λ a. (a ≡ Memory) ⊎ (fault_by H u refused listed ≡ Some a)) (sym is)
      (⊎_elim inl (λ e. inr (first-some (option_map fault_of_refusal refused) _ (of_pair fault) e)) (pair-fault fault refused h))

  module _ (paired : refused ≡ None) (known : List ChildInfo) (met : known ≡ met_infos H (half_of u 0)) where
    unpaired : fault_by H u refused listed ≡ option_or (option_map (λ hash. Foreign hash) (foreign_hash H known (half_of u 1))) (clash_fault H listed)
    unpaired =
        ap (λ o. option_or (option_map fault_of_refusal o) (option_or (option_map (λ hash. Foreign hash) (foreign_hash H (met_infos H (half_of u 0)) (half_of u 1))) (clash_fault H listed))) paired
        ∙ ap (λ ks. option_or (option_map (λ hash. Foreign hash) (foreign_hash H ks (half_of u 1))) (clash_fault H listed)) (sym met)

    pub refused-graft : (fault : GraftFault) (answer : PrepareFault) → answer ≡ of_graft fault → (fault ≡ graft.Memory) ⊎ (option_map graft.Foreign (foreign_hash H known (half_of u 1)) ≡ Some fault) → (answer ≡ Memory) ⊎ (fault_by H u refused listed ≡ Some answer)
    refused-graft fault answer is h =
        subst (λ a. (a ≡ Memory) ⊎ (fault_by H u refused listed ≡ Some a)) (sym is)
        (⊎_elim
        inl
        (λ e. inr (unpaired ∙ first-some (option_map (λ hash. Foreign hash) (foreign_hash H known (half_of u 1))) _ (of_graft fault) e))
        (graft-fault (foreign_hash H known (half_of u 1)) fault h))

    module _ (none : foreign_hash H known (half_of u 1) ≡ None) (faces : List FaceView) (are : faces ≡ listed) where
      clash-is : fault_by H u refused listed ≡ clash_fault H faces
      clash-is = unpaired ∙ ap (λ o. option_or (option_map (λ hash. Foreign hash) o) (clash_fault H listed)) none ∙ ap (clash_fault H) (sym are)

      pub refused-none : clash_fault H faces ≡ None → fault_by H u refused listed ≡ None
      refused-none e = clash-is ∙ e

      pub refused-clash : (fault : PrepareFault) → (fault ≡ Memory) ⊎ (clash_fault H faces ≡ Some fault) → (fault ≡ Memory) ⊎ (fault_by H u refused listed ≡ Some fault)
      refused-clash fault h = ⊎_elim inl (λ e. inr (clash-is ∙ e)) h

-- without a clash there is no fault
pub clash-none : (H : List ℕ → Hash256) (faces : List FaceView) → clash_fault H faces ≡ None → clash_of H faces ≡ None
clash-none H faces e = unmapped (clash_of H faces) e
  where
    unmapped : (o : Option Hash256) → option_map (λ hash. NewClash hash) o ≡ None → o ≡ None
    unmapped None e = refl
    unmapped (Some hash) e = absurd (cc e)

-- ---- the listed cells are the new ones

-- faces are those of some trees
pub record AreFacesOf (H : List ℕ → Hash256) (own : List Tree) (faces : List FaceView) : Type 0 where
  pub there : (c : Tree) → Contains own c → Contains faces (face_of H c)
  pub back : (f : FaceView) → Contains faces f → (c : Tree) × Contains own c × (face_of H c ≡ f)

pub each-face : (H : List ℕ → Hash256) (own : List Tree) (faces : List FaceView) → faces ≡ each_once same_face (map (face_of H) own) → AreFacesOf H own faces
each-face H own faces are = record {
  there = λ c h.
      subst (λ fs. Contains fs (face_of H c)) (sym are)
      (Contains-each_once same_face same_face-Decides (map (face_of H) own) (face_of H c) (Contains-mapped (face_of H) own c h));
  back = λ f h. Contains-map (face_of H) own f (Contains-each_once_cases same_face same_face-Decides (map (face_of H) own) f (subst (λ fs. Contains fs f) are h));
}

module _ (H : List ℕ → Hash256) (own : List Tree) (faces : List FaceView) (are : AreFacesOf H own faces) (clear : AreClear H faces) (cells : List NewCell) (listed : AreListed H faces cells) where
  abbrev sorted : List Tree
  sorted = sorted_distinct (export_cmp H) own

  distinct : AreDistinct (export_cmp H) own sorted
  distinct = AreDistinct-sorted_distinct (export_cmp H) (export_cmp-total H) own

  rep-face : (c : Tree) → rep_of H c ≡ rep_of_face H (face_of H c)
  rep-face c = ap rep_of_info (info_of-face_of H c)

  cell-face : (c : Tree) → new_cell_of H c ≡ new_cell_with H (face_of H c)
  cell-face c = ap (λ x. let n : NewCell = record { hash = x; face = face_of H c } in n) (rep-face c)

  ordered-new : AllPairs (λ a b. listing_cmp a b ≡ Less) (map (new_cell_of H) sorted)
  ordered-new i j d before in-j =
      let in-trees : j < length sorted = omega (arith, length-map sorted (new_cell_of H)) in
      ap₂ listing_cmp (get_or-map (new_cell_of H) sorted i no_tree d (omega arith)) (get_or-map (new_cell_of H) sorted j no_tree d in-trees)
      ∙ listing_cmp-new H (get_or sorted i no_tree) (get_or sorted j no_tree)
      ∙ distinct.ordered i j no_tree before in-trees

  into : (c : NewCell) → Contains cells c → Contains (map (new_cell_of H) sorted) c
  into c h =
      let face = listed.within c h in
      let tree = are.back face.0 face.1 in
      let tie = distinct.whole tree.0 tree.1 in
      let reps : rep_of_face H (face_of H tie.0) ≡ rep_of_face H face.0 =
      sym (rep-face tie.0) ∙ sym (export_cmp-ties H tree.0 tie.0 tie.2) ∙ rep-face tree.0 ∙ ap (rep_of_face H) tree.2
      in
      let same = clear (face_of H tie.0) face.0 (are.there tie.0 (distinct.within tie.0 tie.1)) face.1 reps in
      subst (Contains (map (new_cell_of H) sorted)) (cell-face tie.0 ∙ ap (new_cell_with H) same ∙ sym face.2) (Contains-mapped (new_cell_of H) sorted tie.0 tie.1)

  back : (c : NewCell) → Contains (map (new_cell_of H) sorted) c → Contains cells c
  back c h =
      let tree = Contains-map (new_cell_of H) sorted c h in
      subst (Contains cells) (sym (cell-face tree.0) ∙ tree.2) (listed.whole (face_of H tree.0) (are.there tree.0 (distinct.within tree.0 tree.1)))

  pub listed-new_cells : cells ≡ map (new_cell_of H) (sorted_distinct (export_cmp H) own)
  listed-new_cells =
      same-rising listing_cmp listing_cmp-total cells (map (new_cell_of H) sorted) (rises-from_AllPairs listing_cmp cells listed.ordered)
      (rises-from_AllPairs listing_cmp (map (new_cell_of H) sorted) ordered-new) into back

  -- each of the trees has its face listed
  pub own-listed : (s : Tree) → Contains own s → (c : NewCell) × Contains cells c × (c.face ≡ face_of H s)
  own-listed s h = (new_cell_with H (face_of H s), listed.whole (face_of H s) (are.there s h), refl)

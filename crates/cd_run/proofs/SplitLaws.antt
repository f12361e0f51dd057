-- What preparing an update over the joined state of two pins comes to.
use Rattle.std.proofs.Common.{◌≡◌, ◌⊎◌, ⊎_elim, ℕ, ◌≤◌, Bool, true, false, List, [], ◌∷◌, Option, Some, None, Err, refl, sym, ap, ap₂, subst, ◌∙◌, arith}
use Rattle.std.specs.Prelude.{IfSome, if◌then◌else◌, replicate, ◌%◌, slice_index, nat_lt, Contains}
use Rattle.std.specs.Option.{option_map, option_and_then}
use Rattle.std.proofs.lemmas.Bool.{ltb-false}
use Rattle.cd_base.specs.declared.hash.Hash256.{Hash256}
use Rattle.cd_cell.specs.declared.info.ChildInfo.{ChildInfo}
use Rattle.cd_cell.specs.declared.limits.TheConstants.{GREATEST_DEPTH}
use Rattle.cd_cell.specs.FaceView.{FaceView}
use Rattle.cd_cell.specs.Masks.{is_significant}
use Rattle.cd_cell.specs.Infos.{info_hash, info_depth, rep_of_info, height_of_info}
use Rattle.cd_cell.specs.Levels.{stated_hash, info_of_face, mask_of_face, hash_of_face, plain_hash}
use Rattle.cd_cell.specs.PreparedView.{PreparedView}
use Rattle.cd_cell.specs.Tree.{Tree, subtrees, face_of}
use Rattle.cd_cell.specs.Joined.{joined_face}
use Rattle.cd_cell.proofs.Subtrees.{Contains-cases, Contains-nil}
use Rattle.cd_cell.proofs.JoinedTrees.{mask-joined_face, depth-joined_face, depths-joined_face}
use Rattle.cd_event.specs.declared.names.Who.{Who}
use Rattle.cd_event.specs.declared.entry.Entry.{Entry}
use Rattle.cd_event.specs.Pins.{Named, IsPlain, MayMerge, IsOfOther, joined_root}
use Rattle.cd_event.specs.Turning.{AreFacesOf, AreHeldFaces}
use Rattle.cd_update.specs.Pairing.{upto, beside, wanted_hashes_below}
use Rattle.cd_update.specs.PairingBelow.{misfit_under, refusal_below}
use Rattle.cd_cell.specs.Updates.{old_half, half_of}
use Rattle.cd_cell.specs.CellFaults.{stated_depth_of_kid}
use Rattle.cd_update.proofs.EachOnceLaws.{Contains-flat_map_cases}
use Rattle.cd_prepare.specs.declared.prepare_fault.PrepareFault.{PrepareFault}
use Rattle.cd_prepare.specs.declared.prepare_fault.PrepareFault.TheVariants as prepare
use Rattle.cd_prepare.specs.Applied.{stated_old, stated_new, fault_by}
use Rattle.cd_prepare.specs.Merged.{split_of, split_depth, deep_fault, merged_faces, split_fault, merged_fault, AreOfBoth, IsMergeApplied}
use Rattle.cd_run.specs.declared.merged_task.Parents.{Parents}
use Rattle.cd_run.specs.declared.outcome.TaskRefusal.{TaskRefusal}
use Rattle.cd_run.specs.Words.{prepare_word}
use Rattle.cd_run.specs.Ends.{stopped}
use Rattle.cd_run.specs.Prepared.{IsMergePrepared, IsMergeUnprepared}
use Rattle.cd_run.specs.Runs.{not_joined}
use Rattle.cd_run.specs.Merging.{named_as}
use Rattle.cd_run.specs.Joining.{ArePinned, KeepsFaces, OnlyBoth, PreparesBoth}
use Rattle.cd_run.proofs.PreparingLaws.{by_word}
use Rattle.cd_run.proofs.FaceLaws.{beside_found}
use Rattle.cd_run.proofs.UpdateLaws.{none_of_two, no_refusal, stated_root, root_hash, state_found}
use Rattle.cd_run.proofs.MergeLaws.{some_at}

-- ---- the joined cell of two plain roots

-- a root of mask 0 shows what it shows at level 0
plain_upto : (root : ChildInfo) → IsPlain root → upto 0 root ≡ root
plain_upto root plain =
    let h = root_hash root plain in
    let d : info_depth root 0 ≡ height_of_info root = ap (λ depths. slice_index depths 0) plain.depths in
    let m : 0 ≡ root.mask = sym plain.mask in
    let low : root.mask % 1 ≡ 0 = omega arith in
    let shown : upto 0 root ≡ record { mask = 0; hashes = replicate 4 (rep_of_info root); depths = replicate 4 (height_of_info root) } =
    (λ i. record { mask = low i; hashes = h i ∷ h i ∷ h i ∷ h i ∷ []; depths = d i ∷ d i ∷ d i ∷ d i ∷ [] }) in
    shown ∙ (λ i. record { mask = m i; hashes = sym plain.hashes i; depths = sym plain.depths i })

plain_split : (left right : ChildInfo) → IsPlain left → IsPlain right → split_of left right ≡ joined_face left right
plain_split left right l r = ap₂ joined_face (plain_upto left l) (plain_upto right r)

if_off : {A : Type 0} (b : Bool) (x y : A) → b ≡ false → (if b then x else y) ≡ y
if_off true x y off = absurd (cc off)
if_off false x y off = refl

module _ (H : List ℕ → Hash256) (left right : ChildInfo) (l : IsPlain left) (r : IsPlain right) where
  no_mask : mask_of_face (joined_face left right) ≡ 0
  no_mask = mask-joined_face left right l.mask r.mask

  off : (k : ℕ) → is_significant 0 k ≡ false → is_significant (mask_of_face (joined_face left right)) k ≡ false
  off k clear = subst (λ m. is_significant m k ≡ false) (sym no_mask) clear

  one_hash : hash_of_face H (joined_face left right) 3 ≡ hash_of_face H (joined_face left right) 0
  unfolding plain_hash
  one_hash = if_off _ _ _ (off 3 refl) ∙ (if_off _ _ _ (off 2 refl) ∙ if_off _ _ _ (off 1 refl))

  -- the joined cell isn't too deep
  shallow : deep_fault left right ≡ None → height_of_info (joined_root H left right) ≤ GREATEST_DEPTH
  shallow none = by (nat_lt GREATEST_DEPTH (split_depth left right)) refl none
    where
      by : (b : Bool) → nat_lt GREATEST_DEPTH (split_depth left right) ≡ b → (if b then Some (prepare.SplitDeep (split_depth left right)) else None) ≡ None → height_of_info (joined_root H left right) ≤ GREATEST_DEPTH
      by true e none = absurd (cc none)
      by false e none =
          let low = ltb-false GREATEST_DEPTH (split_depth left right) e in
          let at0 = depth-joined_face left right in
          let at3 = depths-joined_face left right l.mask r.mask 3 (omega arith) in
          omega (arith, low, at0, at3)

  -- the update states its hash
  states_joined : (u : Tree) (faces : List (Option FaceView)) → split_fault H u left right faces ≡ None → stated_old H u ≡ rep_of_info (joined_root H left right)
  states_joined u faces none =
      let split = split_of left right in
      let shown = info_of_face H split in
      let paired = refusal_below H u shown split faces in
      let listed = merged_faces H u left right in
      let rest : fault_by H u paired listed ≡ None = (none_of_two (deep_fault left right) (fault_by H u paired listed) none).1 in
      let stated : stated_old H u ≡ info_hash shown 0 =
      stated_root (stated_hash (face_of H u) 1) (stated_depth_of_kid (face_of H u) 0) shown
      (option_map old_half (misfit_under H split (beside (wanted_hashes_below H u) faces) (half_of u 0))) (no_refusal H u paired listed rest) in
      stated ∙ (ap (λ f. hash_of_face H f 0) (plain_split left right l r) ∙ sym one_hash)

-- ---- two pins

kept_faces : (digest : List ℕ → Hash256) (t : Tree) (hs : List Hash256) (fs gs : List (Option FaceView)) → KeepsFaces fs gs → AreFacesOf digest t hs fs → AreFacesOf digest t hs gs
kept_faces digest t hs fs gs keeps are k s in' at = keeps k (face_of digest s) (are k s in' at)

module _ {H : Type 0} (digest : List ℕ → Hash256) (made : List (Entry H)) (pins : List Named) (parents : Parents) (u : Tree) (hashes : List Hash256) (found faces : List (Option FaceView))
    (asked : hashes ≡ wanted_hashes_below digest u) (held : AreHeldFaces digest made pins hashes found) (keeps : KeepsFaces found faces) where
  -- the faces are those of both states
  are_of_both : (a b : Tree) → ArePinned digest made pins parents (Some a) (Some b) → AreOfBoth digest u a b parents.left.root parents.right.root faces
  are_of_both a b are =
      let wanted = wanted_hashes_below digest u in
      let left = are.left.state in
      let right = are.right.state in
      let of_left = kept_faces digest a hashes found faces keeps (held parents.left.pin a (record { live = are.left.live; told = state_found pins (named_as parents.left (Some a)) are.left.found })) in
      let of_right = kept_faces digest b hashes found faces keeps (held parents.right.pin b (record { live = are.right.live; told = state_found pins (named_as parents.right (Some b)) are.right.found })) in
      record {
        well_left = left.0.good;
        well_right = right.0.good;
        plain_left = left.0.plain;
        plain_right = right.0.plain;
        left_is = sym left.1;
        right_is = sym right.1;
        found = λ s in' among.
            let at = Contains-flat_map_cases subtrees (a ∷ b ∷ []) s in' in
            ⊎_elim
            (λ (first : a ≡ at.0). beside_found digest a wanted faces (subst (λ hs. AreFacesOf digest a hs faces) asked of_left) s (subst (λ t. Contains (subtrees t) s) (sym first) at.2) among)
            (λ (later : Contains (b ∷ []) at.0).
            ⊎_elim
            (λ (second : b ≡ at.0). beside_found digest b wanted faces (subst (λ hs. AreFacesOf digest b hs faces) asked of_right) s (subst (λ t. Contains (subtrees t) s) (sym second) at.2) among)
            (λ (none : Contains [] at.0). absurd (Contains-nil at.0 none))
            (Contains-cases b [] at.0 later))
            (Contains-cases a (b ∷ []) at.0 at.1);
      }

  pub both_prepared_is : (a b : Option Tree) (p : PreparedView) → ArePinned digest made pins parents a b → p.old ≡ Some (stated_old digest u) → rep_of_info p.root ≡ stated_new digest u
      → split_fault digest u parents.left.root parents.right.root faces ≡ None
      → ((a b : Tree) → AreOfBoth digest u a b parents.left.root parents.right.root faces → merged_fault digest u a b ≡ None)
      → ((a b : Tree) → AreOfBoth digest u a b parents.left.root parents.right.root faces → IsMergeApplied digest u a b p.root p.cells)
      → IsMergePrepared digest (named_as parents.left a) (named_as parents.right b) u p
  both_prepared_is a b p are old rep none exact applied =
      let stated = states_joined digest parents.left.root parents.right.root are.left.plain are.right.plain u faces none in
      record {
        over = record { over = old ∙ ap (λ (hash : Hash256). Some hash) stated; stated = stated; new = rep };
        faces = faces;
        no_fault = none;
        applied = by a b are;
      }
    where
      by : (a b : Option Tree) → ArePinned digest made pins parents a b
          → IfSome a (λ x. IfSome b (λ y. (merged_fault digest u x y ≡ None) × IsMergeApplied digest u x y p.root p.cells))
      by None b are = tt
      by (Some x) None are = tt
      by (Some x) (Some y) are = (exact x y (are_of_both x y are), applied x y (are_of_both x y are))

  module _ (fault : PrepareFault) (refused : (fault ≡ prepare.Memory) ⊎ (split_fault digest u parents.left.root parents.right.root faces ≡ Some fault))
      (exact : (a b : Tree) → AreOfBoth digest u a b parents.left.root parents.right.root faces → (fault ≡ prepare.Memory) ⊎ (merged_fault digest u a b ≡ Some fault)) where
    its_word : (why : TaskRefusal) → prepare_word fault ≡ Some why → (o : Option PrepareFault) → (fault ≡ prepare.Memory) ⊎ (o ≡ Some fault) → option_and_then prepare_word o ≡ Some why
    its_word why word o is = ⊎_elim
        (λ (memory : fault ≡ prepare.Memory). let never : None ≡ Some why = sym (ap prepare_word memory) ∙ word in absurd (cc never))
        (λ (e : o ≡ Some fault). ap (option_and_then prepare_word) e ∙ word)
        is

    both_not_prepared : (a b : Option Tree) → ArePinned digest made pins parents a b → (why : TaskRefusal) → prepare_word fault ≡ Some why
        → IsMergeUnprepared digest (named_as parents.left a) (named_as parents.right b) u why
    both_not_prepared a b are why word = record { faces = faces; by_faces = its_word why word _ refused; by_trees = by a b are }
      where
        by : (a b : Option Tree) → ArePinned digest made pins parents a b → IfSome a (λ x. IfSome b (λ y. option_and_then prepare_word (merged_fault digest u x y) ≡ Some why))
        by None b are = tt
        by (Some x) None are = tt
        by (Some x) (Some y) are = its_word why word _ (exact x y (are_of_both x y are))

    pub both_unprepared_is : (a b : Option Tree) → ArePinned digest made pins parents a b → (who : Who) (es : List (Entry H))
        → OnlyBoth digest who (named_as parents.left a) (named_as parents.right b) u es
        → PreparesBoth digest who (named_as parents.left a) (named_as parents.right b) u (Err (stopped (prepare_word fault))) es
    both_unprepared_is a b are who es only =
        by_word (λ s. PreparesBoth digest who (named_as parents.left a) (named_as parents.right b) u (Err s) es) (prepare_word fault) only
        (λ why word id tops. not_joined only.0 only.1.0 (both_not_prepared a b are why word) only.1.1)

-- ---- what is prepared is merged with both pins

module _ {H : Type 0} (digest : List ℕ → Hash256) (made : List (Entry H)) (pins : List Named) (parents : Parents) (a b : Option Tree) (u : Tree) (p : PreparedView)
    (are : ArePinned digest made pins parents a b) (prepared : IsMergePrepared digest (named_as parents.left a) (named_as parents.right b) u p) where
  pub may_join : MayMerge digest made pins parents.left.pin (Some parents.right.pin) p
  may_join s t holds also names =
      let left : a ≡ Some s = sym (state_found pins (named_as parents.left a) are.left.found) ∙ holds.told in
      let right : b ≡ Some t = sym (state_found pins (named_as parents.right b) are.right.found) ∙ also.told in
      let applied = some_at b t _ right (some_at a s _ left prepared.applied) in
      applied.1.fits

  pub not_of_other : IsOfOther digest pins parents.left.pin (Some parents.right.pin) p.old → ⊥
  not_of_other other =
      other (named_as parents.left a) (named_as parents.right b) are.left.found are.right.found
      (shallow digest parents.left.root parents.right.root are.left.plain are.right.plain ((none_of_two (deep_fault parents.left.root parents.right.root) _ prepared.no_fault).0)) prepared.over.over

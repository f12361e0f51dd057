-- What preparing an update over a pin's state comes to.
use Rattle.std.proofs.Common.{◌≡◌, ◌⊎◌, ⊎_elim, ℕ, ◌==◌, Bool, true, false, List, Option, Some, None, Err, refl, sym, ap, subst, ◌∙◌}
use Rattle.std.specs.Prelude.{IfSome, slice_index_or}
use Rattle.std.specs.Option.{option_or, option_map, option_and_then}
use Rattle.cd_base.specs.declared.hash.Hash256.{Hash256}
use Rattle.cd_cell.specs.declared.info.ChildInfo.{ChildInfo}
use Rattle.cd_cell.specs.FaceView.{FaceView}
use Rattle.cd_cell.specs.Infos.{info_hash, info_depth, rep_of_info, no_hash}
use Rattle.cd_cell.specs.Levels.{stated_hash}
use Rattle.cd_cell.specs.CellFaults.{stated_depth_of_kid}
use Rattle.cd_cell.specs.Equality.{same_hash, same_hash-Decides}
use Rattle.cd_cell.specs.PreparedView.{PreparedView}
use Rattle.cd_cell.specs.Tree.{Tree, face_of}
use Rattle.cd_cell.specs.Updates.{UpdateRefusal, old_hash, old_depth, old_half, some_unless, half_of}
use Rattle.cd_event.specs.declared.names.Who.{Who}
use Rattle.cd_event.specs.declared.answers.Pinned.{Pinned}
use Rattle.cd_event.specs.declared.entry.Entry.{Entry}
use Rattle.cd_event.specs.Pins.{Named, find_pin, state_of, IsPlain}
use Rattle.cd_event.specs.Turning.{AreFacesOf, AreHeldFaces}
use Rattle.cd_update.specs.Pairing.{root_refusal, pair_refusal, beside, first_misfit, wanted_hashes, AreOf}
use Rattle.cd_prepare.specs.declared.prepare_fault.PrepareFault.{PrepareFault}
use Rattle.cd_prepare.specs.declared.prepare_fault.PrepareFault.TheVariants as prepare
use Rattle.cd_prepare.specs.Applied.{stated_old, stated_new, grafted_faces, fault_by, faces_fault, update_fault, IsUpdateApplied}
use Rattle.cd_run.specs.declared.outcome.TaskRefusal.{TaskRefusal}
use Rattle.cd_run.specs.Words.{prepare_word}
use Rattle.cd_run.specs.Ends.{stopped}
use Rattle.cd_run.specs.Prepared.{IsPrepared, IsUnprepared}
use Rattle.cd_run.specs.Runs.{unprepared}
use Rattle.cd_run.specs.Merging.{named_as, IsPinned, OnlyLooks, PreparesBy}
use Rattle.cd_run.proofs.PreparingLaws.{by_word}
use Rattle.cd_run.proofs.FaceLaws.{beside_found}

-- ---- the stated old root

holds_unless : {X : Type 0} (holds : Bool) (x : X) → some_unless holds x ≡ None → holds ≡ true
holds_unless true x none = refl
holds_unless false x none = absurd (cc none)

-- the first of two refusals isn't there where neither is
pub none_of_two : {X : Type 0} (a b : Option X) → option_or a b ≡ None → (a ≡ None) × (b ≡ None)
none_of_two None b none = (refl, none)
none_of_two (Some x) b none = absurd (cc none)

pub no_refusal : (digest : List ℕ → Hash256) (u : Tree) (paired : Option UpdateRefusal) (listed : List FaceView) → fault_by digest u paired listed ≡ None → paired ≡ None
no_refusal digest u None listed none = refl
no_refusal digest u (Some refusal) listed none = absurd (cc none)

pub stated_root : (hash : Hash256) (depth : ℕ) (root : ChildInfo) (more : Option UpdateRefusal) → option_or (root_refusal hash depth root) more ≡ None → hash ≡ info_hash root 0
stated_root hash depth root more none =
    let stated = some_unless (same_hash hash (info_hash root 0)) (old_hash hash (info_hash root 0)) in
    let deep = some_unless (depth == info_depth root 0) (old_depth depth (info_depth root 0)) in
    let first : stated ≡ None = (none_of_two stated deep (none_of_two (option_or stated deep) more none).0).0 in
    (same_hash-Decides hash (info_hash root 0)).0 (holds_unless (same_hash hash (info_hash root 0)) (old_hash hash (info_hash root 0)) first)

pub root_hash : (root : ChildInfo) → IsPlain root → info_hash root 0 ≡ rep_of_info root
root_hash root plain = ap (λ hashes. slice_index_or hashes 0 no_hash) plain.hashes

-- ---- pins

pub state_found : (pins : List Named) (m : Named) → find_pin pins m.number ≡ Some m → state_of pins m.number ≡ m.tree
state_found pins m found = ap (option_and_then (λ (n : Named). n.tree)) found

module _ {H : Type 0} (digest : List ℕ → Hash256) (made : List (Entry H)) (pins : List Named) (pinned : Pinned) (u : Tree) (hashes : List Hash256) (faces : List (Option FaceView))
    (asked : hashes ≡ wanted_hashes digest u) (held : AreHeldFaces digest made pins hashes faces) where
  -- the faces are those of the pin's state
  are_of : (t : Tree) → IsPinned digest made pins pinned (Some t) → AreOf digest t u pinned.root faces
  are_of t is =
      let state = is.state in
      let of = held pinned.pin t (record { live = is.live; told = state_found pins (named_as pinned (Some t)) is.found }) in
      record {
        well = state.0.good;
        clear = state.0.clear;
        plain = state.0.plain;
        top = sym state.1;
        found = beside_found digest t (wanted_hashes digest u) faces (subst (λ hs. AreFacesOf digest t hs faces) asked of);
      }

  pub prepared_is : (tree : Option Tree) (p : PreparedView) → IsPinned digest made pins pinned tree → p.old ≡ Some (stated_old digest u) → rep_of_info p.root ≡ stated_new digest u
      → faces_fault digest u pinned.root faces ≡ None → ((t : Tree) → AreOf digest t u pinned.root faces → update_fault digest u t ≡ None)
      → ((t : Tree) → AreOf digest t u pinned.root faces → IsUpdateApplied digest u t p.root p.cells) → IsPrepared digest (named_as pinned tree) u p
  prepared_is tree p is old rep none exact applied =
      let paired = no_refusal digest u (pair_refusal digest u pinned.root faces) (grafted_faces digest u) none in
      let stated : stated_old digest u ≡ rep_of_info pinned.root =
      stated_root (stated_hash (face_of digest u) 1) (stated_depth_of_kid (face_of digest u) 0) pinned.root
      (option_map old_half (first_misfit digest (beside (wanted_hashes digest u) faces) (half_of u 0))) paired
      ∙ root_hash pinned.root is.plain in
      record {
        over = record { over = old ∙ ap (λ (hash : Hash256). Some hash) stated; stated = stated; new = rep };
        faces = faces;
        no_fault = none;
        applied = by tree is;
      }
    where
      by : (tree : Option Tree) → IsPinned digest made pins pinned tree → IfSome tree (λ t. (update_fault digest u t ≡ None) × IsUpdateApplied digest u t p.root p.cells)
      by None is = tt
      by (Some t) is = (exact t (are_of t is), applied t (are_of t is))

  module _ (fault : PrepareFault) (refused : (fault ≡ prepare.Memory) ⊎ (faces_fault digest u pinned.root faces ≡ Some fault))
      (exact : (t : Tree) → AreOf digest t u pinned.root faces → (fault ≡ prepare.Memory) ⊎ (update_fault digest u t ≡ Some fault)) where
    its_word : (why : TaskRefusal) → prepare_word fault ≡ Some why → (o : Option PrepareFault) → (fault ≡ prepare.Memory) ⊎ (o ≡ Some fault) → option_and_then prepare_word o ≡ Some why
    its_word why word o is = ⊎_elim
        (λ (memory : fault ≡ prepare.Memory). let never : None ≡ Some why = sym (ap prepare_word memory) ∙ word in absurd (cc never))
        (λ (e : o ≡ Some fault). ap (option_and_then prepare_word) e ∙ word)
        is

    not_prepared : (tree : Option Tree) → IsPinned digest made pins pinned tree → (why : TaskRefusal) → prepare_word fault ≡ Some why → IsUnprepared digest (named_as pinned tree) u why
    not_prepared tree is why word = record { faces = faces; by_faces = its_word why word _ refused; by_tree = by tree is }
      where
        by : (tree : Option Tree) → IsPinned digest made pins pinned tree → IfSome tree (λ t. option_and_then prepare_word (update_fault digest u t) ≡ Some why)
        by None is = tt
        by (Some t) is = its_word why word _ (exact t (are_of t is))

    pub unprepared_is : (tree : Option Tree) → IsPinned digest made pins pinned tree → (who : Who) (es : List (Entry H)) → OnlyLooks who pinned.pin es
        → PreparesBy digest who (named_as pinned tree) u (Err (stopped (prepare_word fault))) es
    unprepared_is tree is who es only =
        by_word (λ s. PreparesBy digest who (named_as pinned tree) u (Err s) es) (prepare_word fault) only
        (λ why word id tops. unprepared only.0 (not_prepared tree is why word) only.1)

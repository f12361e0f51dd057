-- The trees that contents tell are those of the world whose contents they are.
use Rattle.std.proofs.Common.{◌≡◌, ℕ, zero, suc, ◌<◌, Bool, true, false, cond, List, length, map, Option, Some, None, Contains, refl, sym, ap, ap₂, ◌∙◌, inl, arith}
use Rattle.std.specs.Prelude.{Result, Ok, Err, is_some}
use Rattle.std.specs.Option.{option_map, option_and_then}
use Rattle.std.specs.FinMap.{get}
use Rattle.std.proofs.lemmas.Bool.{true≢false}
use Rattle.std.proofs.lemmas.Option.{none-some, same_Some}
use Rattle.cd_base.specs.declared.hash.Hash256.{Hash256}
use Rattle.cd_base.specs.Numbers.{IsBytes}
use Rattle.cd_block.specs.declared.description.Descr.{Descr}
use Rattle.cd_cell.specs.FaceView.{FaceView}
use Rattle.cd_cell.specs.Infos.{rep_of_info}
use Rattle.cd_cell.specs.Tree.{Tree, cell, Trees, no_trees, tree_and, trees_of, list_of, infos_of, face_of, rep_of, height_of}
use Rattle.cd_cell.proofs.Subtrees.{Contains-first, Contains-later, flat_map-listed, flat_map-subtree, subtree-itself, child-is-subtree, Contains-mapped}
use Rattle.cd_cell.proofs.Heights.{height_of-child}
use Rattle.cd_keeper.specs.Contents.{Contents}
use Rattle.cd_record.specs.declared.record.Record.{Record}
use Rattle.cd_record.specs.declared.record_fault.RecordFault.{RecordFault}
use Rattle.cd_record.specs.Records.{IsRecord}
use Rattle.cd_record.specs.RecordText.{record_text}
use Rattle.cd_record.specs.RecordReading.{record_in}
use Rattle.cd_record.proofs.RecordLaws.{record_again, is_found, text-injective}
use Rattle.cd_world.specs.Image.{is_version_1, renewed, plain_record, IsContentsOf}
use Rattle.cd_world.specs.Standing.{has_id, block_at, IsBeforeBlock}
use Rattle.cd_world.specs.Told.{ToldWorld, shown, states_of, count, IsSound}
use Rattle.cd_world.specs.Unfolded.{face_read, face_in, over, kids_of, tree_in, state_in, told_in}
use Rattle.cd_world.specs.ToldTrees.{HasBytes, ContentsTellTrees}
use Rattle.cd_world.proofs.Held.{rep_bytes}
use Rattle.cd_world.proofs.Plain.{contents-cell}
use Rattle.cd_world.proofs.Searches.{find-passes, find-contains}
use Rattle.cd_world.proofs.Orders.{order_from_AllPairs}
use Rattle.cd_world.proofs.PinsStay.{same_id-Decides}
use Rattle.cd_world.proofs.TidyWorlds.{found-there}
use Rattle.cd_world.proofs.EqualImages.{one_id, cells_of, state_sound, well-cell, record_of, IsRecord-cell, record-cell}

-- a record of the second version is none of the first
not-first : (count : ℕ) (face : FaceView) → is_version_1 (record_text count face) ≡ false
unfolding record_text
not-first count face = refl

-- what in version 2 is a record's text is read as that record's face
face-read : (r : Record) → IsRecord r → (bytes : List ℕ) → IsBytes bytes → plain_record bytes ≡ record_text r.count r.face → face_read (record_in bytes) ≡ Some r.face
face-read r fit bytes fits plain = by (is_version_1 bytes) refl plain
  where
    renewed-read : (x : Result Record RecordFault) → x ≡ record_in bytes → is_version_1 bytes ≡ true → renewed bytes x ≡ record_text r.count r.face → face_read x ≡ Some r.face
    renewed-read (Err e) at first is = absurd (true≢false (sym first ∙ ap is_version_1 is ∙ not-first r.count r.face))
    renewed-read (Ok x) at first is =
        let read = is_found bytes (Ok x) fits at in
        ap (λ (y : Record). Some y.face) (text-injective x r (record_text r.count r.face) read.0 fit (inl (sym is)) (inl refl))

    by : (b : Bool) → is_version_1 bytes ≡ b → cond b (renewed bytes (record_in bytes)) bytes ≡ record_text r.count r.face → face_read (record_in bytes) ≡ Some r.face
    by true first is = renewed-read (record_in bytes) refl first is
    by false other is = ap face_read (ap record_in is ∙ record_again r fit)

module _ (H : List ℕ → Hash256) (long : (m : List ℕ) → let h = H m in length h.0 ≡ 32) (t : ToldWorld) (contents : Contents) (sound : IsSound H t) (fits : HasBytes contents) (are : IsContentsOf H (shown t) contents) where
  -- the face under the hash of a held cell
  face-told : (s : Tree) → Contains (cells_of H t) s → face_in contents (rep_bytes H s) ≡ Some (face_of H s)
  face-told s h = by (get contents.cells (rep_bytes H s)) refl (contents-cell H (shown t) contents are (rep_bytes H s) ∙ record-cell H long t sound s h)
    where
      by : (o : Option (List ℕ)) → get contents.cells (rep_bytes H s) ≡ o → option_map plain_record o ≡ Some (record_text (count H t (rep_bytes H s)) (face_of H s))
          → option_and_then (λ bytes. face_read (record_in bytes)) o ≡ Some (face_of H s)
      by None at is = absurd (none-some _ is)
      by (Some bytes) at is = face-read (record_of H long t s) (IsRecord-cell H long t sound s h) bytes (fits (rep_bytes H s) bytes at) (same_Some (plain_record bytes) _ is)

  children-told : (levels : ℕ) (ts : Trees) → ((c : Tree) → Contains (list_of ts) c → tree_in contents levels (rep_of H c) ≡ c) → trees_of (map (tree_in contents levels) (map rep_of_info (infos_of H ts))) ≡ ts
  children-told levels no_trees each = refl
  children-told levels (tree_and c ts) each =
      ap₂ tree_and (each c (Contains-first c (list_of ts))) (children-told levels ts (λ x h. each x (Contains-later c (list_of ts) x h)))

  tree-told : (levels : ℕ) (s : Tree) → Contains (cells_of H t) s → height_of H s < levels → tree_in contents levels (rep_of H s) ≡ s
  unfolding tree_in
  tree-told zero s h low = absurd (omega arith)
  tree-told (suc levels) (cell exotic bits ts) h low =
      let s = cell exotic bits ts in
      ap (λ (o : Option FaceView). over o (map (tree_in contents levels) (kids_of o))) (face-told s h)
      ∙ ap (λ (us : Trees). cell exotic bits us) (children-told levels ts (λ c below.
      let lower = height_of-child H s c (well-cell H long t sound s h) below in
      tree-told levels c (flat_map-subtree (states_of t) s c h (child-is-subtree s c below)) (omega (arith, lower, low))))

  pub state-told : (d : Descr) → Contains t.world.blocks d → let told = told_in contents t.world in told.state d.id ≡ t.state d.id
  state-told d h = by (block_at t.world d.id) refl
    where
      found : (x : Descr) → block_at t.world d.id ≡ Some x → x ≡ d
      found x at =
          let tidy = sound.tidy in
          one_id t.world.blocks (order_from_AllPairs IsBeforeBlock t.world.blocks tidy.ordered) x d (find-contains (has_id d.id) t.world.blocks x at) h
          ((same_id-Decides x.id d.id).0 (find-passes (has_id d.id) t.world.blocks x at))

      told : tree_in contents 1025 d.root ≡ t.state d.id
      told =
          let block = state_sound H long t sound d h in
          let fit = block.fit in
          let there = flat_map-listed (states_of t) (t.state d.id) (t.state d.id) (Contains-mapped (λ (x : Descr). t.state x.id) t.world.blocks d h) (subtree-itself (t.state d.id)) in
          ap (tree_in contents 1025) (sym block.root) ∙ tree-told 1025 (t.state d.id) there (omega (arith, block.depth, fit.depth))

      by : (o : Option Descr) → block_at t.world d.id ≡ o → state_in contents o ≡ t.state d.id
      by None at = absurd (true≢false (sym (found-there t.world d.id (d, h, refl)) ∙ ap is_some at))
      by (Some x) at = ap (λ (y : Descr). tree_in contents 1025 y.root) (found x at) ∙ told

pub contents_tell : (H : List ℕ → Hash256) → ((m : List ℕ) → let h = H m in length h.0 ≡ 32) → ContentsTellTrees H
contents_tell H long t contents sound fits are d h = state-told H long t contents sound fits are d h

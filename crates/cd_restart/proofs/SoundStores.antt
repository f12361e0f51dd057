-- Of the contents of a sound world nothing is refused, and their blocks are the world's.
use Rattle.std.proofs.Common.{◌≡◌, ℕ, Bool, true, false, cond, not, List, [], ◌∷◌, map, length, Option, Some, None, Result, Ok, Err, Contains, refl, sym, ap, ap₂, ◌∙◌, subst, inl, eqb, eq-eqb}
use Rattle.std.specs.Prelude.{is_some, is_none, ◌||◌}
use Rattle.std.specs.Option.{option_map}
use Rattle.std.specs.Ordering.{on}
use Rattle.std.specs.FinMap as finite
use Rattle.std.specs.FinMap.{get, get-from_entries}
use Rattle.std.specs.Cmp.{on_total}
use Rattle.std.specs.Cmp.Lexicographic.{nat_list_cmp_total}
use Rattle.std.proofs.lemmas.Bool.{and_from, true≢false}
use Rattle.std.proofs.lemmas.Option.{none-some, same_Some}
use Rattle.std.proofs.lemmas.List.Elements.{All-contains, All-from_recursion}
use Rattle.cd_base.specs.declared.hash.Hash256.{Hash256}
use Rattle.cd_base.specs.Numbers.{IsBytes}
use Rattle.cd_base.proofs.ReadingLaws.{ok_is}
use Rattle.cd_block.specs.declared.block.BlockId.{BlockId}
use Rattle.cd_block.specs.declared.description.Descr.{Descr}
use Rattle.cd_block.specs.declared.ancestry.LineageFault.{LineageFault}
use Rattle.cd_block.specs.Block.{key_of, id_cmp}
use Rattle.cd_block.specs.Description.{descr_text}
use Rattle.cd_block.specs.Lineage.{lineage_fault}
use Rattle.cd_block.specs.Reading.{descr_in}
use Rattle.cd_block.proofs.Descriptions.{descr_again}
use Rattle.cd_block.proofs.Order.{id_cmp_is}
use Rattle.cd_cell.specs.declared.info.ChildInfo.{ChildInfo}
use Rattle.cd_cell.specs.Equality.{same_hash, same_hash-Decides, same_info-Decides}
use Rattle.cd_cell.specs.FaceView.{FaceView}
use Rattle.cd_cell.specs.Infos.{rep_of_info, height_of_info}
use Rattle.cd_cell.specs.Levels.{mask_of_face, info_of_face, rep_of_face, height_of_face}
use Rattle.cd_cell.specs.Tree.{Tree, children, info_of, face_of, rep_of}
use Rattle.cd_cell.proofs.Distinct.{same-rising, rises-from_AllPairs}
use Rattle.cd_cell.proofs.Subtrees.{Contains-map, Contains-mapped, flat_map-listed, flat_map-subtree, subtree-itself, child-is-subtree, info_of-face_of, kids-face_of}
use Rattle.cd_record.specs.declared.record.Record.{Record}
use Rattle.cd_record.specs.declared.record_fault.RecordFault.{RecordFault}
use Rattle.cd_record.specs.Records.{IsRecord}
use Rattle.cd_record.specs.RecordReading.{record_in}
use Rattle.cd_record.specs.RecordText.{record_text}
use Rattle.cd_record.proofs.RecordLaws as records
use Rattle.cd_keeper.specs.Contents.{Contents}
use Rattle.cd_world.specs.World as trees
use Rattle.cd_world.specs.Image.{is_version_1, renewed, plain_record, descr_entry, IsContentsOf}
use Rattle.cd_world.specs.Told.{ToldWorld, block_of, shown, states_of, held, count, IsSound}
use Rattle.cd_world.proofs.EqualImages.{cells_of, held_is_cell, cell_is_held, record_of, state_sound, IsRecord-cell, record-cell}
use Rattle.cd_world.proofs.Held.{rep_bytes}
use Rattle.cd_world.proofs.Orders.{id_cmp-total}
use Rattle.cd_world.proofs.Plain.{contents-cell, contents-desc, image-cell, record_value}
use Rattle.cd_restart.specs.declared.scan_fault.ScanFault.TheVariants as refusal
use Rattle.cd_restart.specs.Lists.{first_of}
use Rattle.cd_restart.specs.Stored.{Entry, Stored, read_descr, descr_of, cell_of, blocks_in, cells_in, IsCellEntry, AreBytes}
use Rattle.cd_restart.specs.ScanFaults.{undescribed, desc_fault, lineage_refusal, has_lineage, is_nothing, unrecorded, record_fault, record_at, key_fault, missing_fault, missing_kid, kid_fault, other_kid, is_shown, is_plain, root_fault, depth_fault, depth_refusal, references, count_fault, scan_fault}
use Rattle.cd_restart.proofs.Faults.{or_none, no_refusal, first_of-clear}
use Rattle.cd_restart.proofs.FreeOfFaults.{descr-read, cell-read, blocks-rise, cells-rise}
use Rattle.cd_restart.proofs.Matching.{AreHeld, counts-match}
use Rattle.cd_restart.proofs.ReadLists.{is_read, told-of, of-told, record-under, stored-at}
use Rattle.cd_world.proofs.Tables.{byte_cmp, by_key, AreInOrder, table-get, table-got, found-entry, entry-found, rises-map}
use Rattle.cd_restart.proofs.UnfoldedCells.{hash_of}

-- a record of the second version is none of the first
not-first : (count : ℕ) (face : FaceView) → is_version_1 (record_text count face) ≡ false
unfolding record_text
not-first count face = refl

-- what is in version 2 a record's text is read as that record
record-read : (r : Record) → IsRecord r → (bytes : List ℕ) → IsBytes bytes → plain_record bytes ≡ record_text r.count r.face → record_in bytes ≡ Ok r
record-read r fit bytes fits plain = by (is_version_1 bytes) refl plain
  where
    renewed-read : (x : Result Record RecordFault) → x ≡ record_in bytes → is_version_1 bytes ≡ true → renewed bytes x ≡ record_text r.count r.face → x ≡ Ok r
    renewed-read (Err e) at first is = absurd (true≢false (sym first ∙ ap is_version_1 is ∙ not-first r.count r.face))
    renewed-read (Ok x) at first is =
        let read = records.is_found bytes (Ok x) fits at in
        ap is_read (records.text-injective x r (record_text r.count r.face) read.0 fit (inl (sym is)) (inl refl))

    by : (b : Bool) → is_version_1 bytes ≡ b → cond b (renewed bytes (record_in bytes)) bytes ≡ record_text r.count r.face → record_in bytes ≡ Ok r
    by true first is = renewed-read (record_in bytes) refl first is
    by false other is = ap record_in is ∙ records.record_again r fit

module _ (H : List ℕ → Hash256) (long : (m : List ℕ) → length (let h = H m in h.0) ≡ 32) (contents : Contents) (t : ToldWorld) (fits : AreBytes contents) (sound : IsSound H t) (are : IsContentsOf H (shown t) contents) where
  -- ---- cells

  -- under the hash of a cell of a state stands its record
  cell-bytes : (s : Tree) → Contains (cells_of H t) s → (bytes : List ℕ) × (get contents.cells (rep_bytes H s) ≡ Some bytes) × (record_in bytes ≡ Ok (record_of H long t s))
  cell-bytes s h = by (get contents.cells (rep_bytes H s)) refl (contents-cell H (shown t) contents are (rep_bytes H s) ∙ record-cell H long t sound s h)
    where
      by : (o : Option (List ℕ)) → get contents.cells (rep_bytes H s) ≡ o → option_map plain_record o ≡ Some (record_text (count H t (rep_bytes H s)) (face_of H s))
          → (bytes : List ℕ) × (get contents.cells (rep_bytes H s) ≡ Some bytes) × (record_in bytes ≡ Ok (record_of H long t s))
      by None at is = absurd (none-some _ is)
      by (Some bytes) at is =
          let entry = table-got contents.cells (rep_bytes H s) bytes at in
          let fit = All-contains IsCellEntry (finite.entries contents.cells) entry.0 (All-from_recursion IsCellEntry (finite.entries contents.cells) fits.cells) entry.1 in
          (bytes, at, record-read (record_of H long t s) (IsRecord-cell H long t sound s h) bytes (subst IsBytes entry.3 fit.value) (same_Some (plain_record bytes) _ is))

  -- and each entry is that of a cell
  entry-cell : (e : Entry) → Contains (finite.entries contents.cells) e → (s : Tree) × Contains (cells_of H t) s × (rep_bytes H s ≡ e.0) × (record_in e.1 ≡ Ok (record_of H long t s))
  entry-cell e h = by (get (held H t) e.0) refl
      (sym (ap (option_map plain_record) (table-get contents.cells e h)) ∙ contents-cell H (shown t) contents are e.0 ∙ image-cell H (shown t) e.0)
    where
      by : (o : Option Tree) → get (held H t) e.0 ≡ o → Some (plain_record e.1) ≡ option_map (record_value H (shown t) e.0) o
          → (s : Tree) × Contains (cells_of H t) s × (rep_bytes H s ≡ e.0) × (record_in e.1 ≡ Ok (record_of H long t s))
      by None at is = absurd (none-some _ (sym is))
      by (Some s) at is =
          let there = held_is_cell H t e.0 s at in
          let bytes = cell-bytes s there.0 in
          let same : bytes.0 ≡ e.1 = same_Some bytes.0 e.1 (sym bytes.1 ∙ ap (get contents.cells) there.1 ∙ table-get contents.cells e h) in
          (s, there.0, there.1, ap record_in (sym same) ∙ bytes.2)

  no_record_fault : first_of record_fault (finite.entries contents.cells) ≡ None
  no_record_fault = first_of-clear record_fault (finite.entries contents.cells) (λ e h. let s = entry-cell e h in ap (unrecorded e.0) s.3)

  abbrev cells : List Stored
  cells = cells_in contents

  abbrev blocks : List Descr
  blocks = t.world.blocks

  -- a stored cell is a cell of a state with its record
  member : (c : Stored) → Contains cells c → (s : Tree) × Contains (cells_of H t) s × (c.0 ≡ rep_of H s) × (c.1 ≡ record_of H long t s)
  member c h =
      let from = told-of cell_of (finite.entries contents.cells) c h in
      let e = from.0 in
      let read = cell-read e.0 (record_in e.1) c from.2 in
      let s = entry-cell e from.1 in
      (s.0, s.1, sym read.1 ∙ ap hash_of (sym s.2), ok_is c.1 (record_of H long t s.0) (sym read.0 ∙ s.3))

  record-at : (s : Tree) → Contains (cells_of H t) s → record_at cells (rep_of H s) ≡ Some (record_of H long t s)
  record-at s h =
      let bytes = cell-bytes s h in
      by (record_at cells (rep_of H s)) (sym (ap (option_map record_in) bytes.1 ∙ ap Some bytes.2) ∙ record-under contents no_record_fault (rep_bytes H s))
    where
      by : (o : Option Record) → Some (is_read (record_of H long t s)) ≡ option_map is_read o → o ≡ Some (record_of H long t s)
      by None e = absurd (none-some _ (sym e))
      by (Some r) e = ap Some (ok_is r (record_of H long t s) (sym (same_Some _ _ e)))

  matching : AreHeld H t cells
  matching = record { ordered = cells-rise contents; into = into; back = back; roots = roots }
    where
      into : (c : Stored) → Contains cells c → let h = c.0 in (s : Tree) × (get (held H t) h.0 ≡ Some s) × (face_of H s ≡ c.1.face)
      into c h =
          let s = member c h in
          (s.0, ap (λ (q : Hash256). get (held H t) q.0) s.2 ∙ cell_is_held H t sound.clear s.0 s.1, sym (ap (λ (r : Record). r.face) s.3))

      back : (q : List ℕ) (s : Tree) → get (held H t) q ≡ Some s → (c : Stored) × Contains cells c × (let h = c.0 in h.0 ≡ q) × (face_of H s ≡ c.1.face)
      back q s e =
          let there = held_is_cell H t q s e in
          ((rep_of H s, record_of H long t s), stored-at cells (rep_of H s) (record_of H long t s) (record-at s there.0), there.1, refl)

      roots : (d : Descr) → Contains blocks d → rep_of H (t.state d.id) ≡ d.root
      roots d h = let block = state_sound H long t sound d h in block.root

  -- ---- blocks

  described : (d : Descr) → Contains blocks d → descr_entry H (block_of t d) ≡ (key_of d.id, descr_text d)
  described d h =
      let block = state_sound H long t sound d h in
      ap₂ (λ (root : Hash256) (depth : ℕ). (key_of d.id, descr_text (record { id = d.id; parents = d.parents; root = root; depth = depth; tops = d.tops; leaving = d.leaving }))) block.root block.depth

  abbrev entries_due : List Entry
  entries_due = map (descr_entry H) (map (block_of t) blocks)

  get-descs : (q : List ℕ) → get contents.descs q ≡ finite.find byte_cmp q entries_due
  get-descs q = contents-desc H (shown t) contents are q ∙ get-from_entries nat_list_cmp_total entries_due q

  due-rise : AreInOrder entries_due
  due-rise =
      let tidy = sound.tidy in
      rises-map (on (λ (b : trees.Block). b.id) id_cmp) by_key (descr_entry H) (map (block_of t) blocks)
      (λ x y in-x in-y less.
      let from-x = Contains-map (block_of t) blocks x in-x in
      let from-y = Contains-map (block_of t) blocks y in-y in
      let sound-x = state_sound H long t sound from-x.0 from-x.1 in
      let sound-y = state_sound H long t sound from-y.0 from-y.1 in
      let is-x = sound-x.is in
      let is-y = sound-y.is in
      ap₂ (λ (a b : trees.Block). byte_cmp (key_of a.id) (key_of b.id)) (sym from-x.2) (sym from-y.2)
      ∙ sym (id_cmp_is (let d = from-x.0 in d.id) (let d = from-y.0 in d.id) is-x.id is-y.id)
      ∙ ap₂ (λ (a b : trees.Block). id_cmp a.id b.id) from-x.2 from-y.2 ∙ less)
      (rises-map (on (λ (d : Descr). d.id) id_cmp) (on (λ (b : trees.Block). b.id) id_cmp) (block_of t) blocks (λ x y in-x in-y less. less)
      (rises-from_AllPairs (on (λ (d : Descr). d.id) id_cmp) blocks tidy.ordered))

  text-read : (d : Descr) → Contains blocks d → descr_in (key_of d.id) (descr_text d) ≡ Ok d
  text-read d h = let block = state_sound H long t sound d h in descr_again d block.is block.fit

  -- each description is that of a block
  entry-block : (e : Entry) → Contains (finite.entries contents.descs) e → (d : Descr) × Contains blocks d × (descr_in e.0 e.1 ≡ Ok d)
  entry-block e h =
      let found = entry-found e.0 entries_due e.1 (sym (get-descs e.0) ∙ table-get contents.descs e h) in
      let b = Contains-map (descr_entry H) (map (block_of t) blocks) found.0 found.1 in
      let d = Contains-map (block_of t) blocks b.0 b.1 in
      let same : found.0 ≡ (key_of (let x = d.0 in x.id), descr_text d.0) = sym b.2 ∙ ap (descr_entry H) (sym d.2) ∙ described d.0 d.1 in
      (d.0, d.1, ap₂ descr_in (found.2 ∙ ap (λ (x : Entry). x.0) same) (sym found.3 ∙ ap (λ (x : Entry). x.1) same) ∙ text-read d.0 d.1)

  -- and each block has one
  block-entry : (d : Descr) → Contains blocks d → Contains (blocks_in contents) d
  block-entry d h =
      let x = descr_entry H (block_of t d) in
      let due = found-entry entries_due due-rise x (Contains-mapped (descr_entry H) (map (block_of t) blocks) (block_of t d) (Contains-mapped (block_of t) blocks d h)) in
      let same = described d h in
      let e = table-got contents.descs x.0 x.1 (get-descs x.0 ∙ due) in
      let entry = e.0 in
      of-told descr_of (finite.entries contents.descs) entry d e.1
      (ap read_descr (ap₂ descr_in (sym e.2 ∙ ap (λ (y : Entry). y.0) same) (e.3 ∙ ap (λ (y : Entry). y.1) same) ∙ text-read d h))

  pub blocks-are : blocks_in contents ≡ blocks
  blocks-are =
      let tidy = sound.tidy in
      same-rising (on (λ (d : Descr). d.id) id_cmp) (on_total (λ (d : Descr). d.id) id_cmp-total) (blocks_in contents) blocks (blocks-rise contents fits)
      (rises-from_AllPairs (on (λ (d : Descr). d.id) id_cmp) blocks tidy.ordered)
      (λ d h.
      let from = told-of descr_of (finite.entries contents.descs) d h in
      let e = from.0 in
      let block = entry-block e from.1 in
      subst (Contains blocks) (ok_is block.0 d (sym block.2 ∙ descr-read (descr_in e.0 e.1) d from.2)) block.1)
      block-entry

  -- ---- nothing is refused

  no_desc_fault : first_of desc_fault (finite.entries contents.descs) ≡ None
  no_desc_fault = first_of-clear desc_fault (finite.entries contents.descs) (λ e h. let d = entry-block e h in ap (undescribed e.0) d.2)

  no_lineage_fault : first_of lineage_refusal blocks ≡ None
  no_lineage_fault = first_of-clear lineage_refusal blocks (λ d h.
      let block = state_sound H long t sound d h in
      no_refusal (has_lineage d) (refusal.Lineage (key_of d.id))
      (and_from (is_none (lineage_fault d.id d.parents)) (not (is_nothing d.parents) || same_hash (let id = d.id in id.root) d.root)
      (ap (λ (o : Option LineageFault). is_none o) block.lineage) (named d d.parents refl block.zero)))
    where
      named : (d : Descr) (ps : List BlockId) → d.parents ≡ ps → (d.parents ≡ [] → (let id = d.id in id.root) ≡ d.root) → (not (is_nothing d.parents) || same_hash (let id = d.id in id.root) d.root) ≡ true
      named d [] e zero = let id = d.id in ap (λ (xs : List BlockId). not (is_nothing xs) || same_hash id.root d.root) e ∙ (same_hash-Decides id.root d.root).1 (zero e)
      named d (p ∷ ps) e zero = let id = d.id in ap (λ (xs : List BlockId). not (is_nothing xs) || same_hash id.root d.root) e

  no_key_fault : first_of (key_fault H) cells ≡ None
  no_key_fault = first_of-clear (key_fault H) cells (λ c h.
      let s = member c h in
      let face : c.1.face ≡ face_of H s.0 = ap (λ (r : Record). r.face) s.3 in
      let rep : rep_of_face H c.1.face ≡ c.0 = ap (rep_of_face H) face ∙ sym (ap rep_of_info (info_of-face_of H s.0)) ∙ sym s.2 in
      no_refusal (same_hash (rep_of_face H c.1.face) c.0) (refusal.WrongKey c.0 (rep_of_face H c.1.face)) ((same_hash-Decides (rep_of_face H c.1.face) c.0).1 rep))

  -- the record of a child
  kid-record : (c : Stored) → Contains cells c → (k : ChildInfo) → Contains c.1.face.kids k → (s : Tree) × (record_at cells (rep_of_info k) ≡ Some (record_of H long t s)) × (k ≡ info_of H s)
  kid-record c h k in-k =
      let p = member c h in
      let below = Contains-map (info_of H) (children p.0) k
      (subst (λ (ks : List ChildInfo). Contains ks k) (ap (λ (r : Record). (r.face).kids) p.3 ∙ kids-face_of H p.0) in-k) in
      let s = below.0 in (
        s,
        ap (λ (x : ChildInfo). record_at cells (rep_of_info x)) (sym below.2)
            ∙ record-at s (flat_map-subtree (states_of t) p.0 s p.1 (child-is-subtree p.0 s below.1)),
        sym below.2,
      )

  no_missing_fault : first_of (missing_fault H cells) cells ≡ None
  no_missing_fault = first_of-clear (missing_fault H cells) cells (λ c h. first_of-clear (missing_kid H cells c.0) c.1.face.kids (λ k in-k.
      let s = kid-record c h k in-k in
      no_refusal (is_some (record_at cells (rep_of_info k))) (refusal.Missing c.0 (rep_of_info k)) (ap (λ (o : Option Record). is_some o) s.1)))

  no_kid_fault : first_of (kid_fault H cells) cells ≡ None
  no_kid_fault = first_of-clear (kid_fault H cells) cells (λ c h. first_of-clear (other_kid H cells c.0) c.1.face.kids (λ k in-k.
      let s = kid-record c h k in-k in
      no_refusal (is_shown H cells k (record_at cells (rep_of_info k))) (refusal.ChildInfo c.0 (rep_of_info k))
      (ap (is_shown H cells k) s.1 ∙ (same_info-Decides k (info_of_face H (face_of H s.0))).1 (s.2 ∙ info_of-face_of H s.0))))

  root-at : (d : Descr) → Contains blocks d → record_at cells d.root ≡ Some (record_of H long t (t.state d.id))
  root-at d h =
      let block = state_sound H long t sound d h in
      let s = t.state d.id in
      ap (record_at cells) (sym block.root)
      ∙ record-at s (flat_map-listed (states_of t) s s (Contains-mapped (λ (x : Descr). t.state x.id) blocks d h) (subtree-itself s))

  no_root_fault : first_of (root_fault cells) blocks ≡ None
  no_root_fault = first_of-clear (root_fault cells) blocks (λ d h.
      let block = state_sound H long t sound d h in
      let mask : mask_of_face (face_of H (t.state d.id)) ≡ 0 = sym (ap (λ (k : ChildInfo). k.mask) (info_of-face_of H (t.state d.id))) ∙ block.plain in
      no_refusal (is_plain (record_at cells d.root)) (refusal.RootMissing (key_of d.id) d.root)
      (ap is_plain (root-at d h) ∙ eq-eqb (mask_of_face (face_of H (t.state d.id))) 0 mask))

  no_depth_fault : first_of (depth_fault cells) blocks ≡ None
  no_depth_fault = first_of-clear (depth_fault cells) blocks (λ d h.
      let block = state_sound H long t sound d h in
      let height = height_of_face (face_of H (t.state d.id)) in
      let same : d.depth ≡ height = sym block.depth ∙ ap height_of_info (info_of-face_of H (t.state d.id)) in
      ap (depth_refusal cells d) (root-at d h) ∙ no_refusal (eqb d.depth height) (refusal.RootDepth (key_of d.id) d.depth height) (eq-eqb d.depth height same))

  no_count_fault : first_of (count_fault blocks cells) cells ≡ None
  no_count_fault = first_of-clear (count_fault blocks cells) cells (λ c h.
      let s = member c h in
      let hash = c.0 in
      let same : c.1.count ≡ references blocks cells c.0 =
      ap (λ (r : Record). r.count) s.3 ∙ ap (λ (q : Hash256). count H t q.0) (sym s.2) ∙ counts-match H t cells matching hash.0 in
      no_refusal (eqb c.1.count (references blocks cells c.0)) (refusal.Count c.0 c.1.count (references blocks cells c.0)) (eq-eqb _ _ same))

  pub no_scan_fault : scan_fault H contents ≡ None
  no_scan_fault =
      let with_blocks = λ (bs : List Descr). (first_of lineage_refusal bs ≡ None) × (first_of (root_fault cells) bs ≡ None) × (first_of (depth_fault cells) bs ≡ None) × (first_of (count_fault bs cells) cells ≡ None) in
      let of_blocks = subst with_blocks (sym blocks-are) (no_lineage_fault, no_root_fault, no_depth_fault, no_count_fault) in
      or_none _ _ no_desc_fault
      (or_none _ _ of_blocks.0
      (or_none _ _ (or_none _ _ no_record_fault no_key_fault)
      (or_none _ _ (or_none _ _ no_missing_fault no_kid_fault)
      (or_none _ _ (or_none _ _ of_blocks.1 of_blocks.2) of_blocks.3))))

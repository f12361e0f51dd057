-- Contents of which nothing is refused are those of a sound world.
use Rattle.std.proofs.Common.{◌≡◌, ℕ, zero, suc, ◌+◌, ◌≤◌, ◌<◌, true, cond, not, List, [], map, Option, Some, None, Result, Ok, Err, Contains, refl, sym, ap, ap₂, ◌∙◌, subst, inl, inr, ⊎_elim, arith, eqb}
use Rattle.std.specs.Prelude.{is_some, is_none, ◌||◌}
use Rattle.std.specs.List.{AllByRecursion}
use Rattle.std.specs.Option.{option_map}
use Rattle.std.specs.Ordering.{on}
use Rattle.std.specs.FinMap as finite
use Rattle.std.specs.FinMap.{get, same_map, get-from_entries, slice_cmp-IsAntisymmetric, nat_cmp-IsAntisymmetric}
use Rattle.std.specs.Cmp.Lexicographic.{nat_list_cmp_total}
use Rattle.std.proofs.lemmas.Bool.{eqb-true, and_parts, true≢false}
use Rattle.std.proofs.lemmas.Option.{none-some, same_Some}
use Rattle.std.proofs.lemmas.List.Elements.{All-nil, All-contains, All-from_recursion}
use Rattle.cd_base.specs.declared.hash.Hash256.{Hash256}
use Rattle.cd_block.specs.declared.block.BlockId.{BlockId}
use Rattle.cd_block.specs.declared.description.Descr.{Descr}
use Rattle.cd_block.specs.declared.ancestry.LineageFault.{LineageFault}
use Rattle.cd_block.specs.Block.{key_of, id_cmp}
use Rattle.cd_block.specs.Lineage.{lineage_fault}
use Rattle.cd_block.specs.Description.{descr_text}
use Rattle.cd_block.specs.declared.description.DescrFault.{DescrFault}
use Rattle.cd_block.specs.Reading.{descr_in}
use Rattle.cd_block.proofs.Descriptions as descriptions
use Rattle.cd_block.proofs.Order.{id_cmp_is}
use Rattle.cd_base.proofs.ReadingLaws.{ok_is}
use Rattle.cd_record.specs.Records.{IsTextOf}
use Rattle.cd_record.specs.RecordText.{record_text, record_text_v1}
use Rattle.cd_record.proofs.RecordLaws as records
use Rattle.cd_world.specs.World as trees
use Rattle.cd_world.specs.Image.{is_version_1, renewed, plain_record, plain_cells, descr_entry, image_of, IsContentsOf}
use Rattle.cd_world.proofs.Plain.{plain_record-text, get-plain_cells, record_value, image-cell}
use Rattle.cd_world.proofs.Tables.{byte_cmp, by_key, by_key-total, AreInOrder, table-in_order, table-get, table-got, rises-map}
use Rattle.cd_cell.specs.declared.info.ChildInfo.{ChildInfo}
use Rattle.cd_cell.specs.Equality.{same_hash, same_hash-Decides, same_info-Decides}
use Rattle.cd_cell.specs.Export.{AreClashFree}
use Rattle.cd_cell.specs.FaceView.{FaceView}
use Rattle.cd_cell.specs.GoodFace.{IsGoodFace}
use Rattle.cd_cell.specs.Infos.{rep_of_info, height_of_info}
use Rattle.cd_cell.specs.Levels.{mask_of_face, info_of_face, rep_of_face, height_of_face}
use Rattle.cd_cell.specs.Steady.{IsSteady}
use Rattle.cd_cell.specs.Tree.{Tree, subtrees, info_of, face_of, rep_of, height_of, mask_of, IsWellFormed}
use Rattle.cd_cell.proofs.Distinct.{AllPairs-from_rises, same-rising}
use Rattle.cd_cell.proofs.Subtrees.{Contains-map, Contains-mapped, flat_map-cases, flat_map-listed, flat_map-subtree, subtree-itself, child-is-subtree, info_of-face_of}
use Rattle.cd_record.specs.declared.limits.TheConstants.{GREATEST_COUNT}
use Rattle.cd_record.specs.declared.record.Record.{Record}
use Rattle.cd_record.specs.RecordReading.{record_in}
use Rattle.cd_keeper.specs.Contents.{Table, Contents}
use Rattle.cd_world.specs.Standing.{has_id, block_at, IsBeforeBlock, IsTidy}
use Rattle.cd_world.specs.Told.{ToldWorld, block_of, shown, states_of, held, count, IsSoundBlock, IsSound}
use Rattle.cd_world.specs.Unfolded.{face_in, tree_in, state_in, told_in}
use Rattle.cd_world.proofs.CountLaws.{count-not_held}
use Rattle.cd_world.proofs.EqualImages.{one_id, cells_of, held_is_cell, cell_is_held}
use Rattle.cd_world.proofs.Held.{rep_bytes}
use Rattle.cd_world.proofs.Orders.{InOrder, order_from_AllPairs, All-from_Contains}
use Rattle.cd_world.proofs.PinsStay.{same_id-Decides}
use Rattle.cd_world.proofs.Searches.{find-passes, find-contains}
use Rattle.cd_world.proofs.TidyWorlds.{found-there}
use Rattle.cd_restart.specs.Stored.{Entry, Stored, read_descr, read_cell, descr_of, cell_of, blocks_in, cells_in, IsDescEntry, IsCellEntry, AreBytes}
use Rattle.cd_restart.specs.ScanFaults.{undescribed, desc_fault, record_fault, record_at, lineage_refusal, has_lineage, is_nothing, key_fault, missing_fault, missing_kid, kid_fault, other_kid, is_shown, is_plain, root_fault, depth_fault, depth_refusal, references, count_fault}
use Rattle.cd_restart.specs.declared.scan_fault.ScanFault.TheVariants as refusal
use Rattle.cd_restart.specs.Opened.{world_of}
use Rattle.cd_restart.proofs.Faults.{holds, first_of-none}
use Rattle.cd_restart.proofs.FreeOfFaults.{NoFault, block-read, stored-read, blocks-rise, cells-rise, some_is}
use Rattle.cd_restart.proofs.Matching.{AreHeld, counts-match, referred}
use Rattle.cd_restart.proofs.ReadLists.{is_read, recorded, of-told, record-under, face-under, stored-at}
use Rattle.cd_restart.proofs.UnfoldedCells.{hash_of, AreFitting, kid-lower, tree-face, tree-well, tree-rep, cell-told, same_levels, kid-child}

same_Ok : (a b : Record) → is_read a ≡ is_read b → a ≡ b
same_Ok a b e = ok_is a b e

described_entry : (key : List ℕ) (x : Result Descr DescrFault) → undescribed key x ≡ None → (d : Descr) × (x ≡ Ok d)
described_entry key (Ok d) e = (d, refl)
described_entry key (Err fault) e = absurd cc

first-version : (count : ℕ) (face : FaceView) → is_version_1 (record_text_v1 count face) ≡ true
unfolding record_text_v1
first-version count face = refl

-- a record that is read is, in version 2, its text
pub plain-of : (r : Record) (bytes : List ℕ) → IsTextOf r bytes → record_in bytes ≡ Ok r → plain_record bytes ≡ record_text r.count r.face
plain-of r bytes (inl two) read = ap plain_record two ∙ plain_record-text r.count r.face
plain-of r bytes (inr one) read =
    ap (λ b. cond b (renewed bytes (record_in bytes)) bytes) (ap is_version_1 one.1 ∙ first-version r.count r.face) ∙ ap (renewed bytes) read

same_table : (s t : Table) → ((q : List ℕ) → get s q ≡ get t q) → s ≡ t
same_table s t at = same_map nat_list_cmp_total (slice_cmp-IsAntisymmetric nat_cmp-IsAntisymmetric) s t at

each-steady : (ks : List ChildInfo) → AllByRecursion IsSteady ks → (k : ChildInfo) → Contains ks k → IsSteady k
each-steady ks all k h = All-contains IsSteady ks k (All-from_recursion IsSteady ks all) h

no_lineage_fault : (o : Option LineageFault) → is_none o ≡ true → o ≡ None
no_lineage_fault None e = refl
no_lineage_fault (Some x) e = absurd cc

-- a zero state has the root that its name says
named : (d : Descr) → d.parents ≡ [] → (not (is_nothing d.parents) || same_hash (let id = d.id in id.root) d.root) ≡ true → (let id = d.id in id.root) ≡ d.root
named d none test =
    let id = d.id in
    (same_hash-Decides id.root d.root).0 (sym (ap (λ (ps : List BlockId). not (is_nothing ps) || same_hash id.root d.root) none) ∙ test)

module _ (H : List ℕ → Hash256) (contents : Contents) (fits : AreBytes contents) (none : NoFault H contents) where
  abbrev blocks : List Descr
  blocks = blocks_in contents

  abbrev cells : List Stored
  cells = cells_in contents

  -- ---- records fit one another

  -- a stored face is that of a cell
  stored-face : (q : List ℕ) (f : FaceView) → face_in contents q ≡ Some f → (r : Record) × (record_at cells (hash_of q) ≡ Some r) × (r.face ≡ f) × Contains cells (hash_of q, r)
  stored-face q f at = by (record_at cells (hash_of q)) refl (sym (face-under contents none.records q) ∙ at)
    where
      by : (o : Option Record) → record_at cells (hash_of q) ≡ o → option_map (λ (r : Record). r.face) o ≡ Some f → (r : Record) × (record_at cells (hash_of q) ≡ Some r) × (r.face ≡ f) × Contains cells (hash_of q, r)
      by None e is = absurd (none-some f is)
      by (Some r) e is = (r, e, same_Some r.face f is, stored-at cells (hash_of q) r e)

  face-of-record : (hash : Hash256) (r : Record) → record_at cells hash ≡ Some r → face_in contents hash.0 ≡ Some r.face
  face-of-record hash r e = face-under contents none.records hash.0 ∙ ap (option_map (λ (x : Record). x.face)) e

  fitting : AreFitting H contents
  fitting = record { key = key; good = good; steady = steady; kids = kids }
    where
      key : (q : List ℕ) (f : FaceView) → face_in contents q ≡ Some f → rep_of_face H f ≡ hash_of q
      key q f at =
          let c = stored-face q f at in
          let r = c.0 in
          let test = holds (same_hash (rep_of_face H r.face) (hash_of q)) (refusal.WrongKey (hash_of q) (rep_of_face H r.face)) (first_of-none (key_fault H) cells none.keys (hash_of q, r) c.3) in
          ap (rep_of_face H) (sym c.2) ∙ (same_hash-Decides (rep_of_face H r.face) (hash_of q)).0 test

      good : (q : List ℕ) (f : FaceView) → face_in contents q ≡ Some f → IsGoodFace f
      good q f at =
          let c = stored-face q f at in
          let read = stored-read contents fits (hash_of q, c.0) c.3 in
          let is = read.is in
          subst IsGoodFace c.2 is.face

      steady : (q : List ℕ) (f : FaceView) → face_in contents q ≡ Some f → (k : ChildInfo) → Contains f.kids k → IsSteady k
      steady q f at k h =
          let c = stored-face q f at in
          let r = c.0 in
          let read = stored-read contents fits (hash_of q, c.0) c.3 in
          let is = read.is in
          each-steady r.face.kids is.steady k (subst (λ (g : FaceView). Contains g.kids k) (sym c.2) h)

      kids : (q : List ℕ) (f : FaceView) → face_in contents q ≡ Some f → (k : ChildInfo) → Contains f.kids k
          → (g : FaceView) × (face_in contents (rep_of_info k).0 ≡ Some g) × (info_of_face H g ≡ k)
      kids q f at k h =
          let c = stored-face q f at in
          let r = c.0 in
          let in-r : Contains r.face.kids k = subst (λ (g : FaceView). Contains g.kids k) (sym c.2) h in
          let there = holds (is_some (record_at cells (rep_of_info k))) (refusal.Missing (hash_of q) (rep_of_info k))
          (first_of-none (missing_kid H cells (hash_of q)) r.face.kids (first_of-none (missing_fault H cells) cells none.missing (hash_of q, r) c.3) k in-r) in
          let found = some_is (record_at cells (rep_of_info k)) there in
          let s = found.0 in
          let shown_so = holds (is_shown H cells k (record_at cells (rep_of_info k))) (refusal.ChildInfo (hash_of q) (rep_of_info k))
          (first_of-none (other_kid H cells (hash_of q)) r.face.kids (first_of-none (kid_fault H cells) cells none.kids (hash_of q, r) c.3) k in-r) in
          let same = (same_info-Decides k (info_of_face H s.face)).0 (sym (ap (is_shown H cells k) found.1) ∙ shown_so) in
          (s.face, face-of-record (rep_of_info k) s found.1, sym same)

  -- ---- the world

  abbrev t : ToldWorld
  t = told_in contents (world_of blocks)

  ids_rise : InOrder IsBeforeBlock blocks
  ids_rise = order_from_AllPairs IsBeforeBlock blocks (AllPairs-from_rises (on (λ (d : Descr). d.id) id_cmp) blocks (blocks-rise contents fits))

  -- a block's tree is unfolded from its root
  state-is : (d : Descr) → Contains blocks d → t.state d.id ≡ tree_in contents 1025 d.root
  state-is d h = by (block_at (world_of blocks) d.id) refl
    where
      by : (o : Option Descr) → block_at (world_of blocks) d.id ≡ o → state_in contents o ≡ tree_in contents 1025 d.root
      by None at = absurd (true≢false (sym (found-there (world_of blocks) d.id (d, h, refl)) ∙ ap is_some at))
      by (Some x) at =
          let same : x ≡ d = one_id blocks ids_rise x d (find-contains (has_id d.id) blocks x at) h ((same_id-Decides x.id d.id).0 (find-passes (has_id d.id) blocks x at)) in
          ap (λ (y : Descr). tree_in contents 1025 y.root) same

  root-face : (d : Descr) → Contains blocks d → (f : FaceView) × (face_in contents (let h = d.root in h.0) ≡ Some f) × (mask_of_face f ≡ 0) × (d.depth ≡ height_of_face f)
  root-face d h = by (record_at cells d.root) refl
      (holds (is_plain (record_at cells d.root)) (refusal.RootMissing (key_of d.id) d.root) (first_of-none (root_fault cells) blocks none.roots d h))
      (first_of-none (depth_fault cells) blocks none.depths d h)
    where
      by : (o : Option Record) → record_at cells d.root ≡ o → is_plain o ≡ true → depth_refusal cells d o ≡ None
          → (f : FaceView) × (face_in contents (let h = d.root in h.0) ≡ Some f) × (mask_of_face f ≡ 0) × (d.depth ≡ height_of_face f)
      by None at plain deep = absurd (true≢false (sym plain))
      by (Some r) at plain deep = (
        r.face,
        face-of-record d.root r at,
        eqb-true (mask_of_face r.face) 0 plain,
        eqb-true d.depth (height_of_face r.face) (holds (eqb d.depth (height_of_face r.face)) (refusal.RootDepth (key_of d.id) d.depth (height_of_face r.face)) deep),
      )

  low : (q : List ℕ) (f : FaceView) → face_in contents q ≡ Some f → height_of_face f < 1025
  low q f at =
      let good = fitting.good q f at in
      let fit = good.fit in
      omega (arith, fit.depths 3 (omega arith))

  sound-block : (d : Descr) → Contains blocks d → IsSoundBlock H t.state d
  sound-block d h =
      let f = root-face d h in
      let root = d.root in
      let below = low root.0 f.0 f.1 in
      let face = tree-face H contents fitting 1025 d.root f.0 f.1 below in
      let info : info_of H (tree_in contents 1025 d.root) ≡ info_of_face H f.0 = info_of-face_of H (tree_in contents 1025 d.root) ∙ ap (info_of_face H) face in
      let lineage = and_parts (is_none (lineage_fault d.id d.parents)) _ (holds (has_lineage d) (refusal.Lineage (key_of d.id)) (first_of-none lineage_refusal blocks none.lineages d h)) in
      let read = block-read contents fits d h in
      let state = state-is d h in
      record {
        good = subst (IsWellFormed H) (sym state) (tree-well H contents fitting 1025 d.root f.0 f.1 below);
        plain = ap (mask_of H) state ∙ ap (λ (k : ChildInfo). k.mask) info ∙ f.2;
        root = ap (rep_of H) state ∙ tree-rep H contents fitting 1025 d.root f.0 f.1 below;
        depth = ap (height_of H) state ∙ ap height_of_info info ∙ sym f.3;
        lineage = no_lineage_fault (lineage_fault d.id d.parents) lineage.0;
        zero = λ e. named d e lineage.1;
        fit = read.fit;
        is = read.is;
      }

  tidy : IsTidy (world_of blocks)
  tidy = record {
    ordered = AllPairs-from_rises (on (λ (d : Descr). d.id) id_cmp) blocks (blocks-rise contents fits);
    numbered = λ i j d below in'. absurd (omega arith);
    below = All-nil _;
    on_blocks = All-nil _;
    few = λ worker. omega arith;
  }

  -- ---- held cells

  -- each cell of a state has the face that is stored under its hash
  all-told : (s : Tree) → Contains (cells_of H t) s → face_in contents (rep_bytes H s) ≡ Some (face_of H s)
  all-told s h =
      let from = flat_map-cases (states_of t) s h in
      let block = Contains-map (λ (d : Descr). t.state d.id) blocks from.0 from.1 in
      let d = block.0 in
      let root = d.root in
      let f = root-face d block.1 in
      cell-told H contents fitting 1025 d.root f.0 f.1 (low root.0 f.0 f.1) s
      (subst (λ (x : Tree). Contains (subtrees x) s) (sym block.2 ∙ state-is d block.1) from.2)

  clear : AreClashFree H (states_of t)
  clear a b in-a in-b rep =
      same_Some (face_of H a) (face_of H b) (sym (all-told a in-a) ∙ ap (λ (h : Hash256). face_in contents h.0) rep ∙ all-told b in-b)

  -- ---- each stored cell is held

  record-there : (c : Stored) → Contains cells c → record_at cells c.0 ≡ Some c.1
  record-there c h =
      let hash = c.0 in
      let read = stored-read contents fits c h in
      let at = table-get contents.cells (hash.0, read.bytes) read.there in
      by (record_at cells c.0) (ap Some (sym read.read) ∙ ap (option_map record_in) (sym at) ∙ record-under contents none.records hash.0)
    where
      by : (o : Option Record) → Some (is_read c.1) ≡ option_map is_read o → o ≡ Some c.1
      by None e = absurd (none-some _ (sym e))
      by (Some r) e = ap Some (same_Ok r c.1 (same_Some (is_read r) (is_read c.1) (sym e)))

  face-there : (c : Stored) → Contains cells c → face_in contents (let h = c.0 in h.0) ≡ Some c.1.face
  face-there c h = face-of-record c.0 c.1 (record-there c h)

  pub count-is : (c : Stored) → Contains cells c → c.1.count ≡ references blocks cells c.0
  count-is c h =
      eqb-true c.1.count (references blocks cells c.0)
      (holds (eqb c.1.count (references blocks cells c.0)) (refusal.Count c.0 c.1.count (references blocks cells c.0)) (first_of-none (count_fault blocks cells) cells none.counts c h))

  -- a cell has a reference, from a root or from a higher cell: so it is reached from a root
  reached : (fuel : ℕ) (c : Stored) → Contains cells c → 1025 ≤ height_of_face c.1.face + fuel → Contains (cells_of H t) (tree_in contents 1025 c.0)
  reached zero c h deep = let hash = c.0 in let below = low hash.0 c.1.face (face-there c h) in absurd (omega arith)
  reached (suc fuel) c h deep = ⊎_elim root (place (reached fuel)) (referred blocks cells c.0 some)
    where
      hash : List ℕ
      hash = let h = c.0 in h.0

      some : 1 ≤ references blocks cells c.0
      some = let read = stored-read contents fits c h in let is = read.is in subst (λ n. 1 ≤ n) (count-is c h) is.some

      root : (d : Descr) × Contains blocks d × (same_hash d.root c.0 ≡ true) → Contains (cells_of H t) (tree_in contents 1025 c.0)
      root found =
          let d = found.0 in
          let same : d.root ≡ c.0 = (same_hash-Decides d.root c.0).0 found.2 in
          subst (Contains (cells_of H t)) (state-is d found.1 ∙ ap (tree_in contents 1025) same)
          (flat_map-listed (states_of t) (t.state d.id) (t.state d.id) (Contains-mapped (λ (x : Descr). t.state x.id) blocks d found.1) (subtree-itself (t.state d.id)))

      place : ((p : Stored) → Contains cells p → 1025 ≤ height_of_face p.1.face + fuel → Contains (cells_of H t) (tree_in contents 1025 p.0))
          → (p : Stored) × Contains cells p × ((k : ChildInfo) × Contains p.1.face.kids k × (same_hash (rep_of_info k) c.0 ≡ true)) → Contains (cells_of H t) (tree_in contents 1025 c.0)
      place up found =
          let p = found.0 in
          let k = found.2.0 in
          let same : rep_of_info k ≡ c.0 = (same_hash-Decides (rep_of_info k) c.0).0 found.2.2 in
          let parent = p.0 in
          let at = face-there p found.1 in
          let kid = fitting.kids parent.0 p.1.face at k found.2.1 in
          let face : kid.0 ≡ c.1.face = same_Some kid.0 c.1.face (sym kid.1 ∙ ap (λ (q : Hash256). face_in contents q.0) same ∙ face-there c h) in
          let lower = kid-lower H contents fitting parent.0 p.1.face at k found.2.1 c.1.face (ap (info_of_face H) (sym face) ∙ kid.2) in
          let high = low parent.0 p.1.face at in
          let above = up p found.1 (omega arith) in
          let child = child-is-subtree (tree_in contents 1025 p.0) (tree_in contents 1024 (rep_of_info k)) (kid-child H contents fitting 1024 p.0 p.1.face at k found.2.1) in
          subst (Contains (cells_of H t))
          (ap (tree_in contents 1024) same ∙ same_levels H contents fitting 1024 1025 c.0 c.1.face (face-there c h) (omega arith) (omega arith))
          (flat_map-subtree (states_of t) (tree_in contents 1025 p.0) (tree_in contents 1024 (rep_of_info k)) above child)

  pub matching : AreHeld H t cells
  matching = record { ordered = cells-rise contents; into = into; back = back; roots = roots }
    where
      into : (c : Stored) → Contains cells c → let h = c.0 in (s : Tree) × (get (held H t) h.0 ≡ Some s) × (face_of H s ≡ c.1.face)
      into c h =
          let hash = c.0 in
          let at = face-there c h in
          let below = low hash.0 c.1.face at in
          let s = tree_in contents 1025 c.0 in
          let rep = tree-rep H contents fitting 1025 c.0 c.1.face at below in (
            s,
            ap (λ (q : Hash256). get (held H t) q.0) (sym rep) ∙ cell_is_held H t clear s (reached 1025 c h (omega arith)),
            tree-face H contents fitting 1025 c.0 c.1.face at below,
          )

      back : (q : List ℕ) (s : Tree) → get (held H t) q ≡ Some s → (c : Stored) × Contains cells c × (let h = c.0 in h.0 ≡ q) × (face_of H s ≡ c.1.face)
      back q s e =
          let there = held_is_cell H t q s e in
          let c = stored-face (rep_bytes H s) (face_of H s) (all-told s there.0) in
          ((hash_of (rep_bytes H s), c.0), c.3, there.1, sym c.2)

      roots : (d : Descr) → Contains blocks d → rep_of H (t.state d.id) ≡ d.root
      roots d h = let block = sound-block d h in block.root

  pub sound : IsSound H t
  sound = record {
    tidy = tidy;
    blocks = All-from_Contains (IsSoundBlock H t.state) blocks sound-block;
    clear = clear;
    counted = λ hash. counted hash (get (held H t) hash) refl;
  }
    where
      counted : (hash : List ℕ) (o : Option Tree) → get (held H t) hash ≡ o → count H t hash ≤ GREATEST_COUNT
      counted hash None e = subst (λ n. n ≤ GREATEST_COUNT) (sym (count-not_held H t hash e)) (omega arith)
      counted hash (Some s) e =
          let c = matching.back hash s e in
          let read = stored-read contents fits c.0 c.1 in
          let is = read.is in
          let same : references blocks cells (hash_of hash) ≡ references blocks cells c.0.0 = ap (λ (q : List ℕ). references blocks cells (hash_of q)) (sym c.2) in
          subst (λ n. n ≤ GREATEST_COUNT) (count-is c.0 c.1 ∙ sym same ∙ sym (counts-match H t cells matching hash)) is.few

  -- ---- and these are its contents

  abbrev world : trees.World
  world = shown t

  -- the record of a stored cell is that of the held one
  value-is : (c : Stored) (h : Contains cells c) → let hash = c.0 in option_map (record_value H world hash.0) (get (held H t) hash.0) ≡ Some (record_text c.1.count c.1.face)
  value-is c h =
      let hash = c.0 in
      let s = matching.into c h in
      ap (option_map (record_value H world hash.0)) s.1
      ∙ ap₂ (λ (n : ℕ) (f : FaceView). Some (record_text n f)) (counts-match H t cells matching hash.0 ∙ sym (count-is c h)) s.2

  cells-are : (q : List ℕ) (o : Option (List ℕ)) → get contents.cells q ≡ o → option_map plain_record o ≡ option_map (record_value H world q) (get (held H t) q)
  cells-are q None e = by (get (held H t) q) refl
    where
      by : (o : Option Tree) → get (held H t) q ≡ o → None ≡ option_map (record_value H world q) o
      by None f = refl
      by (Some s) f =
          let c = matching.back q s f in
          let hash = c.0.0 in
          let read = stored-read contents fits c.0 c.1 in
          let at = table-get contents.cells (hash.0, read.bytes) read.there in
          absurd (none-some read.bytes (sym e ∙ ap (get contents.cells) (sym c.2) ∙ at))
  cells-are q (Some bytes) e =
      let entry = table-got contents.cells q bytes e in
      let x = entry.0 in
      let good = recorded x.0 (record_in x.1) (first_of-none record_fault (finite.entries contents.cells) none.records x entry.1) in
      let c : Stored = (hash_of x.0, good.0) in
      let there = of-told cell_of (finite.entries contents.cells) x c entry.1 (ap (read_cell x.0) good.1) in
      let fit = All-contains IsCellEntry (finite.entries contents.cells) x (All-from_recursion IsCellEntry (finite.entries contents.cells) fits.cells) entry.1 in
      let found = records.is_found x.1 (Ok good.0) fit.value (sym good.1) in
      ap (λ (b : List ℕ). Some (plain_record b)) (sym entry.3)
      ∙ ap Some (plain-of good.0 x.1 found.1 good.1)
      ∙ sym (value-is c there)
      ∙ sym (ap (λ (k : List ℕ). option_map (record_value H world k) (get (held H t) k)) entry.2)

  described : (d : Descr) → Contains blocks d → descr_entry H (block_of t d) ≡ (key_of d.id, descr_text d)
  described d h = let block = sound-block d h in
      ap₂ (λ (root : Hash256) (depth : ℕ). (key_of d.id, descr_text (record { id = d.id; parents = d.parents; root = root; depth = depth; tops = d.tops; leaving = d.leaving }))) block.root block.depth

  descs-are : map (descr_entry H) (map (block_of t) blocks) ≡ finite.entries contents.descs
  descs-are = same-rising by_key by_key-total (map (descr_entry H) (map (block_of t) blocks)) (finite.entries contents.descs) rise (table-in_order contents.descs) into back
    where
      rise : AreInOrder (map (descr_entry H) (map (block_of t) blocks))
      rise =
          rises-map (on (λ (b : trees.Block). b.id) id_cmp) by_key (descr_entry H) (map (block_of t) blocks)
          (λ x y in-x in-y less.
          let from-x = Contains-map (block_of t) blocks x in-x in
          let from-y = Contains-map (block_of t) blocks y in-y in
          let read-x = block-read contents fits from-x.0 from-x.1 in
          let read-y = block-read contents fits from-y.0 from-y.1 in
          let is-x = read-x.is in
          let is-y = read-y.is in
          ap₂ (λ (a b : trees.Block). byte_cmp (key_of a.id) (key_of b.id)) (sym from-x.2) (sym from-y.2)
          ∙ sym (id_cmp_is (let d = from-x.0 in d.id) (let d = from-y.0 in d.id) is-x.id is-y.id)
          ∙ ap₂ (λ (a b : trees.Block). id_cmp a.id b.id) from-x.2 from-y.2 ∙ less)
          (rises-map (on (λ (d : Descr). d.id) id_cmp) (on (λ (b : trees.Block). b.id) id_cmp) (block_of t) blocks (λ x y in-x in-y less. less) (blocks-rise contents fits))

      into : (e : Entry) → Contains (map (descr_entry H) (map (block_of t) blocks)) e → Contains (finite.entries contents.descs) e
      into e h =
          let b = Contains-map (descr_entry H) (map (block_of t) blocks) e h in
          let d = Contains-map (block_of t) blocks b.0 b.1 in
          let read = block-read contents fits d.0 d.1 in
          subst (Contains (finite.entries contents.descs))
          (ap₂ (λ (k v : List ℕ). (k, v)) read.key read.text ∙ sym (described d.0 d.1) ∙ ap (descr_entry H) d.2 ∙ b.2)
          read.there

      back : (e : Entry) → Contains (finite.entries contents.descs) e → Contains (map (descr_entry H) (map (block_of t) blocks)) e
      back e h =
          let good = described_entry e.0 (descr_in e.0 e.1) (first_of-none desc_fault (finite.entries contents.descs) none.descs e h) in
          let d = good.0 in
          let there = of-told descr_of (finite.entries contents.descs) e d h (ap read_descr good.1) in
          let entry = All-contains IsDescEntry (finite.entries contents.descs) e (All-from_recursion IsDescEntry (finite.entries contents.descs) fits.descs) h in
          let found = descriptions.is_found e.0 e.1 (Ok d) entry.len entry.key entry.value good.1 in
          subst (Contains (map (descr_entry H) (map (block_of t) blocks)))
          (described d there ∙ ap₂ (λ (k v : List ℕ). (k, v)) (sym found.2) (sym found.3))
          (Contains-mapped (descr_entry H) (map (block_of t) blocks) (block_of t d) (Contains-mapped (block_of t) blocks d there))

  pub contents-are : IsContentsOf H world contents
  contents-are =
      let image = image_of H world in
      let cells_same : plain_cells contents.cells ≡ image.cells = same_table (plain_cells contents.cells) image.cells (λ q.
      get-plain_cells contents.cells q ∙ cells-are q (get contents.cells q) refl ∙ sym (image-cell H world q)) in
      let descs_same : contents.descs ≡ image.descs = same_table contents.descs image.descs (λ q.
      finite.get-entries contents.descs q ∙ ap (finite.find byte_cmp q) (sym descs-are) ∙ sym (get-from_entries nat_list_cmp_total (map (descr_entry H) (map (block_of t) blocks)) q)) in
      record { plainly = ap₂ (λ (a b : Table). record { cells = a; descs = b }) cells_same descs_same }

-- What is so of contents of which nothing is refused.
use Rattle.std.proofs.Common.{◌≡◌, ℕ, true, List, Option, Some, None, Result, Ok, Err, Contains, refl, sym, ap, ap₂, ◌∙◌, subst}
use Rattle.std.specs.Prelude.{is_some}
use Rattle.std.specs.Ordering.{on}
use Rattle.std.specs.FinMap as finite
use Rattle.std.proofs.lemmas.Option.{none-some, same_Some}
use Rattle.std.proofs.lemmas.List.Elements.{All-contains, All-from_recursion}
use Rattle.cd_base.specs.declared.hash.Hash256.{Hash256}
use Rattle.cd_block.specs.declared.description.Descr.{Descr}
use Rattle.cd_block.specs.declared.description.DescrFault.{DescrFault}
use Rattle.cd_block.specs.Block.{key_of, id_cmp}
use Rattle.cd_block.specs.Description.{descr_text, IsDescr, IsDescrFit}
use Rattle.cd_block.specs.Reading.{descr_in}
use Rattle.cd_block.proofs.Descriptions as descriptions
use Rattle.cd_block.proofs.Order.{id_cmp_is}
use Rattle.cd_cell.proofs.Distinct.{Rises}
use Rattle.cd_record.specs.declared.record.Record.{Record}
use Rattle.cd_record.specs.declared.record_fault.RecordFault.{RecordFault}
use Rattle.cd_record.specs.Records.{IsRecord, IsTextOf}
use Rattle.cd_record.specs.RecordReading.{record_in}
use Rattle.cd_record.proofs.RecordLaws as records
use Rattle.cd_keeper.specs.Contents.{Contents}
use Rattle.cd_restart.specs.Lists.{first_of}
use Rattle.cd_restart.specs.Stored.{Entry, Stored, read_descr, read_cell, descr_of, cell_of, blocks_in, cells_in, IsDescEntry, IsCellEntry, AreBytes}
use Rattle.cd_restart.specs.ScanFaults.{desc_fault, lineage_refusal, record_fault, key_fault, missing_fault, kid_fault, root_fault, depth_fault, count_fault, cells_fault, kids_fault, roots_fault, scan_fault}
use Rattle.cd_restart.proofs.Faults.{neither}
use Rattle.cd_world.proofs.Tables.{byte_cmp, by_key, table-in_order}
use Rattle.cd_restart.proofs.ReadLists.{told-of, of-told, rises-told}
use Rattle.cd_restart.proofs.UnfoldedCells.{hash_of}

-- each refusal by itself
pub record NoFault (H : List ℕ → Hash256) (contents : Contents) : Type 0 where
  pub descs : first_of desc_fault (finite.entries contents.descs) ≡ None
  pub lineages : first_of lineage_refusal (blocks_in contents) ≡ None
  pub records : first_of record_fault (finite.entries contents.cells) ≡ None
  pub keys : first_of (key_fault H) (cells_in contents) ≡ None
  pub missing : first_of (missing_fault H (cells_in contents)) (cells_in contents) ≡ None
  pub kids : first_of (kid_fault H (cells_in contents)) (cells_in contents) ≡ None
  pub roots : first_of (root_fault (cells_in contents)) (blocks_in contents) ≡ None
  pub depths : first_of (depth_fault (cells_in contents)) (blocks_in contents) ≡ None
  pub counts : first_of (count_fault (blocks_in contents) (cells_in contents)) (cells_in contents) ≡ None

pub no_fault : (H : List ℕ → Hash256) (contents : Contents) → scan_fault H contents ≡ None → NoFault H contents
no_fault H contents e =
    let blocks = blocks_in contents in
    let cells = cells_in contents in
    let a = neither (first_of desc_fault (finite.entries contents.descs)) _ e in
    let b = neither (first_of lineage_refusal blocks) _ a.1 in
    let c = neither (cells_fault H (finite.entries contents.cells) cells) _ b.1 in
    let d = neither (kids_fault H cells cells) _ c.1 in
    let f = neither (roots_fault cells blocks) _ d.1 in
    let c' = neither (first_of record_fault (finite.entries contents.cells)) (first_of (key_fault H) cells) c.0 in
    let d' = neither (first_of (missing_fault H cells) cells) (first_of (kid_fault H cells) cells) d.0 in
    let f' = neither (first_of (root_fault cells) blocks) (first_of (depth_fault cells) blocks) f.0 in
    record { descs = a.0; lineages = b.0; records = c'.0; keys = c'.1; missing = d'.0; kids = d'.1; roots = f'.0; depths = f'.1; counts = f.1 }

-- ---- what is read

pub descr-read : (x : Result Descr DescrFault) (d : Descr) → read_descr x ≡ Some d → x ≡ Ok d
descr-read (Ok c) d e = ap Ok (same_Some c d e)
descr-read (Err fault) d e = absurd (none-some d e)

pub cell-read : (key : List ℕ) (x : Result Record RecordFault) (c : Stored) → read_cell key x ≡ Some c → (x ≡ Ok c.1) × (hash_of key ≡ c.0)
cell-read key (Ok r) c e = let same = same_Some (hash_of key, r) c e in (ap (λ (y : Stored). Ok y.1) same, ap (λ (y : Stored). y.0) same)
cell-read key (Err fault) c e = absurd (none-some c e)

pub some_is : {A : Type 0} (o : Option A) → is_some o ≡ true → (x : A) × (o ≡ Some x)
some_is None e = absurd cc
some_is (Some x) e = (x, refl)

-- a block that is read
pub record IsBlockRead (contents : Contents) (d : Descr) : Type 0 where
  pub entry : Entry
  pub there : Contains (finite.entries contents.descs) entry
  pub is : IsDescr d
  pub fit : IsDescrFit d
  pub key : entry.0 ≡ key_of d.id
  pub text : entry.1 ≡ descr_text d

-- a cell that is read
pub record IsCellRead (contents : Contents) (c : Stored) : Type 0 where
  pub bytes : List ℕ
  pub there : Contains (finite.entries contents.cells) (let h = c.0 in h.0, bytes)
  pub is : IsRecord c.1
  pub text : IsTextOf c.1 bytes
  pub read : record_in bytes ≡ Ok c.1

module _ (contents : Contents) (fits : AreBytes contents) where
  pub block-read : (d : Descr) → Contains (blocks_in contents) d → IsBlockRead contents d
  block-read d h =
      let from = told-of descr_of (finite.entries contents.descs) d h in
      let e = from.0 in
      let entry = All-contains IsDescEntry (finite.entries contents.descs) e (All-from_recursion IsDescEntry (finite.entries contents.descs) fits.descs) from.1 in
      let read = descriptions.is_found e.0 e.1 (Ok d) entry.len entry.key entry.value (descr-read (descr_in e.0 e.1) d from.2) in
      record { entry = e; there = from.1; is = read.0; fit = read.1; key = read.2; text = read.3 }

  pub stored-read : (c : Stored) → Contains (cells_in contents) c → IsCellRead contents c
  stored-read c h =
      let from = told-of cell_of (finite.entries contents.cells) c h in
      let e = from.0 in
      let read = cell-read e.0 (record_in e.1) c from.2 in
      let entry = All-contains IsCellEntry (finite.entries contents.cells) e (All-from_recursion IsCellEntry (finite.entries contents.cells) fits.cells) from.1 in
      let found = records.is_found e.1 (Ok c.1) entry.value (sym read.0) in
      let key : e.0 ≡ (let h = c.0 in h.0) = ap (λ (h : Hash256). h.0) read.1 in
      record {
        bytes = e.1;
        there = subst (λ (q : List ℕ). Contains (finite.entries contents.cells) (q, e.1)) key from.1;
        is = found.0;
        text = found.1;
        read = read.0;
      }

  -- both stand in their order
  pub blocks-rise : Rises (on (λ (d : Descr). d.id) id_cmp) (blocks_in contents)
  blocks-rise = rises-told descr_of by_key (on (λ (d : Descr). d.id) id_cmp) (finite.entries contents.descs)
      (λ x y u v in-x in-y is-u is-v less.
      let read-u = block-read u (of-told descr_of (finite.entries contents.descs) x u in-x is-u) in
      let read-v = block-read v (of-told descr_of (finite.entries contents.descs) y v in-y is-v) in
      let at = λ (e : Entry) (d : Descr) (in-e : Contains (finite.entries contents.descs) e) (is-d : descr_of e ≡ Some d).
      let entry = All-contains IsDescEntry (finite.entries contents.descs) e (All-from_recursion IsDescEntry (finite.entries contents.descs) fits.descs) in-e in
      descriptions.is_found e.0 e.1 (Ok d) entry.len entry.key entry.value (descr-read (descr_in e.0 e.1) d is-d) in
      let key-u = at x u in-x is-u in
      let key-v = at y v in-y is-v in
      let is_u = read-u.is in
      let is_v = read-v.is in
      id_cmp_is u.id v.id is_u.id is_v.id ∙ ap₂ byte_cmp (sym key-u.2) (sym key-v.2) ∙ less)
      (table-in_order contents.descs)

pub cells-rise : (contents : Contents) → Rises (on (λ (c : Stored). let h = c.0 in h.0) byte_cmp) (cells_in contents)
cells-rise contents = rises-told cell_of by_key (on (λ (c : Stored). let h = c.0 in h.0) byte_cmp) (finite.entries contents.cells)
    (λ x y u v in-x in-y is-u is-v less.
    let key-u = cell-read x.0 (record_in x.1) u is-u in
    let key-v = cell-read y.0 (record_in y.1) v is-v in
    ap₂ byte_cmp (ap (λ (h : Hash256). h.0) (sym key-u.1)) (ap (λ (h : Hash256). h.0) (sym key-v.1)) ∙ less)
    (table-in_order contents.cells)

-- Trusted: why a keeper's contents aren't those of a store: each refusal at the first key that has it, in the order of the keys,
-- and all keys of one refusal before the next refusal.
use Rattle.std.specs.Prelude.{ℕ, ◌+◌, ◌==◌, Bool, true, false, not, ◌&&◌, ◌||◌, List, [], ◌∷◌, find, Option, Some, None, is_none, is_some, Result, Ok, Err}
use Rattle.std.specs.Option.{option_map, option_or}
use Rattle.std.specs.List.{count_by, sum_by}
use Rattle.std.specs.FinMap as finite
use Rattle.cd_base.specs.declared.hash.Hash256.{Hash256}
use Rattle.cd_block.specs.declared.description.Descr.{Descr}
use Rattle.cd_block.specs.declared.description.DescrFault.{DescrFault}
use Rattle.cd_block.specs.Block.{key_of}
use Rattle.cd_block.specs.Lineage.{lineage_fault}
use Rattle.cd_block.specs.Reading.{descr_in}
use Rattle.cd_cell.specs.declared.info.ChildInfo.{ChildInfo}
use Rattle.cd_cell.specs.Equality.{same_hash, same_info}
use Rattle.cd_cell.specs.Infos.{rep_of_info}
use Rattle.cd_cell.specs.Levels.{mask_of_face, info_of_face, rep_of_face, height_of_face}
use Rattle.cd_record.specs.declared.record.Record.{Record}
use Rattle.cd_record.specs.declared.record_fault.RecordFault.{RecordFault}
use Rattle.cd_record.specs.RecordReading.{record_in}
use Rattle.cd_keeper.specs.Contents.{Contents}
use Rattle.cd_restart.specs.declared.scan_fault.ScanFault.{ScanFault}
use Rattle.cd_restart.specs.declared.scan_fault.ScanFault.TheVariants as refusal
use Rattle.cd_restart.specs.Lists.{first_of}
use Rattle.cd_restart.specs.RowView.{RowView}
use Rattle.cd_restart.specs.Stored.{Entry, Stored, blocks_in, cells_in}

-- no refusal where the test holds
abbrev pub unless : Bool → ScanFault → Option ScanFault
unless true fault = None
unless false fault = Some fault

-- ---- descriptions

abbrev pub undescribed : List ℕ → Result Descr DescrFault → Option ScanFault
undescribed key (Ok d) = None
undescribed key (Err fault) = Some (refusal.Desc key)

-- a description isn't read
abbrev pub desc_fault : Entry → Option ScanFault
desc_fault e = undescribed e.0 (descr_in e.0 e.1)

abbrev pub is_nothing : {A : Type 0} → List A → Bool
is_nothing [] = true
is_nothing (x ∷ xs) = false

-- the block may have its parents, and a zero state has the root that its name says
abbrev pub has_lineage : Descr → Bool
has_lineage d = is_none (lineage_fault d.id d.parents) && (not (is_nothing d.parents) || same_hash d.id.root d.root)

abbrev pub lineage_refusal : Descr → Option ScanFault
lineage_refusal d = unless (has_lineage d) (refusal.Lineage (key_of d.id))

-- ---- records

abbrev pub unrecorded : List ℕ → Result Record RecordFault → Option ScanFault
unrecorded key (Ok r) = None
unrecorded key (Err fault) = Some (refusal.Record (record { 0 = key }) fault)

-- a record isn't read
abbrev pub record_fault : Entry → Option ScanFault
record_fault e = unrecorded e.0 (record_in e.1)

-- the record under a hash
abbrev pub record_at : List Stored → Hash256 → Option Record
record_at cells hash = option_map (λ c. c.1) (find (λ c. same_hash hash c.0) cells)

module _ (H : List ℕ → Hash256) where
  -- a cell's hash isn't its key
  abbrev pub key_fault : Stored → Option ScanFault
  key_fault c =
      unless (same_hash (rep_of_face H c.1.face) c.0) (refusal.WrongKey c.0 (rep_of_face H c.1.face))

  module _ (cells : List Stored) where
    -- no record stands under a child's hash
    abbrev pub missing_kid : Hash256 → ChildInfo → Option ScanFault
    missing_kid parent kid =
        unless (is_some (record_at cells (rep_of_info kid))) (refusal.Missing parent (rep_of_info kid))

    abbrev pub missing_fault : Stored → Option ScanFault
    missing_fault c = first_of (missing_kid c.0) c.1.face.kids

    -- what a parent says of a child is what the cell under the child's hash shows
    abbrev pub is_shown : ChildInfo → Option Record → Bool
    is_shown kid None = true
    is_shown kid (Some r) = same_info kid (info_of_face H r.face)

    abbrev pub other_kid : Hash256 → ChildInfo → Option ScanFault
    other_kid parent kid =
        unless (is_shown kid (record_at cells (rep_of_info kid))) (refusal.ChildInfo parent (rep_of_info kid))

    abbrev pub kid_fault : Stored → Option ScanFault
    kid_fault c = first_of (other_kid c.0) c.1.face.kids

-- ---- roots and counts

abbrev pub is_plain : Option Record → Bool
is_plain None = false
is_plain (Some r) = mask_of_face r.face == 0

module _ (cells : List Stored) where
  -- no record of a cell of mask 0 stands under a block's root
  abbrev pub root_fault : Descr → Option ScanFault
  root_fault d = unless (is_plain (record_at cells d.root)) (refusal.RootMissing (key_of d.id) d.root)

  -- the state's depth isn't the stated one
  abbrev pub depth_refusal : Descr → Option Record → Option ScanFault
  depth_refusal d None = None
  depth_refusal d (Some r) =
      unless (d.depth == height_of_face r.face) (refusal.RootDepth (key_of d.id) d.depth (height_of_face r.face))

  abbrev pub depth_fault : Descr → Option ScanFault
  depth_fault d = depth_refusal d (record_at cells d.root)

-- the references to a hash: one for each block of which it is the root, and one for each place in a stored cell
abbrev pub places_in : Hash256 → Stored → ℕ
places_in hash c = count_by (λ k. same_hash (rep_of_info k) hash) c.1.face.kids

abbrev pub references : List Descr → List Stored → Hash256 → ℕ
references blocks cells hash = count_by (λ d. same_hash d.root hash) blocks + sum_by (places_in hash) cells

-- a stored count isn't the number of references
abbrev pub count_fault : List Descr → List Stored → Stored → Option ScanFault
count_fault blocks cells c =
    unless (c.1.count == references blocks cells c.0) (refusal.Count c.0 c.1.count (references blocks cells c.0))

-- the same of what a scan remembers of a cell
abbrev pub row_fault : RowView → Option ScanFault
row_fault r = unless (r.stored == r.counted) (refusal.Count r.hash r.stored r.counted)

-- ---- all refusals, in their order

abbrev pub roots_fault : List Stored → List Descr → Option ScanFault
roots_fault cells blocks = option_or (first_of (root_fault cells) blocks) (first_of (depth_fault cells) blocks)

module _ (H : List ℕ → Hash256) where
  abbrev pub cells_fault : List Entry → List Stored → Option ScanFault
  cells_fault es cells = option_or (first_of record_fault es) (first_of (key_fault H) cells)

  abbrev pub kids_fault : List Stored → List Stored → Option ScanFault
  kids_fault all cells = option_or (first_of (missing_fault H all) cells) (first_of (kid_fault H all) cells)

  -- the refusals of cells that were read, and of blocks over them
  abbrev pub counted_fault : List Descr → List Stored → Option ScanFault
  counted_fault blocks cells =
      option_or (kids_fault cells cells)
      (option_or (roots_fault cells blocks)
      (first_of (count_fault blocks cells) cells))

  -- why contents aren't those of a sound world
  abbrev pub scan_fault : Contents → Option ScanFault
  scan_fault contents =
      let blocks = blocks_in contents in
      let cells = cells_in contents in
      option_or (first_of desc_fault (finite.entries contents.descs))
      (option_or (first_of lineage_refusal blocks)
      (option_or (cells_fault (finite.entries contents.cells) cells)
      (counted_fault blocks cells)))

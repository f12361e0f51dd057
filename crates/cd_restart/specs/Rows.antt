-- Inner: what a scan remembers of the stored cells.
use Rattle.std.specs.Prelude.{◌≡◌, ℕ, List, map, find, slice_index_or, AllPairs, Option, Some, None}
use Rattle.std.specs.List.{count_by, flat_map}
use Rattle.cd_base.specs.declared.hash.Hash256.{Hash256}
use Rattle.cd_block.specs.declared.description.Descr.{Descr}
use Rattle.cd_cell.specs.Equality.{same_hash}
use Rattle.cd_cell.specs.Infos.{rep_of_info}
use Rattle.cd_cell.specs.Levels.{info_of_face}
use Rattle.cd_restart.specs.RowView.{RowView}
use Rattle.cd_cell.specs.Export.{hash_cmp}
use Rattle.cd_record.specs.declared.record.Record.{Record}
use Rattle.std.specs.declared.cmp.Ordering.TheVariants.{Less}
use Rattle.cd_restart.specs.Stored.{Stored}
use Rattle.cd_restart.specs.ScanFaults.{record_at}

-- the references of cells, one for each place, and of blocks' roots
abbrev pub kid_references : List Stored → List Hash256
kid_references cells = flat_map (λ c. map rep_of_info c.1.face.kids) cells

abbrev pub root_references : List Descr → List Hash256
root_references blocks = map (λ d. d.root) blocks

module _ (H : List ℕ → Hash256) where
  -- a stored cell after some references were counted
  abbrev pub row_after : List Hash256 → Stored → RowView
  row_after hashes c = record {
    hash = c.0;
    stored = c.1.count;
    counted = count_by (λ h. same_hash h c.0) hashes;
    shown = info_of_face H c.1.face;
  }

  abbrev pub rows_of : List Stored → List Hash256 → List RowView
  rows_of cells hashes = map (row_after hashes) cells

-- the row with a hash
abbrev pub row_at : List RowView → Hash256 → Option RowView
row_at rows hash = find (λ r. same_hash hash r.hash) rows

abbrev pub AreRising : List RowView → Type 0
AreRising rows = AllPairs (λ a b. hash_cmp a.hash b.hash ≡ Less) rows

-- a place is that of the row with a hash; there is none where no row has it
abbrev pub IsPlaceOf : List RowView → Hash256 → Option ℕ → Type 0
IsPlaceOf rows hash None = row_at rows hash ≡ None
IsPlaceOf rows hash (Some place) = (d : RowView) → row_at rows hash ≡ Some (slice_index_or rows place d)

module _ (H : List ℕ → Hash256) where
  -- the rows are those of these cells, in the order of their hashes, after these references
  pub record AreRowsOf (cells : List Stored) (hashes : List Hash256) (rows : List RowView) : Type 0 where
    pub are : rows ≡ rows_of H cells hashes
    pub rising : AreRising rows

  -- the row in a place shows what the stored cell with a hash does; there is none where no cell has it
  abbrev pub IsRowOf : List Stored → Hash256 → List RowView → Option ℕ → Type 0
  IsRowOf cells hash rows None = record_at cells hash ≡ None
  IsRowOf cells hash rows (Some place) =
      (r : Record) × (record_at cells hash ≡ Some r) × ((d : RowView) → (slice_index_or rows place d).shown ≡ info_of_face H r.face)

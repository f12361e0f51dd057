-- Trusted: which text an export is the plan of, and which of its cells a part of the text meets.
use Rattle.std.specs.Prelude.{◌≡◌, ℕ, ◌+◌, ◌<◌, ◌&&◌, nat_lt, List, length, map, take, slice_index, slice_index_or, Bool, count_by}
use Rattle.std.specs.List.{range_with_len}
use Rattle.cd_base.specs.Checksum.{crc32c}
use Rattle.cd_base.specs.Numbers.{little}
use Rattle.cd_base.specs.declared.hash.Hash256.{Hash256}
use Rattle.cd_cell.specs.Tree.{Tree}
use Rattle.cd_cell.specs.Export.{distinct_cells}
use Rattle.cd_cell.specs.Listings.{listed_at, new_cell_of}
use Rattle.cd_cell.specs.declared.new_cell.NewCell.{NewCell}
use Rattle.cd_boc_write.specs.declared.layout.Layout.{Layout}
use Rattle.cd_boc_write.specs.Exports.{refs_among, export_frame, header_of}
use Rattle.cd_boc_write.specs.Frames.{body_text}
use Rattle.cd_boc_write.specs.Layouts.{start_of, data_len}
use Rattle.cd_boc_write.specs.LayoutOf.{IsLayoutOf}
use Rattle.cd_slices.specs.declared.export.Export.{Export}
use Rattle.cd_slices.specs.declared.export.PlannedCell.{PlannedCell}

-- a planned cell has the numbers of a listed cell's children
abbrev pub AreRefsOf : List NewCell → NewCell → PlannedCell → Type 0
AreRefsOf cells c planned = take (length c.face.kids) planned.refs ≡ refs_among cells c.face.kids

-- the cells' hashes in the order of the export, the numbers of their children, and the rest of the text
pub record IsPlanOf (cells : List NewCell) (export : Export) : Type 0 where
  pub hashes : map (λ c. c.hash) export.cells.items ≡ map (λ c. c.hash) cells
  pub refs : (k : ℕ) (d : PlannedCell) → k < length cells → AreRefsOf cells (listed_at cells k) (slice_index_or export.cells.items k d)
  pub layout : IsLayoutOf cells export.layout
  pub head : export.head.items ≡ header_of (export_frame cells)
  pub crc : export.crc ≡ little 4 (crc32c (body_text (export_frame cells)))

-- the plan of the export of a tree
abbrev pub IsPlanOfTree : (List ℕ → Hash256) → Tree → Export → Type 0
IsPlanOfTree H t export = IsPlanOf (map (new_cell_of H) (distinct_cells H t)) export

-- whether the text of a cell has a byte between two offsets
abbrev pub is_met : Layout → ℕ → ℕ → ℕ → Bool
is_met layout from until k = nat_lt (layout.header_len + start_of layout.ends k) until && nat_lt from (layout.header_len + slice_index layout.ends k)

-- how many cells have one there
abbrev pub cells_met : Layout → ℕ → ℕ → ℕ
cells_met layout from until = count_by (is_met layout from until) (range_with_len 0 (length layout.ends))

-- the bytes of the whole text: what stands before the cell data, these, and the checksum
abbrev pub text_len : Export → ℕ
text_len export = export.layout.header_len + data_len export.layout.ends + 4

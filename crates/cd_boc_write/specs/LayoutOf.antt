-- Trusted: the layout of an export text.
use Rattle.std.specs.Prelude.{◌≡◌, ℕ, List, [], ◌∷◌, length}
use Rattle.cd_cell.specs.declared.new_cell.NewCell.{NewCell}
use Rattle.cd_boc_write.specs.declared.layout.Layout.{Layout}
use Rattle.cd_boc_write.specs.Exports.{export_shape, export_frame, header_text, header_of}
use Rattle.cd_boc_write.specs.Layouts.{data_len}

-- all that stands before the cell data of an export with this layout
abbrev pub header_laid : Layout → List ℕ
header_laid l = header_text (export_shape l.size l.off_bytes) (length l.ends) (0 ∷ []) l.ends (data_len l.ends)

-- the sizes, the bytes before the cell data, and the ends of the cells are those of the export text
pub record IsLayoutOf (cells : List NewCell) (layout : Layout) : Type 0 where
  pub size : (export_frame cells).shape.size ≡ layout.size
  pub off_bytes : (export_frame cells).shape.off_bytes ≡ layout.off_bytes
  pub header : length (header_of (export_frame cells)) ≡ layout.header_len
  pub index : (export_frame cells).index ≡ layout.ends

-- Inner: the entries of a bag, listed by their keys.
use Rattle.std.specs.Prelude.{List}
use Rattle.cd_cell.specs.declared.export_key.ExportKey.{ExportKey}
use Rattle.cd_cell.specs.declared.new_cell.NewCell.{NewCell}
use Rattle.cd_cell.specs.FaceView.{FaceView}
use Rattle.cd_cell.specs.Bags.{face_at}

-- the cell of a key, as it is listed
abbrev pub cell_of_key : List FaceView → ExportKey → NewCell
cell_of_key cells key = record { hash = key.rank.hash; face = face_at cells key.number }

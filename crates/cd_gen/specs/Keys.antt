-- Inner: listed cells by where they stand in an export.
use Rattle.std.specs.Prelude.{◌≡◌, ℕ, ◌<◌, List, length, map, slice_index_or}
use Rattle.cd_cell.specs.declared.info.ChildInfo.{ChildInfo}
use Rattle.cd_cell.specs.declared.export_key.ExportKey.{ExportKey}
use Rattle.cd_cell.specs.declared.new_cell.NewCell.{NewCell}
use Rattle.cd_cell.specs.Infos.{rep_of_info}
use Rattle.cd_cell.specs.Keys.{export_key}
use Rattle.cd_cell.specs.Listings.{listed_at}
use Rattle.cd_gen.specs.declared.cell.Cell.{Cell}

-- a listed cell under its hash, and that of a key
abbrev pub listed_cell : Cell → NewCell
listed_cell c = record { hash = rep_of_info c.info; face = c.face }

abbrev pub cell_at : List Cell → ExportKey → NewCell
cell_at cells key = listed_at (map listed_cell cells) key.number

-- the keys of cells by what they show, in their places
pub record AreKeys (infos : List ChildInfo) (keys : List ExportKey) (count : ℕ) : Type 0 where
  pub counted : length keys ≡ count
  pub made : (k : ℕ) (d : ExportKey) (e : ChildInfo) → k < count → slice_index_or keys k d ≡ export_key (slice_index_or infos k e) k

use Rattle.std.proofs.Common.{◌≡◌, ◌<◌, ◌++◌, length, map, ℕ}
use Rattle.std.specs.List.{AllByRecursion}
use Rattle.cd_cell.specs.declared.export_key.ExportRank.{ExportRank}
use Rattle.cd_slices.specs.Gathering.{cell_in}
use Rattle.cd_slices.proofs.listing.cells_of.Given as goal

abbrev pub invariant-loop-rank : goal.invariant-loop-rank
invariant-loop-rank l = record {
  low : AllByRecursion (λ (e : ExportRank × ℕ). e.1 < length l.faces) l.rank-iterator;
  made : l.cells.items ++ map (cell_in l.faces) l.rank-iterator ≡ map (cell_in l.faces) l.places.entries;
}

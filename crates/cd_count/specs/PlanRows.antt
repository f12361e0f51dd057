-- Trusted: a plan as contracts see it: a row for each hash that was looked at, in the order of the hashes.
use Rattle.std.specs.Prelude.{ℕ, ◌≤◌, List, map}
use Rattle.std.specs.List.{AllByRecursion}
use Rattle.cd_base.specs.declared.hash.Hash256.{Hash256}
use Rattle.cd_block.specs.declared.description.Descr.{Descr}
use Rattle.cd_block.specs.Block.{key_of}
use Rattle.cd_block.specs.Description.{descr_text}
use Rattle.cd_cell.specs.Fit.{IsFaceFit}
use Rattle.cd_cell.specs.FaceView.{FaceView}
use Rattle.cd_record.specs.declared.limits.TheConstants.{GREATEST_COUNT}
use Rattle.cd_nodes.specs.Plans as plans
use Rattle.cd_count.specs.declared.rows.Row.{Row}
use Rattle.cd_count.specs.Changes.{Rows}
use Rattle.cd_base.specs.Numbers.{IsBytes}

abbrev pub row_of : Row → plans.Row FaceView
row_of r = record { stored = r.stored; now = r.count; face = r.face }

-- an entry by the bytes of its hash
abbrev pub row_entry : Hash256 × Row → List ℕ × plans.Row FaceView
row_entry e = (e.0.0, row_of e.1)

abbrev pub rows_of : List (Hash256 × Row) → Rows
rows_of es = map row_entry es

-- a record can be written of the row: its face is a cell's, and its count is in range
pub record IsRowFit (row : plans.Row FaceView) : Type 0 where
  pub face : IsFaceFit row.face
  pub few : row.now ≤ GREATEST_COUNT

abbrev pub AreRowsFit : Rows → Type 0
AreRowsFit rows = AllByRecursion (λ e. IsRowFit e.1) rows

-- the puts of some descriptions
abbrev pub descr_puts : List Descr → List (List ℕ × List ℕ)
descr_puts ds = map (λ d. (key_of d.id, descr_text d)) ds

-- each value is a list of bytes
abbrev pub AreOfBytes : List (List ℕ × List ℕ) → Type 0
AreOfBytes es = AllByRecursion (λ e. IsBytes e.1) es

-- Trusted: the hidden cells of a half that a known one stands for.
use Rattle.std.specs.Prelude.{ℕ, Bool, ◌&&◌, List}
use Rattle.std.specs.List.{list_any}
use Rattle.cd_base.specs.declared.hash.Hash256.{Hash256}
use Rattle.cd_cell.specs.declared.info.ChildInfo.{ChildInfo}
use Rattle.cd_cell.specs.Tree.{Tree, info_of, face_of}
use Rattle.cd_cell.specs.Updates.{is_hidden, stands_for}
use Rattle.cd_cell.specs.Places.{Place, places}

module _ (H : List ℕ → Hash256) (known : ChildInfo) where
  -- the cell in a place is hidden, and the known one stands for it
  abbrev pub hides_at : Place → Bool
  hides_at p = is_hidden p.depth (face_of H p.tree) && stands_for (info_of H p.tree) p.depth known

  -- a half hides a cell that the known one stands for: the graft has it there, where it is the first known one
  abbrev pub hides : Tree → Bool
  hides half = list_any hides_at (places H half 0)

-- Inner: a walk over a half that is grafted, and how far the graft has come.
use Rattle.std.specs.Prelude.{◌≡◌, ℕ, ◌+◌, ◌^◌, ◌<◌, ◌≤◌, List, length, All, slice_index_or, Option, None}
use Rattle.cd_base.specs.declared.hash.Hash256.{Hash256}
use Rattle.cd_cell.specs.declared.info.ChildInfo.{ChildInfo}
use Rattle.cd_cell.specs.CellFaults.{no_info}
use Rattle.cd_cell.specs.Tree.{mask_of}
use Rattle.cd_cell.specs.BagView.{BagView}
use Rattle.cd_cell.specs.Bags.{bag_tree}
use Rattle.cd_update.specs.declared.visit.Visit.{Visit}
use Rattle.cd_update.specs.EachOnce.{first_of}
use Rattle.cd_cell.specs.Places.{places}
use Rattle.cd_update.specs.Visits.{spot, visit_at, IsWalked}
use Rattle.cd_update.specs.Pairing.{IsOldInfo}
use Rattle.cd_update.specs.Grafts.{grafted_info, foreign_at}

module _ (H : List ℕ → Hash256) (known : List ChildInfo) where
  -- a walk over a half whose hidden cells are known
  pub record IsGrafting (bag : BagView) (start : Visit) (visits : List Visit) (numbers : List (Option ℕ)) : Type 0 where
    pub walked : IsWalked H bag start visits numbers
    pub low : mask_of H (bag_tree bag start.node.entry) < 2 ^ (start.node.depth + 1)
    pub found : first_of (foreign_at H known) (places H (bag_tree bag start.node.entry) start.node.depth) ≡ None
    pub old : All IsOldInfo known

  -- what was worked out of the visits from a spot on
  pub record AreGrafted (bag : BagView) (visits : List Visit) (from : ℕ) (infos : List ChildInfo) : Type 0 where
    pub counted : length infos ≡ length visits
    pub done : (k : ℕ) → k < length visits → from ≤ spot (visit_at visits k).node
        → slice_index_or infos k no_info ≡ grafted_info H known (bag_tree bag (visit_at visits k).node.entry) (visit_at visits k).node.depth

-- Inner: where cells stand in an export, by what they show.
use Rattle.std.specs.Prelude.{◌≡◌, ℕ, List, Some, IsSome}
use Rattle.std.specs.BTreeMap.{BTreeMap, get}
use Rattle.cd_base.specs.declared.hash.Hash256.{Hash256}
use Rattle.cd_cell.specs.declared.info.ChildInfo.{ChildInfo}
use Rattle.cd_cell.specs.declared.export_key.ExportRank.{ExportRank}
use Rattle.cd_cell.specs.Infos.{rep_of_info, height_of_info}
use Rattle.cd_cell.specs.Keys.{rank_cmp, rank_with}
use Rattle.cd_cell.specs.Tree.{Tree, info_of}

abbrev pub rank_of_info : ChildInfo → ExportRank
rank_of_info info = rank_with (height_of_info info) (rep_of_info info)

abbrev pub rank_of : (List ℕ → Hash256) → Tree → ExportRank
rank_of H t = rank_of_info (info_of H t)

-- the place under a rank
abbrev pub IsPlaced : BTreeMap ExportRank ℕ → ExportRank → ℕ → Type 0
IsPlaced places rank place = get rank_cmp places rank ≡ Some place

-- a rank has a place
abbrev pub IsKnown : BTreeMap ExportRank ℕ → ExportRank → Type 0
IsKnown places rank = IsSome (get rank_cmp places rank)

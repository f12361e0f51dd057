-- Inner: at most four children in an array of four, with a filler behind them.
use Rattle.std.specs.Prelude.{◌≡◌, ℕ, ◌-◌, ◌≤◌, List, ◌++◌, length, take, replicate}
use Rattle.cd_cell.specs.declared.info.ChildInfo.{ChildInfo}
use Rattle.cd_cell.specs.Infos.{no_hash}

-- what stands where no child is
abbrev pub no_kid : ChildInfo
no_kid = record { mask = 0; hashes = replicate 4 no_hash; depths = replicate 4 0 }

abbrev pub four_kids : List ChildInfo → List ChildInfo
four_kids kids = kids ++ replicate (4 - length kids) no_kid

-- the first children of the four, and the filler behind them
pub record AreKids (count : ℕ) (kids : List ChildInfo) : Type 0 where
  pub few : count ≤ 4
  pub counted : length (take count kids) ≡ count
  pub rest : kids ≡ four_kids (take count kids)

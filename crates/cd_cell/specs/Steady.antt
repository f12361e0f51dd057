-- Trusted: what a cell shows of itself at the levels that aren't significant.
use Rattle.std.specs.Prelude.{◌≡◌, ℕ, ◌+◌, ◌<◌, ◌≤◌, false}
use Rattle.cd_cell.specs.declared.info.ChildInfo.{ChildInfo}
use Rattle.cd_cell.specs.Masks.{is_significant}
use Rattle.cd_cell.specs.Infos.{info_hash, info_depth}

-- at a level that isn't significant hash and depth are those of the level below
pub record IsFlat (k : ChildInfo) : Type 0 where
  pub hashes : (l : ℕ) → l < 3 → is_significant k.mask (l + 1) ≡ false → info_hash k (l + 1) ≡ info_hash k l
  pub depths : (l : ℕ) → l < 3 → is_significant k.mask (l + 1) ≡ false → info_depth k (l + 1) ≡ info_depth k l

-- and the mask is one
pub record IsSteady (k : ChildInfo) : Type 0 where
  pub small : k.mask ≤ 7
  pub hashes : (l : ℕ) → l < 3 → is_significant k.mask (l + 1) ≡ false → info_hash k (l + 1) ≡ info_hash k l
  pub depths : (l : ℕ) → l < 3 → is_significant k.mask (l + 1) ≡ false → info_depth k (l + 1) ≡ info_depth k l

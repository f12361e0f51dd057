-- Trusted: the keys by which listed cells are put in the order of an export.
use Rattle.std.specs.Prelude.{◌≡◌, ℕ, ◌-◌, ◌≤◌, List, Contains, AllPairs}
use Rattle.std.specs.Ordering.{nat_cmp, ordering_then}
use Rattle.std.specs.declared.cmp.Ordering.{Ordering}
use Rattle.std.specs.declared.cmp.Ordering.TheVariants.{Less}
use Rattle.cd_base.specs.declared.hash.Hash256.{Hash256}
use Rattle.cd_cell.specs.declared.info.ChildInfo.{ChildInfo}
use Rattle.cd_cell.specs.declared.export_key.ExportRank.{ExportRank}
use Rattle.cd_cell.specs.declared.export_key.ExportKey.{ExportKey}
use Rattle.cd_cell.specs.Infos.{rep_of_info, height_of_info}
use Rattle.cd_cell.specs.Export.{hash_cmp}

-- the greatest height first, and then the least hash first
abbrev pub rank_cmp : ExportRank → ExportRank → Ordering
rank_cmp a b = ordering_then (nat_cmp a.lowness b.lowness) (hash_cmp a.hash b.hash)

abbrev pub rank_with : ℕ → Hash256 → ExportRank
rank_with height hash = record { lowness = 65535 - height; hash = hash }

abbrev pub key_with : ℕ → Hash256 → ℕ → ExportKey
key_with height hash number = record { rank = rank_with height hash; number = number }

-- the key of a cell that shows this
abbrev pub export_key : ChildInfo → ℕ → ExportKey
export_key info number = key_with (height_of_info info) (rep_of_info info) number

-- keys in strict order of their ranks: for each rank of the old ones the least number
pub record AreFirst (old new : List ExportKey) : Type 0 where
  pub ordered : AllPairs (λ a b. rank_cmp a.rank b.rank ≡ Less) new
  pub within : (key : ExportKey) → Contains new key → Contains old key
  pub whole : (key : ExportKey) → Contains old key
      → (first : ExportKey) × Contains new first × (first.rank ≡ key.rank) × (first.number ≤ key.number)

-- Trusted: what a record is: a count and a well-formed cell's face, each number in its range.
use Rattle.std.specs.Prelude.{◌≡◌, ℕ, ◌^◌, ◌<◌, ◌≤◌, ◌⊎◌, List, length}
use Rattle.std.specs.List.{AllByRecursion}
use Rattle.cd_cell.specs.declared.info.ChildInfo.{ChildInfo}
use Rattle.cd_cell.specs.Infos.{info_hash, info_depth}
use Rattle.cd_cell.specs.GoodFace.{IsGoodFace}
use Rattle.cd_cell.specs.Steady.{IsSteady}
use Rattle.cd_record.specs.declared.limits.TheConstants.{GREATEST_COUNT}
use Rattle.cd_record.specs.declared.record.Record.{Record}
use Rattle.cd_record.specs.RecordText.{record_text, record_text_v1}

-- what each child info of the program is: four hashes of 32 bytes, and four depths of two
pub record IsInfo (k : ChildInfo) : Type 0 where
  pub hashes : length k.hashes ≡ 4
  pub depths : length k.depths ≡ 4
  pub bytes : (l : ℕ) → length (info_hash k l).0 ≡ 32
  pub numbers : (l : ℕ) → info_depth k l < 2 ^ 16

-- a record as it may be written: a child shows at a level that isn't significant what it shows at the level below
pub record IsRecord (r : Record) : Type 0 where
  pub some : 1 ≤ r.count
  pub few : r.count ≤ GREATEST_COUNT
  pub face : IsGoodFace r.face
  pub steady : AllByRecursion IsSteady r.face.kids
  pub infos : AllByRecursion IsInfo r.face.kids

-- the bytes spell the record in version 2, or in version 1, which has counts of four bytes alone
abbrev pub IsTextOf : Record → List ℕ → Type 0
IsTextOf r bytes = (bytes ≡ record_text r.count r.face) ⊎ ((r.count < 2 ^ 32) × (bytes ≡ record_text_v1 r.count r.face))

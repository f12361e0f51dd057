-- Trusted: reading a record from left to right, with the first fault that is met.
use Rattle.std.specs.Prelude.{◌≡◌, ℕ, zero, suc, ◌+◌, ◌-◌, ◌*◌, ◌/◌, ◌%◌, ◌==◌, nat_lt, Bool, not, ◌&&◌, ◌||◌, List, [], ◌∷◌, length, take, drop, slice_index, Option, Some, None, Result, Ok, Err, if◌then◌else◌}
use Rattle.std.specs.Int.{w16, from_be_bytes}
use Rattle.cd_base.specs.declared.hash.Hash256.{Hash256}
use Rattle.cd_base.specs.Reading.{◌>>=◌, part_at, byte_at, number_at, each_at}
use Rattle.cd_cell.specs.declared.info.ChildInfo.{ChildInfo}
use Rattle.cd_cell.specs.declared.cell_fault.CellFault.{CellFault}
use Rattle.cd_cell.specs.Masks.{lowest_bits, bit_count}
use Rattle.cd_cell.specs.BitText.{is_odd, data_bits}
use Rattle.cd_cell.specs.FaceView.{FaceView}
use Rattle.cd_cell.specs.Levels.{mask_of_face}
use Rattle.cd_cell.specs.CellFaults.{face_fault}
use Rattle.cd_record.specs.declared.limits.TheConstants.{GREATEST_COUNT}
use Rattle.cd_record.specs.declared.record.Record.{Record}
use Rattle.cd_record.specs.declared.record_fault.RecordFault.{RecordFault}
use Rattle.cd_record.specs.declared.record_fault.RecordFault.TheVariants.{Version, Cut, Extra, Form, Cell}

-- the first byte, which is 01 or 02
unfoldable pub version_at : List ℕ → Result (ℕ × List ℕ) RecordFault
version_at bytes = do
  version ← byte_at Cut bytes
  if version.0 == 1 || version.0 == 2 then Ok version else Err (Version version.0)

-- how many bytes of count a version has
abbrev pub count_len : ℕ → ℕ
count_len version = if version == 1 then 4 else 8

-- so many bytes of count, which is neither 0 nor over the greatest
unfoldable pub count_at : ℕ → List ℕ → Result (ℕ × List ℕ) RecordFault
count_at len bytes = do
  count ← number_at Cut len bytes
  if count.0 == 0 || nat_lt GREATEST_COUNT count.0 then Err Form else Ok count

-- the first descriptor: at most four references, and no stored hashes
unfoldable pub descriptor_at : List ℕ → Result (ℕ × List ℕ) RecordFault
descriptor_at bytes = do
  descriptor ← byte_at Cut bytes
  if is_odd (descriptor.0 / 16) || nat_lt 4 (descriptor.0 % 8) then Err Form else Ok descriptor

-- whether data of an odd second descriptor have no completion in their last byte
abbrev pub lacks_completion : ℕ → List ℕ → Bool
lacks_completion descriptor bytes = is_odd descriptor && (slice_index bytes (length bytes - 1) % 128 == 0)

-- the second descriptor, and the data
unfoldable pub bits_at : List ℕ → Result (List Bool × List ℕ) RecordFault
bits_at bytes = do
  descriptor ← byte_at Cut bytes
  part ← part_at Cut ((descriptor.0 + 1) / 2) descriptor.1
  if lacks_completion descriptor.0 part.0 then Err Form else Ok (data_bits (not (is_odd descriptor.0)) part.0, part.1)

-- the place of a level's hash among those at the significant levels
abbrev pub place_at_level : ℕ → ℕ → ℕ
place_at_level mask l = bit_count (lowest_bits mask l)

abbrev pub hash_in : ℕ → List ℕ → ℕ → Hash256
hash_in mask hashes l = record { 0 = take 32 (drop (32 * place_at_level mask l) hashes) }

abbrev pub depth_in : ℕ → List ℕ → ℕ → ℕ
depth_in mask depths l = from_be_bytes w16 (take 2 (drop (2 * place_at_level mask l) depths))

-- what a child shows, by its hashes and depths at the significant levels
abbrev pub info_in : ℕ → List ℕ → List ℕ → ChildInfo
info_in mask hashes depths = record {
  mask = mask;
  hashes = hash_in mask hashes 0 ∷ hash_in mask hashes 1 ∷ hash_in mask hashes 2 ∷ hash_in mask hashes 3 ∷ [];
  depths = depth_in mask depths 0 ∷ depth_in mask depths 1 ∷ depth_in mask depths 2 ∷ depth_in mask depths 3 ∷ [];
}

-- a child's mask
unfoldable pub mask_at : List ℕ → Result (ℕ × List ℕ) RecordFault
mask_at bytes = do
  mask ← byte_at Cut bytes
  if nat_lt 7 mask.0 then Err Form else Ok mask

-- a child: its mask, its hashes, and its depths
unfoldable pub kid_at : List ℕ → Result (ChildInfo × List ℕ) RecordFault
kid_at bytes = do
  mask ← mask_at bytes
  hashes ← part_at Cut (32 * (bit_count mask.0 + 1)) mask.1
  depths ← part_at Cut (2 * (bit_count mask.0 + 1)) hashes.1
  Ok (info_in mask.0 hashes.0 depths.0, depths.1)

-- a face that has no fault of its own, and the mask that its text states
abbrev pub record_of : ℕ → ℕ → FaceView → Option CellFault → Result Record RecordFault
record_of count mask face (Some fault) = Err (Cell fault)
record_of count mask face None = if mask_of_face face == mask then Ok (record { count = count; face = face }) else Err Form

-- all of the bytes
unfoldable pub record_in : List ℕ → Result Record RecordFault
record_in bytes = do
  version ← version_at bytes
  count ← count_at (count_len version.0) version.1
  descriptor ← descriptor_at count.1
  bits ← bits_at descriptor.1
  kids ← each_at kid_at (descriptor.0 % 8) bits.1
  if length kids.1 == 0
      then (let face : FaceView = record { exotic = is_odd (descriptor.0 / 8); bits = bits.0; kids = kids.0 } in
      record_of count.0 (descriptor.0 / 32) face (face_fault face))
      else Err Extra

-- Trusted: bits as bytes: the data of a cell, with the completion of a last byte that isn't full.
use Rattle.std.specs.Prelude.{ℕ, zero, suc, ◌+◌, ◌-◌, ◌*◌, ◌/◌, ◌%◌, Bool, true, false, List, [], ◌∷◌, ◌++◌, length, take, drop, replicate, ◌==◌, ◌≡◌, ◌≢◌, ◌≤◌, ◌<◌, slice_index, if◌then◌else◌}
use Rattle.std.specs.List.{flat_map}
use Rattle.std.specs.Int.{w8, trailing_zeros}
use Rattle.cd_cell.specs.declared.limits.TheConstants.{MOST_BITS}

-- whether the lowest bit is set
abbrev pub is_odd : ℕ → Bool
is_odd n = n % 2 == 1

-- a bit as a number
abbrev pub bit_value : Bool → ℕ
bit_value b = if b then 1 else 0

-- the number that the bits spell, the highest bit first
abbrev pub number_from : ℕ → List Bool → ℕ
number_from n [] = n
number_from n (b ∷ bs) = number_from (2 * n + bit_value b) bs

-- at most eight bits as one byte; fewer than eight are completed by one 1 and then zeros
abbrev pub byte_of_bits : List Bool → ℕ
byte_of_bits bs = number_from 0 (if length bs == 8 then bs else bs ++ true ∷ replicate (7 - length bs) false)

-- the first 8 · n bits, eight a byte
unfoldable pub packed : ℕ → List Bool → List ℕ
packed zero bs = []
packed (suc n) bs = byte_of_bits (take 8 bs) ∷ packed n (drop 8 bs)

-- the number of bytes that so many bits take
abbrev pub byte_count : ℕ → ℕ
byte_count bits = (bits + 7) / 8

-- the data of a cell as bytes (TVM documentation, "Standard cell representation")
abbrev pub data_of : List Bool → List ℕ
data_of bs = packed (byte_count (length bs)) bs

-- the bits of a byte, the highest first
abbrev pub bits_of_byte : ℕ → List Bool
bits_of_byte byte =
    is_odd (byte / 128) ∷ is_odd (byte / 64) ∷ is_odd (byte / 32) ∷ is_odd (byte / 16) ∷ is_odd (byte / 8) ∷ is_odd (byte / 4) ∷ is_odd (byte / 2) ∷ is_odd byte ∷ []

-- the first bits of some bytes
abbrev pub first_bits : ℕ → List ℕ → List Bool
first_bits count bytes = take count (flat_map bits_of_byte bytes)

-- bytes with zeros behind them, 128 in all
abbrev pub filled : List ℕ → List ℕ
filled bytes = bytes ++ replicate (128 - length bytes) 0

-- the first bits of the 128 bytes are a cell's data, and zeros stand behind them
pub record IsBitText (bytes : List ℕ) (count : ℕ) : Type 0 where
  pub few : count ≤ MOST_BITS
  pub counted : length (first_bits count bytes) ≡ count
  pub text : bytes ≡ filled (data_of (first_bits count bytes))

-- bytes are the data of some bits, of whole bytes or of a last byte that was completed
abbrev pub IsBitData : Bool → List ℕ → Type 0
IsBitData true bytes = length bytes ≤ 127
IsBitData false bytes = (0 < length bytes) × (length bytes ≤ 128) × (slice_index bytes (length bytes - 1) % 128 ≢ 0)

-- how many bits such bytes are the data of: all, or those before the lowest set bit of the last byte
abbrev pub data_bit_count : Bool → List ℕ → ℕ
data_bit_count true bytes = 8 * length bytes
data_bit_count false bytes = 8 * length bytes - 1 - trailing_zeros w8 (slice_index bytes (length bytes - 1))

-- the bits whose data such bytes are
abbrev pub data_bits : Bool → List ℕ → List Bool
data_bits whole bytes = first_bits (data_bit_count whole bytes) bytes

-- Trusted: where the cells of an export lie.
use Rattle.std.specs.Prelude.{ℕ, ◌-◌, ◌^◌, ◌<◌, ◌≤◌, List, ◌∷◌, length, slice_index}

-- the bytes of all cells: the last end
abbrev pub data_len : List ℕ → ℕ
data_len ends = slice_index ends (length ends - 1)

-- where the text of a cell begins: at the end of the one before
abbrev pub start_of : List ℕ → ℕ → ℕ
start_of ends number = slice_index (0 ∷ ends) number

-- the sizes are those of a bag, each cell ends behind the one before it, and all offsets lie below 2^32
pub record IsLayout (size off_bytes header_len : ℕ) (ends : List ℕ) : Type 0 where
  pub some_size : 1 ≤ size
  pub most_size : size ≤ 4
  pub some_off_bytes : 1 ≤ off_bytes
  pub most_off_bytes : off_bytes ≤ 8
  pub few : length ends ≤ 1048576
  pub header : header_len < 2 ^ 32
  pub rising : (j k : ℕ) → j < k → k < length ends → slice_index ends j < slice_index ends k
  pub within : (k : ℕ) → k < length ends → slice_index ends k < 2 ^ 32

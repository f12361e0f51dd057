-- Trusted: numbers as bytes.
use Rattle.std.specs.Prelude.{ℕ, zero, suc, ◌+◌, ◌*◌, ◌/◌, ◌%◌, ◌<◌, List, [], ◌∷◌, reverse, fold, slice_index}

-- the lowest n bytes of a number, the lowest first
unfoldable pub little : ℕ → ℕ → List ℕ
little zero value = []
little (suc n) value = value % 256 ∷ little n (value / 256)

-- the lowest n bytes of a number, the highest of them first
abbrev pub big : ℕ → ℕ → List ℕ
big n value = reverse (little n value)

-- the number whose bytes these are, the lowest first
unfoldable pub from_little : List ℕ → ℕ
from_little [] = 0
from_little (byte ∷ bytes) = byte + 256 * from_little bytes

-- the number whose bytes these are, the highest first
abbrev pub from_big : List ℕ → ℕ
from_big bytes = fold (λ value byte. 256 * value + byte) 0 bytes

-- each of the numbers is a byte
abbrev pub IsBytes : List ℕ → Type 0
IsBytes bytes = (i : ℕ) → slice_index bytes i < 256

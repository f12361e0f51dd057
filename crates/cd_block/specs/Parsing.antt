-- Trusted: reading the spelling of an id from left to right. That it reads what is spelt, and nothing else, is a law.
use Rattle.std.specs.Prelude.{ℕ, zero, suc, ◌^◌, ◌==◌, ◌&&◌, nat_lt, not, Bool, false, ℤ, pos, negsuc, List, [], ◌∷◌, Option, Some, None, if◌then◌else◌}
use Rattle.std.specs.Option.{option_map}
use Rattle.std.specs.Result.{result_ok}
use Rattle.std.specs.List.{list_any, list_all}
use Rattle.std.specs.Int.{w64, from_be_bytes, is_in_range}
use Rattle.std.specs.Char.{is_ascii_digit}
use Rattle.std.specs.Str.Parse.{digits_value}
use Rattle.hex.specs.Hex.{decode_sized}
use Rattle.cd_block.specs.declared.block.BlockId.{BlockId}

-- the ? of options
infixl 10 ◌>>=◌
abbrev pub ◌>>=◌ : {A B : Type 0} → Option A → (A → Option B) → Option B
None >>= f = None
(Some x) >>= f = f x

-- what stands behind a sign at the front
unfoldable pub behind : ℕ → List ℕ → Option (List ℕ)
behind sign [] = None
behind sign (c ∷ rest) = if c == sign then Some rest else None

-- what stands before and behind the first such sign
unfoldable pub around : ℕ → List ℕ → Option (List ℕ × List ℕ)
around sign [] = None
around sign (c ∷ rest) = if c == sign then Some ([], rest) else option_map (λ p. (c ∷ p.0, p.1)) (around sign rest)

-- decimal digits with no needless leading zero
unfoldable pub is_plain : List ℕ → Bool
is_plain [] = false
is_plain (c ∷ []) = is_ascii_digit c
is_plain (c ∷ d ∷ rest) = not (c == 48) && list_all is_ascii_digit (c ∷ d ∷ rest)

-- the number below the limit that the digits spell
unfoldable pub number_of : ℕ → List ℕ → Option ℕ
number_of limit text =
    if is_plain text && nat_lt (digits_value 10 text) limit then Some (digits_value 10 text) else None

-- a number from 0 on, and one below 0, of which 0 is none, where they lie in 32 bits
unfoldable pub from_zero : ℕ → Option ℤ
from_zero n = if nat_lt n (2 ^ 31) then Some (pos n) else None

unfoldable pub below_zero : ℕ → Option ℤ
below_zero zero = None
below_zero (suc n) = if nat_lt n (2 ^ 31) then Some (negsuc n) else None

-- the number that a text spells, from what stands behind its sign
unfoldable pub signed_of : Option (List ℕ) → List ℕ → Option ℤ
signed_of None text = number_of (2 ^ 32) text >>= from_zero
signed_of (Some digits) text = number_of (2 ^ 32) digits >>= below_zero

-- one of the letters A to Z
abbrev pub is_upper_case : ℕ → Bool
is_upper_case c = is_in_range 65 90 c

-- so many bytes in lower-case hex
unfoldable pub hex_of : ℕ → List ℕ → Option (List ℕ)
hex_of n text = if list_any is_upper_case text then None else result_ok (decode_sized text n)

-- the id that a whole text spells
unfoldable pub id_in : List ℕ → Option BlockId
id_in text = do
  inner ← behind 40 text
  chain ← around 44 inner
  shard ← around 44 chain.1
  seqno ← around 41 shard.1
  hashes ← behind 58 seqno.1
  root ← around 58 hashes
  workchain ← signed_of (behind 45 chain.0) chain.0
  number ← hex_of 8 shard.0
  place ← number_of (2 ^ 32) seqno.0
  r ← hex_of 32 root.0
  f ← hex_of 32 root.1
  Some (record {
    shard_id = record { workchain = workchain; shard = from_be_bytes w64 number };
    seqno = place;
    root = record { 0 = r };
    file = record { 0 = f };
  })

-- Trusted: what a call does to the bytes that a source has left or a sink has taken. These are equations, so that
-- an object that doesn't tell them (None) goes on not telling.
use Rattle.std.specs.Prelude.{◌≡◌, ℕ, ◌≤◌, Option, List, [], length, take, IfSome}
use Rattle.std.specs.Io.KnownBytes.{prepend_known, append_known}

-- the bytes left began with these, which are gone now
abbrev pub Gave : Option (List ℕ) → Option (List ℕ) → List ℕ → Type 0
Gave old new bytes = old ≡ prepend_known bytes new

-- some bytes of which P holds were given
pub record GaveSome (old new : Option (List ℕ)) (P : List ℕ → Type 0) : Type 0 where
  pub bytes : List ℕ
  pub gave : Gave old new bytes
  pub are : P bytes

-- no byte is left
abbrev pub IsAtEnd : Option (List ℕ) → Type 0
IsAtEnd told = IfSome told (λ left. left ≡ [])

-- the bytes taken have these at their end now
abbrev pub Got : Option (List ℕ) → Option (List ℕ) → List ℕ → Type 0
Got old new bytes = new ≡ append_known old bytes

-- some prefix of the piece was taken
pub record GotPart (old new : Option (List ℕ)) (piece : List ℕ) : Type 0 where
  pub count : ℕ
  pub within : count ≤ length piece
  pub got : Got old new (take count piece)

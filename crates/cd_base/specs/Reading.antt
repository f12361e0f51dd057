-- Trusted: reading bytes from left to right, with the first fault that is met, whatever a format's faults are.
use Rattle.std.specs.Prelude.{◌≡◌, ◌≢◌, ℕ, zero, suc, Bool, nat_lt, List, [], ◌∷◌, length, take, drop, Result, Ok, Err, if◌then◌else◌}
use Rattle.cd_base.specs.Numbers.{from_big}

-- a step, and what follows it where it gave a value
infixl 10 ◌>>=◌
abbrev pub ◌>>=◌ : {F A B : Type 0} → Result A F → (A → Result B F) → Result B F
(Ok x) >>= f = f x
(Err e) >>= f = Err e

-- What a call answered, seen by view, is what reading gives.
abbrev pub Gives : {F X Y : Type 0} → (X → Y) → Result X F → Result Y F → Type 0
Gives view (Ok x) read = read ≡ Ok (view x)
Gives view (Err e) read = read ≡ Err e

-- The same of a call that takes memory: it may answer want of memory in place of what reading gives.
abbrev pub GivesUnless : {F X Y : Type 0} → F → (X → Y) → Result X F → Result Y F → Type 0
GivesUnless memory view (Ok x) read = read ≡ Ok (view x)
GivesUnless memory view (Err e) read = e ≢ memory → read ≡ Err e

-- the fault, where the test fails
abbrev pub require : {F : Type 0} → Bool → F → Result (Unit {0}) F
require holds fault = if holds then Ok tt else Err fault

-- so many bytes, and those behind them
unfoldable pub part_at : {F : Type 0} → F → ℕ → List ℕ → Result (List ℕ × List ℕ) F
part_at fault len bytes = if nat_lt (length bytes) len then Err fault else Ok (take len bytes, drop len bytes)

-- one byte, and those behind it
unfoldable pub byte_at : {F : Type 0} → F → List ℕ → Result (ℕ × List ℕ) F
byte_at fault [] = Err fault
byte_at fault (byte ∷ rest) = Ok (byte, rest)

-- a number in so many bytes, the highest byte first, and the bytes behind it
unfoldable pub number_at : {F : Type 0} → F → ℕ → List ℕ → Result (ℕ × List ℕ) F
number_at fault len bytes = do
  part ← part_at fault len bytes
  Ok (from_big part.0, part.1)

-- so many values one behind another, each read alike
unfoldable pub each_at : {F X : Type 0} → (List ℕ → Result (X × List ℕ) F) → ℕ → List ℕ → Result (List X × List ℕ) F
each_at one zero bytes = Ok ([], bytes)
each_at one (suc count) bytes = do
  first ← one bytes
  others ← each_at one count first.1
  Ok (first.0 ∷ others.0, others.1)

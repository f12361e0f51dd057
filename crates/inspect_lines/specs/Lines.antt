-- Trusted: the lines of an input, and texts that have a part for each of some lines.
use Rattle.std.specs.Prelude.{◌≡◌, ◌⊎◌, ℕ, List, [], ◌∷◌, ◌++◌, ◌==◌, if◌then◌else◌, length, Option, Some, IfSome, Ok, IsErr, codes}
use Rattle.std.specs.List.{slice_split}
use Rattle.std.specs.Io.BufRead.{strip_last}
use Rattle.hex.specs.Hex.{decode_of}

-- the lines of an input, which is cut at each newline; the last one may lack its end, and no input has none
abbrev pub lines_in : List ℕ → List (List ℕ)
lines_in input = if length input == 0 then [] else slice_split (λ b. b == 10) (strip_last 10 input)

-- a line with its end, which shows this text; some text, where it isn't told
abbrev pub IsLineOf : Option (List ℕ) → List ℕ → Type 0
IsLineOf told part = (line : List ℕ) × IfSome told (λ text. line ≡ text) × (part ≡ line ++ 10 ∷ [])

module _ (Says : List ℕ → List ℕ → Type 0) where
  -- this says of the bytes that a line has in hexadecimal what is to be said of them, or that it is no hexadecimal
  abbrev pub SaysOfLine : List ℕ → List ℕ → Type 0
  SaysOfLine line part =
      ((bytes : List ℕ) × (decode_of line ≡ Ok bytes) × Says bytes part)
      ⊎ (IsErr (decode_of line) × IsLineOf (Some (codes "not hexadecimal")) part)

  -- a text is a part for each of these lines, in their order, of which each says what it is to say of its line
  abbrev pub IsMadeOf : List (List ℕ) → List ℕ → Type 0
  IsMadeOf [] text = text ≡ []
  IsMadeOf (line ∷ lines) text =
      (part : List ℕ) × (rest : List ℕ) × Says line part × IsMadeOf lines rest × (text ≡ part ++ rest)

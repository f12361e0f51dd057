-- Trusted: parts of a text by offsets.
use Rattle.std.specs.Prelude.{ℕ, ◌-◌, List, ◌++◌, length, take, drop, replicate, min}

-- the part of a text from an offset on, of at most so many bytes
abbrev pub part_of : List ℕ → ℕ → ℕ → List ℕ
part_of text offset most = take most (drop offset text)

-- what of a text that begins at `start` lies between two offsets
abbrev pub window : ℕ → ℕ → ℕ → List ℕ → List ℕ
window start from until text = drop (from - start) (take (until - start) text)

-- a text of so many bytes: what is over goes, and what is missing are zeros
abbrev pub filled : ℕ → List ℕ → List ℕ
filled len text = take len (text ++ replicate (len - length text) 0)

-- how long such a part is of a text of so many bytes
abbrev pub window_len : ℕ → ℕ → ℕ → ℕ → ℕ
window_len start from until len = min (until - start) len - (from - start)

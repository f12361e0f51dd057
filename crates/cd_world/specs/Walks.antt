-- Inner: going over a table's entries in the order of their keys, by the key that was met last.
use Rattle.std.specs.Prelude.{ℕ, List, filter, Option}
use Rattle.cd_keeper.specs.Contents.{is_above}

-- the entries that are left above a key
abbrev pub above : Option (List ℕ) → List (List ℕ × List ℕ) → List (List ℕ × List ℕ)
above after es = filter (λ e. is_above after e.0) es

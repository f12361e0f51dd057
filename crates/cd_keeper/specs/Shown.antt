-- Trusted: entries, keys and vectors, as contracts see them: as bytes.
use Rattle.std.specs.Prelude.{ℕ, List, Vec, Option, None, Some, map}
use Rattle.std.specs.Global.{Global}
use Rattle.std.specs.declared.ops.Bound.{Bound}
use Rattle.std.specs.declared.ops.Bound.TheVariants.{Unbounded, Excluded}
use Rattle.std.specs.FinMap as finite
use Rattle.cd_base.specs.declared.hash.Hash256.{Hash256}
use Rattle.cd_keeper.specs.Contents.{Table}

module _ {K : Type 0} (bytes : K → List ℕ) where
  -- a key and a value as bytes
  abbrev pub entry_of : K × Vec ℕ Global → List ℕ × List ℕ
  entry_of e = (bytes e.0, e.1.items)

  abbrev pub entries_of : List (K × Vec ℕ Global) → List (List ℕ × List ℕ)
  entries_of es = map entry_of es

  abbrev pub table_of : List (K × Vec ℕ Global) → Table
  table_of es = finite.from_entries (entries_of es)

-- a hash as a key
abbrev pub hash_bytes : Hash256 → List ℕ
hash_bytes hash = hash.0

-- the key of a description as it is
abbrev pub desc_bytes : List ℕ → List ℕ
desc_bytes key = key

-- the start of a range of the keys above one, or of all keys
abbrev pub above : {K : Type 0} → Option K → Bound K
above None = Unbounded
above (Some key) = Excluded key

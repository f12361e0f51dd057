-- Inner: how a batch whose memory runs out in its middle is taken back.
use Rattle.std.specs.Prelude.{◌≡◌, ℕ, false, List, [], ◌∷◌, length, reverse, map, Option, Some, None, Vec, ◌==◌, if◌then◌else◌, ⊤}
use Rattle.std.specs.Global.{Global}
use Rattle.std.specs.FinMap as finite
use Rattle.cd_keeper.specs.Contents.{Table}

-- a value put back under a key that is there
abbrev pub put_back : Table → List ℕ → List ℕ → Table
put_back table key value = if finite.contains_key table key then finite.insert table key value else table

-- the table without some puts, the last first: their keys, and the values that they replaced, each with its put's number
abbrev pub undone : Table → List (List ℕ) → List (ℕ × List ℕ) → Table
undone table [] replaced = table
undone table (key ∷ keys) [] = undone (finite.remove table key) keys []
undone table (key ∷ keys) (old ∷ replaced) =
    if old.0 == length keys then undone (put_back table key old.1) keys replaced
    else undone (finite.remove table key) keys (old ∷ replaced)

-- the keys of some puts, the last first
abbrev pub keys_back : {K : Type 0} → (K → List ℕ) → List (K × Vec ℕ Global) → List (List ℕ)
keys_back bytes puts = reverse (map (λ e. bytes e.0) puts)

-- what some puts replaced, the last first
abbrev pub latest : List (ℕ × Vec ℕ Global) → List (ℕ × List ℕ)
latest replaced = reverse (map (λ old. (old.0, old.1.items)) replaced)

-- the list after the put of this number, which replaced a value or none
abbrev pub with_replaced : ℕ → Option (List ℕ) → List (ℕ × List ℕ) → List (ℕ × List ℕ)
with_replaced at None replaced = replaced
with_replaced at (Some value) replaced = (at, value) ∷ replaced

-- the latest value was not replaced by the put of this number
abbrev pub IsOther : ℕ → List (ℕ × List ℕ) → Type 0
IsOther at [] = ⊤
IsOther at (old ∷ replaced) = (old.0 == at) ≡ false
